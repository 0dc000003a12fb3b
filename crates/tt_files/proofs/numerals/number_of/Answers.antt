use Rattle.std.proofs.Common.{◌≡◌, ℕ, List, sym, subst, ap, ◌∙◌}
use Rattle.std.specs.Prelude.{IsAscii}
use Rattle.std.specs.Fmt.{decimal}
use Rattle.std.proofs.lemmas.Bool.{both_ways}
use Rattle.std.proofs.lemmas.Bool.Decides.{Decides-eqb}
use Rattle.std.proofs.lemmas.Fmt.{IsAscii-decimal, parse-decimal}
use Rattle.std.proofs.lemmas.Slice.Eq.{slice_eq-Decides}
use Rattle.std.proofs.lemmas.Str.{IsUtf8-from_ascii}
use Rattle.tt_files.proofs.numerals.number_of.Goals as goal

pub returns-in_default : goal.returns-in_default
returns-in_default c = record {
  read = λ n fits is.
      c.in_default.ensures.cases.0 (IsUtf8-from_ascii c.args.digits.now (subst (λ (ds : List ℕ). IsAscii ds) (sym is) (IsAscii-decimal n fits)));
}

pub returns-in_default-parse : goal.returns-in_default-parse
returns-in_default-parse c = record {
  read = λ n fits is.
      let e = parse-decimal 64 n c.in-Ok.text.now c.parse.result fits fits (c.in-Ok.ensures.cases.0 ∙ is) c.parse.ensures.value.0 in
      cc (e, c.in_default-parse.is);
}

pub returns-else-eq : goal.returns-else-eq
returns-else-eq c = record {
  read = λ n fits is.
      let e = parse-decimal 64 n c.in-Ok.text.now c.parse.result fits fits (c.in-Ok.ensures.cases.0 ∙ is) c.parse.ensures.value.0 in
      let number : c.in-Ok-parse.number ≡ n = cc (e, c.in-Ok-parse.is) in
      let same : c.format.result.now ≡ c.in-Ok.text.now = c.format.ensures.text ∙ (ap decimal number ∙ (sym is ∙ sym c.in-Ok.ensures.cases.0)) in
      both_ways c.eq.result c.if-eq.false ((slice_eq-Decides Decides-eqb c.format.result.now c.in-Ok.text.now c.eq.result c.eq.ensures).1 same);
}
