use Rattle.std.proofs.Common.{◌≡◌, Ok, Err, subst, sym, ap, ◌∙◌}
use Rattle.std.specs.Prelude.{MatchResult}
use Rattle.std.proofs.lemmas.Bool.{both_ways}
use Rattle.std.proofs.lemmas.Bool.Decides.{Decides-eqb}
use Rattle.std.proofs.lemmas.Slice.Eq.{slice_eq-Decides}
use Rattle.hex.specs.Hex.{encode_lower}
use Rattle.tt_keys.proofs.Parting.{decodes}
use Rattle.tt_keys.proofs.lines.bytes_of.Goals as goal

pub returns-in_default : goal.returns-in_default
returns-in_default c = λ bytes len small is.
    let v = subst (λ r. MatchResult r (λ bs. (c.decode_to_slice.result ≡ Ok tt) × (c.decode_to_slice.new.out ≡ bs)) (λ e. c.decode_to_slice.result ≡ Err e))
    (decodes c.args.digits.now bytes len small is) c.decode_to_slice.ensures.value in
    cc (v.0, c.in_default.is)

pub returns-else-eq : goal.returns-else-eq
returns-else-eq c = λ bytes len small is.
    let v = subst (λ r. MatchResult r (λ bs. (c.decode_to_slice.result ≡ Ok tt) × (c.decode_to_slice.new.out ≡ bs)) (λ e. c.decode_to_slice.result ≡ Err e))
    (decodes c.args.digits.now bytes len small is) c.decode_to_slice.ensures.value in
    let same : c.args.digits.now ≡ c.as_slice.result.now = is ∙ ap encode_lower (sym v.1) ∙ sym c.digits_of.ensures.value ∙ sym c.as_slice.ensures in
    both_ways c.eq.result c.if-eq.false ((slice_eq-Decides Decides-eqb c.args.digits.now c.as_slice.result.now c.eq.result c.eq.ensures).1 same)

pub returns-then-eq : goal.returns-then-eq
returns-then-eq c =
    let same = (slice_eq-Decides Decides-eqb c.args.digits.now c.as_slice.result.now c.eq.result c.eq.ensures).0 c.if-eq.true in
    (c.digits_of.ensures.whole, c.digits_of.ensures.bytes, same ∙ c.as_slice.ensures ∙ c.digits_of.ensures.value)
