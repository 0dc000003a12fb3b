use Rattle.std.proofs.Common.{◌≡◌, ◌∙◌, sym, ap, Some, None}
use Rattle.std.specs.Prelude.{ok_or}
use Rattle.std.specs.Option.{option_map}
use Rattle.clap.proofs.WalkLemmas.{first_value-rows}
use Rattle.clap.specs.Walk.{first_of}
use Rattle.clap.specs.Words.{found_of, rows_of}
use Rattle.ttd_words.specs.declared.faults.WordsFault.TheVariants.{BadWords}
use Rattle.ttd_words.proofs.values.text_at.Goals as goal

pub returns-in-Some : goal.returns-in-Some
returns-in-Some c =
    let f = found_of c.args.matches.now in
    let given : first_of c.args.id.now (rows_of f) ≡ Some c.in-Some.text.now =
    sym (first_value-rows f c.args.id.now) ∙ (sym c.get_str.ensures ∙ ap (option_map (λ s. s.now)) c.in-Some.is) in
    ap (λ o. ok_or o BadWords) given

pub returns-in-None : goal.returns-in-None
returns-in-None c =
    let f = found_of c.args.matches.now in
    let given : first_of c.args.id.now (rows_of f) ≡ None =
    sym (first_value-rows f c.args.id.now) ∙ (sym c.get_str.ensures ∙ ap (option_map (λ s. s.now)) c.in-None.is) in
    ap (λ o. ok_or o BadWords) given
