use Rattle.std.proofs.Common.{◌≡◌, ◌∙◌, sym, ap, Some, None, map, codes}
use Rattle.std.specs.Option.{option_map}
use Rattle.clap.proofs.WalkLemmas.{raw_values-rows}
use Rattle.clap.specs.Walk.{all_of, texts}
use Rattle.clap.specs.Words.{found_of, rows_of}
use Rattle.ttd_words.specs.Reading.{line_at}
use Rattle.ttd_words.proofs.GivenRows.{joined}
use Rattle.ttd_words.proofs.values.line_at.Goals as goal

pub returns-in_ok-join-in-Some : goal.returns-in_ok-join-in-Some
returns-in_ok-join-in-Some c =
    let f = found_of c.args.matches.now in
    let given : all_of c.args.id.now (rows_of f) ≡ Some (texts c.in-Some.words.now) =
    sym (raw_values-rows f c.args.id.now) ∙ (sym c.get_strs.ensures ∙ ap (option_map (λ s. map (λ v. v.now) s.now)) c.in-Some.is) in
    ap Some (c.in_ok-join-in-Some.ensures.ok ∙ joined (codes " ") c.in-Some.words.now) ∙ sym (ap line_at given)

pub returns-in-None : goal.returns-in-None
returns-in-None c =
    let f = found_of c.args.matches.now in
    let given : all_of c.args.id.now (rows_of f) ≡ None =
    sym (raw_values-rows f c.args.id.now) ∙ (sym c.get_strs.ensures ∙ ap (option_map (λ s. map (λ v. v.now) s.now)) c.in-None.is) in
    sym (ap line_at given)
