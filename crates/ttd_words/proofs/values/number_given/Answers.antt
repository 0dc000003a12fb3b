use Rattle.std.proofs.Common.{◌∙◌}
use Rattle.std.specs.Str.Parse.{ExplainsUnsignedError, HasUnsignedDigitsIfOk, ParsesUnsigned}
use Rattle.clap.proofs.WalkLemmas.{one_text-rows}
use Rattle.clap.specs.Walk.{one_of, rows_of}
use Rattle.clap.specs.Words.{found_of}
use Rattle.ttd_words.proofs.GivenRows.{number_found}
use Rattle.ttd_words.proofs.values.number_given.Goals as goal

pub returns : goal.returns
returns c =
    let f = found_of c.args.matches.now in
    let id = c.args.id.now in
    number_found _ (λ bs r. ParsesUnsigned 64 10 bs r × ExplainsUnsignedError 10 bs r × HasUnsignedDigitsIfOk bs r) (λ u x g. g.0)
    (one_of id (rows_of f)) c.get_one.result (λ e. c.get_one.ensures.none (one_text-rows f id ∙ e)) (λ t e. c.get_one.ensures.value t (one_text-rows f id ∙ e))
