-- The counts before this one are of other keys.
use Rattle.std.proofs.Common.{◌≡◌, drop}
use Rattle.tt_rounds.specs.Answering.{answers_in}
use Rattle.tt_rounds.proofs.sealed_answers.answers_under.Given as goal

abbrev pub invariant-counts : goal.invariant-counts
invariant-counts l = answers_in l.counts l.number ≡ answers_in (drop l.count-index l.counts) l.number
