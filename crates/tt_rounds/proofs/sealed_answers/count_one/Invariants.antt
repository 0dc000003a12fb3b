-- The counts before this place were gone through.
use Rattle.std.proofs.Common.{◌≡◌, ◌++◌, map, take, drop}
use Rattle.tt_rounds.specs.Answering.{count_with}
use Rattle.tt_rounds.proofs.sealed_answers.count_one.Given as goal

abbrev pub invariant-counts : goal.invariant-counts
invariant-counts l = l.counts ≡ map (count_with l.number) (take l.place l.fn.counts) ++ drop l.place l.fn.counts
