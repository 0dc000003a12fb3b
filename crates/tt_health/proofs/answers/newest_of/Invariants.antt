-- The answers from one place on were looked at.
use Rattle.std.proofs.Common.{◌≡◌, ◌≤◌, length, drop}
use Rattle.tt_health.specs.Answers.{newest_among}
use Rattle.tt_health.proofs.answers.newest_of.Given as goal

abbrev pub invariant-loop-at : goal.invariant-loop-at
invariant-loop-at l =
    record {
      newest : l.newest ≡ newest_among l.answers l.n (drop l.at l.answers);
      within : l.at ≤ length l.answers;
    }

abbrev pub decreases-loop-at : goal.decreases-loop-at
decreases-loop-at l = l.at
