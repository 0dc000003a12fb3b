-- The sources so far have their last answers.
use Rattle.std.proofs.Common.{◌≡◌, ℕ, ◌<◌, get_or, length}
use Rattle.std.specs.Prelude.{None}
use Rattle.tt_rounds.specs.Reports.{silent}
use Rattle.tt_health.specs.Answers.{answer_at, last_after}
use Rattle.tt_health.proofs.answers.answers_after.Given as goal

abbrev pub invariant-loop-source : goal.invariant-loop-source
invariant-loop-source l =
    record {
      known : (k : ℕ) → k < l.source → get_or l.next k None ≡ last_after (answer_at l.answers k) (get_or l.sources k silent);
      long : length l.next ≡ 16;
    }
