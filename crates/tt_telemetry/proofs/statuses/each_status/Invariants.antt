-- The statuses of the sources so far are made.
use Rattle.std.proofs.Common.{◌≡◌, ℕ, ◌<◌, get_or, length}
use Rattle.tt_telemetry.specs.Records.{tally_at}
use Rattle.tt_telemetry.specs.Status.{no_source_status, notice_at, source_status}
use Rattle.tt_telemetry.proofs.statuses.each_status.Given as goal

abbrev pub invariant-loop-source : goal.invariant-loop-source
invariant-loop-source l =
    record {
      made : (k : ℕ) → k < l.source → get_or l.statuses k no_source_status ≡ source_status l.shown (tally_at l.each k) (notice_at l.notices l.unsent l.seals k) k l.now;
      long : length l.statuses ≡ 16;
    }
