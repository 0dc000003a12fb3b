-- The sources so far are counted.
use Rattle.std.proofs.Common.{◌≡◌, ℕ, ◌<◌, get_or, length}
use Rattle.tt_telemetry.specs.Records.{counted_source, no_source_tally, report_at, tally_at}
use Rattle.tt_telemetry.proofs.records.each_after.Given as goal

abbrev pub invariant-loop-source : goal.invariant-loop-source
invariant-loop-source l =
    record {
      counted : (k : ℕ) → k < l.source → get_or l.next k no_source_tally ≡ counted_source (report_at l.sources k).outcome (tally_at l.each k);
      long : length l.next ≡ 16;
    }
