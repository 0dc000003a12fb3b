-- The ends of the sources so far are found.
use Rattle.std.proofs.Common.{◌≡◌, ℕ, ◌<◌, get_or, length, None}
use Rattle.tt_telemetry.specs.Records.{ends_at}
use Rattle.tt_telemetry.proofs.records.ends_of.Given as goal

abbrev pub invariant-loop-source : goal.invariant-loop-source
invariant-loop-source l =
    record {
      made : (k : ℕ) → k < l.source → get_or l.ends k None ≡ ends_at l.spans l.fused k;
      long : length l.ends ≡ 16;
    }
