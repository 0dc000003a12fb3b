-- Those of the sources so far to which a packet could not be sent were found.
use Rattle.std.proofs.Common.{◌≡◌, ◌≤◌}
use Rattle.arrayvec.specs.ArrayVec.{array_vec_len}
use Rattle.tt_telemetry.specs.Records.{has_unsent, numbers_where}
use Rattle.tt_telemetry.proofs.records.unsent_sources.Given as goal

abbrev pub invariant-loop-source : goal.invariant-loop-source
invariant-loop-source l =
    record {
      value : l.lost.items ≡ numbers_where (has_unsent l.unsent) l.source;
      few : array_vec_len l.lost ≤ l.source;
    }
