-- Those of the sources so far that answer again were found.
use Rattle.std.proofs.Common.{◌≡◌, ◌≤◌}
use Rattle.arrayvec.specs.ArrayVec.{array_vec_len}
use Rattle.tt_telemetry.specs.Records.{answers_again, numbers_where}
use Rattle.tt_telemetry.proofs.records.answering_sources.Given as goal

abbrev pub invariant-loop-source : goal.invariant-loop-source
invariant-loop-source l =
    record {
      value : l.answering.items ≡ numbers_where (answers_again l.each l.sources) l.source;
      few : array_vec_len l.answering ≤ l.source;
    }
