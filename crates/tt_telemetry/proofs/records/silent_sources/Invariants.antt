-- The silent ones of the sources so far were found.
use Rattle.std.proofs.Common.{◌≡◌, ◌≤◌}
use Rattle.arrayvec.specs.ArrayVec.{array_vec_len}
use Rattle.tt_telemetry.specs.Records.{is_silent, numbers_where, report_at}
use Rattle.tt_telemetry.proofs.records.silent_sources.Given as goal

abbrev pub invariant-loop-source : goal.invariant-loop-source
invariant-loop-source l =
    record {
      value : l.silent.items ≡ numbers_where (λ k. is_silent (report_at l.sources k).outcome) l.source;
      few : array_vec_len l.silent ≤ l.source;
    }
