-- Those of the sources so far that agree again were found.
use Rattle.std.proofs.Common.{◌≡◌, ◌≤◌}
use Rattle.arrayvec.specs.ArrayVec.{array_vec_len}
use Rattle.tt_telemetry.specs.Records.{numbers_where}
use Rattle.tt_telemetry.specs.Trouble.{agrees_again}
use Rattle.tt_telemetry.proofs.troubles.agreeing_among.Given as goal

abbrev pub invariant-loop-source : goal.invariant-loop-source
invariant-loop-source l =
    record {
      value : l.agreeing.items ≡ numbers_where (agrees_again l.before l.suspects) l.source;
      few : array_vec_len l.agreeing ≤ l.source;
    }
