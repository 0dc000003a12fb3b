use Rattle.std.proofs.Common.{refl}
use Rattle.tt_wire.specs.Wire.{incoming_of}
use Rattle.tt_rounds.proofs.Hearing.{Drops-slots, heard-came_sealed, heard-unopened}
use Rattle.tt_rounds.proofs.laws.hearing_laws.Goals as goal

pub returns : goal.returns
returns c = record {
  unopened = λ wire table peer bytes fault is. heard-unopened wire table peer bytes (incoming_of wire peer bytes) fault is;
  dropped = Drops-slots;
  came_sealed = λ wire table peer first others bytes packet valid small keys handed.
      heard-came_sealed wire table peer first others bytes packet (incoming_of wire peer bytes) valid small keys refl handed;
  handed_up = λ wire first others packet valid keys up.
      (up.0, heard-came_sealed wire up.2 packet.peer first others up.0 packet (incoming_of wire packet.peer up.0) valid up.1 keys refl up.3);
}
