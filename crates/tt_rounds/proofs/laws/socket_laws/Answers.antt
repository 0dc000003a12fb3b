use Rattle.std.proofs.Common.{refl}
use Rattle.tt_wire.specs.Wire.{incoming_of}
use Rattle.tt_rounds.proofs.Hearing.{heard-came_sealed}
use Rattle.tt_rounds.proofs.Sending.{sends-sealed}
use Rattle.tt_rounds.proofs.laws.socket_laws.Goals as goal

pub returns : goal.returns
returns g c = record {
  sealed = sends-sealed g.S.PacketSocket.does;
  came = λ wire addresses before after packet first others valid keys up.
      (up.bytes, up.gave, heard-came_sealed wire up.table packet.peer first others up.bytes packet (incoming_of wire packet.peer up.bytes) valid up.small keys refl up.heard);
}
