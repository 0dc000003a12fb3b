use Rattle.std.proofs.Common.{sym}
use Rattle.tt_wire.proofs.Sealing.{outgoing_of-long}
use Rattle.tt_wire.proofs.wires.Wire.outgoing.Goals as goal

pub returns-then-message-gt-MAX_PACKET-clause-value : goal.returns-then-message-gt-MAX_PACKET-clause-value
returns-then-message-gt-MAX_PACKET-clause-value c = sym (outgoing_of-long c.args.self.now c.args.peer c.args.message.now c.if-message-gt-MAX_PACKET.true)
