use denote.Param.Send.{IsSend, sendable}
use Rattle.std.proofs.Crossing.{crosses}
use Rattle.tt_publish.proofs.teller.Told.TheSendSync as told
use Rattle.tt_stamp.proofs.sequencers.Seat.TheSendSync as seat
use Rattle.tt_node.specs.contracts.nodes.WorkerEnd as end
use Rattle.tt_node.proofs.nodes.start.Goals as goal

-- the end of a worker may go to another thread
end_send : IsSend end.the_row
end_send = search (sendable, crosses, told.the_send) depth 20

pub spawn_with-requires-send-T : goal.spawn_with-requires-send-T
spawn_with-requires-send-T g c κs within = search (sendable, end_send, seat.the_send) depth 20
