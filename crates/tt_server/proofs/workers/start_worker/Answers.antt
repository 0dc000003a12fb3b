use denote.Param.Send.{IsSend, sendable}
use Rattle.std.proofs.Common.{sym, ◌∙◌}
use Rattle.std.proofs.Crossing.{crosses}
use Rattle.tt_publish.proofs.teller.Told.TheSendSync as told
use Rattle.tt_stamp.proofs.sequencers.Seat.TheSendSync as seat
use Rattle.tt_server.specs.contracts.lives.WorkerEnd as end
use Rattle.tt_server.proofs.Seating.{handed-by}
use Rattle.tt_server.proofs.workers.start_worker.Goals as goal

-- the end of a worker may go to another thread
end_send : IsSend end.the_row
end_send = search (sendable, crosses, told.the_send) depth 20

pub spawn_with-requires-send-T : goal.spawn_with-requires-send-T
spawn_with-requires-send-T g c κs within = search (sendable, end_send, seat.the_send) depth 20

pub spawn_with-requires-clause-keeps : goal.spawn_with-requires-clause-keeps
spawn_with-requires-clause-keeps g c κs within =
    λ r handed. handed-by c.of.result.value c.args.watch c.terms.result c.terms-terms.result c.of-2.result.value c.args.worker_seat.seat r.0 r.1 (sym c.of.ensures) (c.terms-terms.ensures.value ∙ sym c.terms.ensures.value) (sym c.of-2.ensures) handed
