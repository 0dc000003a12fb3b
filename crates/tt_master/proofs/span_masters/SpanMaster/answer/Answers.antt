use Rattle.std.proofs.Common.{rules}
use Rattle.tt_span.specs.Interval.{IsInterval}
use Rattle.tt_poll.specs.Message.{IsRequest}
use Rattle.tt_master.proofs.Answering.{true_exactly}
use Rattle.tt_master.proofs.span_masters.SpanMaster.answer.Goals as goal

pub returns-clause-holds : goal.returns-clause-holds
returns-clause-holds g c =
    let asked : IsRequest c.in_ok-request.request = search rules in
    let in_time : IsInterval c.in_ok-span.span = search rules in
    true_exactly c.in_ok-request.request c.in_ok-span.span c.packet.result asked in_time c.packet.ensures
