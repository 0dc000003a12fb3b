use Rattle.std.proofs.Common.{rules}
use Rattle.tt_span.specs.Interval.{IsInterval}
use Rattle.tt_poll.specs.Message.{IsRequest2}
use Rattle.tt_master.proofs.Answering.{true_exactly2}
use Rattle.tt_master.proofs.span_masters.SpanMaster.answer2.Goals as goal

pub returns-clause-holds : goal.returns-clause-holds
returns-clause-holds g c =
    let asked : IsRequest2 c.in_ok-request.request = search rules in
    let in_time : IsInterval c.in_ok-span.span = search rules in
    true_exactly2 c.in_ok-request.request c.in_ok-span.span c.packet2.result asked in_time c.packet2.ensures
