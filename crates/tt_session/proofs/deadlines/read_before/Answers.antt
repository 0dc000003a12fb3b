use Rattle.std.proofs.Common.{◌+◌, rules, tests, subst}
use Rattle.tt_stream.specs.Counts.{HasFailed}
use Rattle.tt_session.specs.Deadline.WhyEnded.{DeviceFailed, ClockFailed, TooLate}
use Rattle.tt_session.proofs.Asking.{Shows-more}
use Rattle.tt_session.proofs.deadlines.read_before.Goals as goal

pub returns-in_default-clause-why : goal.returns-in_default-clause-why
returns-in_default-clause-why g c = ClockFailed c.loop.counter c.loop.clock c.loop.invariant.shows c.in_default.ensures.gave c.in_default.ensures.cause

pub returns-then-now-deadline-clause-why : goal.returns-then-now-deadline-clause-why
returns-then-now-deadline-clause-why g c = TooLate c.loop.counter c.loop.clock c.in-Ok.now c.loop.invariant.shows c.in-Ok.ensures.gave (search (rules, tests))

pub returns-in-Err-clause-why : goal.returns-in-Err-clause-why
returns-in-Err-clause-why g c =
    DeviceFailed (c.loop.counter + 1)
    (Shows-more g.C.Clock.gives c.args.deadline.at c.args.clock.now c.loop.clock c.read.new.self c.loop.counter c.in-Ok.now c.loop.invariant.shows c.in-Ok.ensures.gave (search (rules, tests)))
    (subst (λ n. HasFailed n (g.D.TimedReader.failed c.read-in-loop.new.self)) c.loop.invariant.sound c.in-Err.ensures.cause)
