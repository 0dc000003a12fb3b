-- The bytes so far are taken, and none of their lines is that of a commit.
use Rattle.std.proofs.Common.{take, false}
use Rattle.tt_session.specs.Steps.{StepsTo}
use Rattle.tt_session.proofs.talks.Talk.step.Given as goal

abbrev pub invariant-loop-taken : goal.invariant-loop-taken
invariant-loop-taken g l =
    StepsTo g.S.Service.allows l.waits l.initial.service l.initial.self (take l.taken l.bytes) l.initial.replies.items l.service l.self l.replies.items false
