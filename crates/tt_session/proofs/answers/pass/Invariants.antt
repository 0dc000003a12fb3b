-- Each release step so far said no.
use Rattle.std.proofs.Common.{replicate, Ok, false}
use Rattle.tt_session.specs.Conversation.{Conversation}
use Rattle.tt_session.specs.declared.calls.Call.TheVariants.{Pass}
use Rattle.tt_session.proofs.answers.pass.Given as goal

abbrev pub invariant-loop : goal.invariant-loop
invariant-loop g l =
    Conversation g.S.Service.allows l.initial.service (replicate l.counter (Pass l.number (Ok false))) l.service
