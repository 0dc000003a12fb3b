use Rattle.tt_consistency.specs.Timed.{timed_of}
use Rattle.tt_consistency.proofs.TellingCommits.{session-told}
use Rattle.tt_consistency.proofs.Walking.{session-begun, session-released, session-within}
use Rattle.tt_consistency.proofs.orders.session_laws.Goals as goal

pub returns : goal.returns
returns g c = record {
  begun = session-begun g.C.Clock.gives g.C.Clock.failed g.V.Presence.says;
  released = session-released g.C.Clock.gives g.C.Clock.failed g.V.Presence.says;
  within = session-within g.C.Clock.gives g.C.Clock.failed g.V.Presence.says;
  told = session-told g.C.Clock.gives g.C.Clock.failed g.V.Presence.says;
  served = λ waits session times.
      session-within g.C.Clock.gives g.C.Clock.failed g.V.Presence.says (timed_of session times);
}
