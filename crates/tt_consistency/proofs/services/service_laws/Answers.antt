use Rattle.tt_consistency.proofs.Serving.{served-timed}
use Rattle.tt_consistency.proofs.services.service_laws.Goals as goal

pub returns : goal.returns
returns g c = record {
  readings_hold = λ machine session running.
      served-timed g.C.Clock.gives g.C.Clock.failed g.V.Presence.says machine running session;
  stamps_lie_within = λ machine session commit running served.
      c.session_laws.ensures.within session commit (served-timed g.C.Clock.gives g.C.Clock.failed g.V.Presence.says machine running session served);
  replies_lie_within = λ machine session waits lines before number stamp after last running served.
      c.session_laws.ensures.told session waits lines before number stamp after last (served-timed g.C.Clock.gives g.C.Clock.failed g.V.Presence.says machine running session served);
}
