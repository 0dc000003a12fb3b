use Rattle.tt_consistency.proofs.Stamping.{session-rises, sessions-rise, sessions-apart}
use Rattle.tt_consistency.proofs.orders.sequencer_laws.Goals as goal

pub returns : goal.returns
returns g c = record {
  rising = session-rises g.C.Clock.gives g.C.Clock.failed g.V.Presence.says;
  next = sessions-rise g.C.Clock.gives g.C.Clock.failed g.V.Presence.says g.D.Clock.gives g.D.Clock.failed g.W.Presence.says;
  apart = sessions-apart g.C.Clock.gives g.C.Clock.failed g.V.Presence.says g.D.Clock.gives g.D.Clock.failed g.W.Presence.says;
}
