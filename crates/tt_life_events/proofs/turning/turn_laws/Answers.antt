use Rattle.tt_life_events.proofs.Timing.{session-served, turns-timed}
use Rattle.tt_life_events.proofs.TimingCuts.{cut-sessions}
use Rattle.tt_life_events.proofs.turning.turn_laws.Goals as goal

pub returns : goal.returns
returns g c = record {
  timed = turns-timed g.C.Clock.gives g.C.Clock.failed g.V.Presence.says;
  served = session-served g.C.Clock.gives g.C.Clock.failed g.V.Presence.says;
  cut = cut-sessions g.C.Clock.gives g.C.Clock.failed g.V.Presence.says;
}
