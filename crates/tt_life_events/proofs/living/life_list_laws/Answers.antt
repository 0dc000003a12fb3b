use Rattle.std.proofs.Common.{[], ◌∷◌}
use Rattle.tt_life_events.proofs.Lives.{life-list}
use Rattle.tt_life_events.proofs.WorkedLives.{is_worked, life, shared, timeline, turns}
use Rattle.tt_consistency.proofs.WorkedRun.{one, start}
use Rattle.tt_life_events.proofs.living.life_list_laws.Goals as goal

pub returns : goal.returns
returns g c = record {
  is_list = λ waits configs base life start timeline turns is told shared there same fits begins unworked.
      life-list g.C.Clock.gives g.C.Clock.failed g.V.Presence.says waits life start timeline is told configs base turns there same fits begins unworked shared;
  worked = (one ∷ [], [], life, start, timeline, turns, shared, is_worked);
}
