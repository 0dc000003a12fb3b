use Rattle.std.proofs.Common.{[], ◌∷◌}
use Rattle.tt_life_events.proofs.CutLists.{cut-list}
use Rattle.tt_life_events.proofs.FirstTurns.{work-first}
use Rattle.tt_life_events.proofs.Lives.{life-works, list-whole}
use Rattle.tt_life_events.proofs.WorkedCuts.{cut, is_worked, later, works}
use Rattle.tt_life_events.proofs.WorkedLives.{first, shared}
use Rattle.tt_consistency.proofs.WorkedRun.{one}
use Rattle.tt_life_events.proofs.cutting.cut_list_laws.Goals as goal

pub returns : goal.returns
returns g c = record {
  is_list = λ waits configs base cut later works history is calls_are told shared goes did there same fits begins unworked.
      cut-list g.C.Clock.gives g.C.Clock.failed g.V.Presence.says waits cut is later calls_are told configs base works shared history goes did there same fits begins unworked;
  no_more = work-first g.C.Clock.gives g.C.Clock.failed g.V.Presence.says;
  wholes = λ waits configs base lived turns shared is.
      (life-works g.C.Clock.gives g.C.Clock.failed g.V.Presence.says waits lived.life lived.start lived.timeline is turns shared, list-whole g.C.Clock.gives g.C.Clock.failed g.V.Presence.says waits lived.life lived.start lived.timeline is configs base turns shared.history);
  worked = (one ∷ [], [], cut, later, shared, first, works, is_worked);
}
