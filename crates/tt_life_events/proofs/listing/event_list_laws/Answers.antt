use Rattle.tt_world.specs.Config.{config_at}
use Rattle.tt_life_events.proofs.Threading.{threads-can, threads-list}
use Rattle.tt_life_events.proofs.Following.{list-is_run, restarts-unworked}
use Rattle.tt_life_events.proofs.WorkedMerge.{history-ordered, one-ordered, other-ordered, stamps-merged, worked-list, worked_all, worked_history, worked_one, worked_other}
use Rattle.tt_life_events.proofs.listing.event_list_laws.Goals as goal

pub returns : goal.returns
returns c = record {
  is_run = λ configs m number seats base start all there begins unworked few can legal. list-is_run configs m number there base start begins unworked all seats few can legal;
  threads = λ configs m number seats base start timeline workers history there begins unworked fits threads.
      let list = threads-list (config_at configs m) m number start timeline workers seats history fits threads in (
        list.0,
        list.1,
        λ rises few.
            let can = threads-can (config_at configs m) m number start timeline workers seats history list.0 threads list.1 rises in
            (can.0, can.1, list-is_run configs m number there base start begins unworked list.0 seats few can.0 can.1),
      );
  unworked = restarts-unworked;
  worked = (worked_one, worked_other, worked_history, worked_all, one-ordered, other-ordered, history-ordered, stamps-merged, worked-list, (λ none. cc), (λ none. cc));
}
