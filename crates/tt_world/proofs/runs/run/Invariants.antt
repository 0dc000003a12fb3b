use Rattle.std.proofs.Common.{◌≡◌, ◌<◌, ◌++◌, ℕ, [], take, drop, reverse, get_or}
use Rattle.tt_world.specs.declared.events.Event.{Event}
use Rattle.tt_world.specs.Headline.{IsAction}
use Rattle.tt_world.specs.Reply.{replies_from}
use Rattle.tt_world.specs.State.{StandsFor}
use Rattle.tt_world.proofs.runs.run.Given as goal

-- the replies so far and those to what is left are those to all, and the world stands for the events so far
abbrev pub invariant-loop-event : goal.invariant-loop-event
invariant-loop-event l = record {
  told : l.replies.items ++ replies_from l.configs (reverse (take l.event-index l.events)) (drop l.event-index l.events) ≡ replies_from l.configs [] l.events;
  stands : StandsFor l.configs (reverse (take l.event-index l.events)) l.world;
  known : (k : ℕ) (d : Event) → k < l.event-index → IsAction (get_or l.events k d).action;
}
