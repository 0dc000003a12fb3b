use Rattle.std.proofs.Common.{◌≡◌}
use Rattle.std.specs.Prelude.{fold}
use Rattle.std.specs.List.{zip}
use Rattle.tt_trace.specs.Lookups.{task_of, task_after}
use Rattle.tt_trace.proofs.lookups.find_task.Given as goal

abbrev pub invariant-loop-event : goal.invariant-loop-event
invariant-loop-event l = fold (task_after l.machine l.worker l.id) l.task (zip l.event-iterator.a.rest.now l.event-iterator.b.rest.now) ≡ task_of l.machine l.worker l.id (zip l.events l.replies)
