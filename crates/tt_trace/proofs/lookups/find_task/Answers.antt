use Rattle.std.proofs.Common.{sym, ◌∙◌}
use Rattle.std.proofs.lemmas.Slice.Zip.{either_empty_from_Zip}
use Rattle.tt_trace.specs.Lookups.{task_after}
use Rattle.tt_trace.proofs.Seeking.{folded_out}
use Rattle.tt_trace.proofs.lookups.find_task.Goals as goal

pub returns : goal.returns
returns c =
    sym (folded_out (task_after c.args.machine c.args.worker c.args.id) c.loop-event.task c.loop-event.event-iterator.a.rest.now c.loop-event.event-iterator.b.rest.now
    (either_empty_from_Zip c.loop-event.event-iterator c.next.new.self c.next.result c.in-None.is c.next.ensures.steps))
    ∙ c.loop-event.invariant
