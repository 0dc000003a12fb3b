use Rattle.std.proofs.Common.{sym, ◌∙◌}
use Rattle.std.proofs.lemmas.Slice.Zip.{either_empty_from_Zip}
use Rattle.tt_trace.specs.Lookups.{holder_after}
use Rattle.tt_trace.proofs.Seeking.{folded_out}
use Rattle.tt_trace.proofs.lookups.find_holder.Goals as goal

pub returns : goal.returns
returns c =
    sym (folded_out (holder_after c.args.machine c.args.stamp) c.loop-event.found c.loop-event.event-iterator.a.rest.now c.loop-event.event-iterator.b.rest.now
    (either_empty_from_Zip c.loop-event.event-iterator c.next.new.self c.next.result c.in-None.is c.next.ensures.steps))
    ∙ c.loop-event.invariant
