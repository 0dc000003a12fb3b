use Rattle.std.proofs.Common.{◌≡◌}
use Rattle.std.specs.Prelude.{fold}
use Rattle.std.specs.List.{zip}
use Rattle.tt_trace.specs.Lookups.{holder_of, holder_after}
use Rattle.tt_trace.proofs.lookups.find_holder.Given as goal

abbrev pub invariant-loop-event : goal.invariant-loop-event
invariant-loop-event l = fold (holder_after l.machine l.stamp) l.found (zip l.event-iterator.a.rest.now l.event-iterator.b.rest.now) ≡ holder_of l.machine l.stamp (zip l.events l.replies)
