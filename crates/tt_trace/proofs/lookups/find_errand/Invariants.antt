use Rattle.std.proofs.Common.{◌≡◌}
use Rattle.std.specs.Prelude.{fold}
use Rattle.std.specs.List.{zip}
use Rattle.tt_trace.specs.Lookups.{errand_of, errand_after}
use Rattle.tt_trace.proofs.lookups.find_errand.Given as goal

abbrev pub invariant-loop-event : goal.invariant-loop-event
invariant-loop-event l = fold (errand_after l.packet) l.found (zip l.event-iterator.a.rest.now l.event-iterator.b.rest.now) ≡ errand_of l.packet (zip l.events l.replies)
