-- The place has no file in common with those so far.
use Rattle.std.proofs.Common.{◌≡◌, drop}
use Rattle.std.specs.List.{list_any}
use Rattle.ttd.specs.Places.{meets_state_at}
use Rattle.ttd.proofs.places.meets_one_state.Given as goal

abbrev pub invariant-loop-state : goal.invariant-loop-state
invariant-loop-state l = list_any (meets_state_at l.place) (drop l.state-index l.states) ≡ list_any (meets_state_at l.place) l.states
