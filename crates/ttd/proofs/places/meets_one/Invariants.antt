-- The place has no file in common with those so far.
use Rattle.std.proofs.Common.{◌≡◌, drop}
use Rattle.std.specs.List.{list_any}
use Rattle.ttd.specs.Places.{meets_at}
use Rattle.ttd.proofs.places.meets_one.Given as goal

abbrev pub invariant-loop-other : goal.invariant-loop-other
invariant-loop-other l = list_any (meets_at l.place) (drop l.other-index l.before) ≡ list_any (meets_at l.place) l.before
