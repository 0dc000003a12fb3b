-- No peer before this place is at the end.
use Rattle.std.proofs.Common.{ℕ, ◌<◌, None}
use Rattle.std.specs.Prelude.{slice_index_or}
use Rattle.tt_rounds.specs.Addresses.{IsAt}
use Rattle.tt_rounds.proofs.addresses.peer_at.Given as goal

abbrev pub invariant-peers : goal.invariant-peers
invariant-peers l = (other : ℕ) → other < l.place → ¬ IsAt (slice_index_or l.addresses other None) l.there
