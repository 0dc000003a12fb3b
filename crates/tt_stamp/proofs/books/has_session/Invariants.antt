use Rattle.std.proofs.Common.{◌≢◌, ℕ, ◌<◌, get_or}
use Rattle.tt_stamp.specs.declared.commits.Id.{Id}
use Rattle.tt_stamp.proofs.books.has_session.Given as goal

-- none of the first commits is of the session
abbrev pub invariant-loop-place : goal.invariant-loop-place
invariant-loop-place l = (k : ℕ) (d : ℕ × Id) → k < l.place → (get_or l.commits.items k d).1.session ≢ l.session
