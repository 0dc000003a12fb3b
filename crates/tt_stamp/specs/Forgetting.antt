-- What is left of a history once a session is forgotten.
use Rattle.std.specs.Prelude.{ℕ, ◌≡◌, ◌==◌, not, List, filter, Contains}
use Rattle.tt_stamp.specs.History.{waiting_of}
use Rattle.tt_stamp.specs.declared.commits.Id.{Id}
use Rattle.tt_stamp.specs.declared.commits.Entry.{Entry}
use Rattle.tt_stamp.specs.declared.commits.Entry.TheVariants.{Queued, Passed}

-- the session of the commit that an entry is of
abbrev pub session_of : Entry → ℕ
session_of (Queued id stamp) = id.session
session_of (Passed receipt) = receipt.id.session

-- the entries of all sessions but this one, in their order
abbrev pub without_session : ℕ → List Entry → List Entry
without_session session past = filter (λ entry. not (session_of entry == session)) past

-- one of these commits is of this session
abbrev pub HasSession : List (ℕ × Id) → ℕ → Type 0
HasSession commits session = (stamp : ℕ) × (id : Id) × Contains commits (stamp, id) × (id.session ≡ session)

-- a commit of this session waits
abbrev pub WaitsIn : List Entry → ℕ → Type 0
WaitsIn past session = HasSession (waiting_of past) session
