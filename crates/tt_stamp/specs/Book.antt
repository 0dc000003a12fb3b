-- What a book keeps beside its history, so that each question takes a look-up.
use Rattle.std.specs.Prelude.{ℕ, ◌≡◌, ◌+◌, ◌≤◌, ◌==◌, Bool, false, if◌then◌else◌, List, [], ◌∷◌, length, reverse, Option, Some, None, vec_len, vec_capacity}
use Rattle.std.specs.VecDeque.{deque_len}
use Rattle.std.specs.List.{list_any, insert}
use Rattle.std.specs.List.Sorted.{IsNonDecreasing}
use Rattle.tt_stamp.specs.Ids.{same_id}
use Rattle.tt_stamp.specs.Standings.{IsInOrder, standing_in}
use Rattle.tt_stamp.specs.History.{waiting_of, release_of, with_receipts, has_stamp, IsLegalHistory}
use Rattle.tt_stamp.specs.declared.commits.Id.{Id}
use Rattle.tt_stamp.specs.declared.commits.Entry.{Entry}
use Rattle.tt_stamp.specs.declared.commits.Entry.TheVariants.{Queued, Passed}
use Rattle.tt_stamp.specs.declared.commits.Standing.{Standing}
use Rattle.tt_stamp.specs.declared.commits.Standing.TheVariants.{Waits, Released}
use Rattle.tt_stamp.specs.declared.books.Book.TheInside.{Inside}

-- where a commit stands after a history, if it was queued; a receipt has as many entries before it as its place says
abbrev pub standing_of : List Entry → Id → Option Standing
standing_of [] id = None
standing_of (Queued other stamp ∷ past) id = if same_id other id then Some Waits else standing_of past id
standing_of (Passed receipt ∷ past) id = if same_id receipt.id id then Some (Released (length past)) else standing_of past id

-- the history of a book, newest first
abbrev pub history_of : Inside → List Entry
history_of b = reverse b.history.items

-- whether a stamp is one of these
abbrev pub is_among : List ℕ → ℕ → Bool
is_among stamps stamp = list_any (λ s. s == stamp) stamps

-- a new stamp goes to this place among stamps in order
pub record IsPlaceOf (stamps : List ℕ) (stamp place : ℕ) : Type 0 where
  pub within : place ≤ length stamps
  pub new : is_among stamps stamp ≡ false
  pub in_order : IsNonDecreasing (insert stamps place stamp)

-- the history is legal, what is kept beside it is what it leaves, and there is room for the receipts of all that wait
pub record IsBook (b : Inside) : Type 0 where
  pub legal : IsLegalHistory (history_of b)
  pub waits : b.waiting.items ≡ waiting_of (history_of b)
  pub standings : IsInOrder b.standings
  pub stands : (id : Id) → standing_in b.standings id ≡ standing_of (history_of b) id
  pub stamps : (stamp : ℕ) → is_among b.stamps.items stamp ≡ has_stamp (history_of b) stamp
  pub in_order : IsNonDecreasing b.stamps.items
  pub room : vec_len b.history + deque_len b.waiting ≤ vec_capacity b.history

-- one turn of a release: one receipt fewer is to come, and with those that are to come the history ends alike
pub record IsReleaseTurn (past now : List Entry) (earliest : ℕ) : Type 0 where
  pub same_end : with_receipts (release_of (waiting_of past) earliest) past ≡ with_receipts (release_of (waiting_of now) earliest) now
  pub fewer : length (release_of (waiting_of past) earliest) ≡ length (release_of (waiting_of now) earliest) + 1
