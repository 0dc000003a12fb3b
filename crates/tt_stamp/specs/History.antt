-- What a book of commits did, newest first, and what that leaves. Waiting commits are pairs of a stamp and an id.
use Rattle.std.specs.Prelude.{ℕ, ◌≡◌, ◌≢◌, ◌<◌, ◌≤◌, ◌==◌, ◌||◌, Bool, false, nat_lt, nat_le, if◌then◌else◌, List, [], ◌∷◌, ◌++◌, length, map, filter, All, Contains, Option, Some, None}
use Rattle.std.specs.Ordering.{nat_cmp}
use Rattle.std.specs.Map.{remove_entry}
use Rattle.std.specs.BTreeMap.{insert_entry}
use Rattle.std.specs.List.Sorted.{IsStrictlyIncreasing}
use Rattle.tt_stamp.specs.Ids.{same_id}
use Rattle.tt_stamp.specs.declared.commits.Id.{Id}
use Rattle.tt_stamp.specs.declared.commits.Receipt.{Receipt}
use Rattle.tt_stamp.specs.declared.commits.Entry.{Entry}
use Rattle.tt_stamp.specs.declared.commits.Entry.TheVariants.{Queued, Passed}
use Rattle.tt_stamp.specs.declared.faults.BookFault.{BookFault}
use Rattle.tt_stamp.specs.declared.faults.BookFault.TheVariants.{Full, IdThere, StampThere}

-- the most commits that may wait
abbrev pub max_waiting : ℕ
max_waiting = 65536

-- the commits that wait after a history, least stamp first
abbrev pub waiting_of : List Entry → List (ℕ × Id)
waiting_of [] = []
waiting_of (Queued id stamp ∷ past) = insert_entry nat_cmp (waiting_of past) stamp id
waiting_of (Passed receipt ∷ past) = remove_entry (λ s. receipt.stamp == s) (waiting_of past)

-- the receipts of the commits released in a history, newest first
abbrev pub released_of : List Entry → List Receipt
released_of [] = []
released_of (Queued id stamp ∷ past) = released_of past
released_of (Passed receipt ∷ past) = receipt ∷ released_of past

-- a commit with this id was queued: it waits, or was released
abbrev pub IsIdThere : List Entry → Id → Type 0
IsIdThere past id = (stamp : ℕ) × Contains past (Queued id stamp)

-- a commit with this stamp was queued: it waits, or was released
abbrev pub IsStampThere : List Entry → ℕ → Type 0
IsStampThere past stamp = (id : Id) × Contains past (Queued id stamp)

-- after this history, a commit with this id and this stamp may be queued
pub record MayQueue (past : List Entry) (id : Id) (stamp : ℕ) : Type 0 where
  pub room : length (waiting_of past) < max_waiting
  pub new_id : ¬ IsIdThere past id
  pub new_stamp : ¬ IsStampThere past stamp

-- after this history, this is the receipt of the waiting commit with the least stamp, which is below the earliest
pub record IsNextReceipt (past : List Entry) (receipt : Receipt) : Type 0 where
  pub waits : Contains (waiting_of past) (receipt.stamp, receipt.id)
  pub least : All (λ commit. receipt.stamp ≤ commit.0) (waiting_of past)
  pub sure : receipt.stamp < receipt.earliest

-- the entry may follow this history
abbrev pub MayFollow : List Entry → Entry → Type 0
MayFollow past (Queued id stamp) = MayQueue past id stamp
MayFollow past (Passed receipt) = IsNextReceipt past receipt

-- each entry may follow those before it
abbrev pub IsLegalHistory : List Entry → Type 0
IsLegalHistory [] = Unit {0}
IsLegalHistory (entry ∷ past) = MayFollow past entry × IsLegalHistory past

-- the commit waits: it was queued, and no later receipt names it
pub record Waits (past : List Entry) (id : Id) (stamp : ℕ) : Type 0 where
  pub later : List Entry
  pub before : List Entry
  pub queued : past ≡ later ++ Queued id stamp ∷ before
  pub not_released : (receipt : Receipt) → Contains later (Passed receipt) → receipt.id ≢ id

-- the stamp of a receipt
abbrev pub stamp_on : Receipt → ℕ
stamp_on receipt = receipt.stamp

-- the receipts of a release: one for each waiting commit whose stamp is below the earliest and for no other, least stamp first
pub record IsRelease (waiting : List (ℕ × Id)) (earliest : ℕ) (receipts : List Receipt) : Type 0 where
  pub each : All (λ receipt. (receipt.earliest ≡ earliest) × (receipt.stamp < earliest) × Contains waiting (receipt.stamp, receipt.id)) receipts
  pub whole : (stamp : ℕ) (id : Id) → Contains waiting (stamp, id) → stamp < earliest → Contains receipts (record { id = id; stamp = stamp; earliest = earliest })
  pub ascending : IsStrictlyIncreasing (map stamp_on receipts)

-- the receipts of a release, computed from the commits that wait, least stamp first
abbrev pub release_of : List (ℕ × Id) → ℕ → List Receipt
release_of waiting earliest = map (λ commit. record { id = commit.1; stamp = commit.0; earliest = earliest }) (filter (λ commit. nat_lt commit.0 earliest) waiting)

-- the history after these receipts, one after the other
abbrev pub with_receipts : List Receipt → List Entry → List Entry
with_receipts [] past = past
with_receipts (receipt ∷ receipts) past = with_receipts receipts (Passed receipt ∷ past)

-- whether a commit with this id was queued
abbrev pub has_id : List Entry → Id → Bool
has_id [] id = false
has_id (Queued other stamp ∷ past) id = same_id other id || has_id past id
has_id (Passed receipt ∷ past) id = has_id past id

-- whether a commit with this stamp was queued
abbrev pub has_stamp : List Entry → ℕ → Bool
has_stamp [] stamp = false
has_stamp (Queued id other ∷ past) stamp = (other == stamp) || has_stamp past stamp
has_stamp (Passed receipt ∷ past) stamp = has_stamp past stamp

-- why a commit may not be queued, the first reason in order
abbrev pub first_queue_fault : List Entry → Id → ℕ → Option BookFault
first_queue_fault past id stamp = if nat_le max_waiting (length (waiting_of past)) then Some Full else (if has_id past id then Some IdThere else (if has_stamp past stamp then Some StampThere else None))

-- the receipt of a commit, if it was released
abbrev pub receipt_of : List Entry → Id → Option Receipt
receipt_of [] id = None
receipt_of (Queued other stamp ∷ past) id = receipt_of past id
receipt_of (Passed receipt ∷ past) id = if same_id receipt.id id then Some receipt else receipt_of past id
