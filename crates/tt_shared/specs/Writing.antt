-- The two writes of a publication.
use Rattle.std.specs.Prelude.{ℕ, ◌+◌, ◌*◌, ◌%◌, ◌⊎◌, Bool, true, false, List, [], ◌∷◌, slice_index}
use Rattle.std.specs.Int.{w64, from_le_bytes}
use Rattle.tt_shared.specs.Layout.{head_len, slot_len}
use Rattle.tt_shared.specs.declared.slots.SharedSpan.{SharedSpan}
use Rattle.tt_shared.specs.Slot.{slot_of}
use Rattle.tt_shared.specs.Index.{index_at, turn_at}

-- some bytes, and the place in the file where they go
pub record Write : Type 0 where
  pub offset : ℕ
  pub bytes : List ℕ

-- the index of a count, as one number
abbrev pub index_word : ℕ → ℕ
index_word n = from_le_bytes w64 (index_at n)

-- where the slot of the publication begins that is the n-th of the file
abbrev pub slot_place : ℕ → ℕ
slot_place n = head_len + slot_len * (n % 2)

-- the slot of the publication that is the n-th of the file
abbrev pub slot_write : ℕ → SharedSpan → Write
slot_write n p = record { offset = slot_place n; bytes = slot_of (index_word n) p }

-- the one byte of the index in which counts m and m + 1 differ
abbrev pub index_write : ℕ → Write
index_write m = record { offset = 16 + turn_at m; bytes = slice_index (index_at (m + 1)) (turn_at m) ∷ [] }

-- after m publications: the slot first, as a whole, and then the index
abbrev pub Publishes : {P : Type 0} → (P → Write → Bool → P → Type 0) → ℕ → SharedSpan → P → P → Type 0
Publishes {P} does m p before after = (mid : P) × does before (slot_write (m + 1) p) true mid × does mid (index_write m) true after

-- one of the two writes failed, and no other came after it
abbrev pub StopsShort : {P : Type 0} → (P → Write → Bool → P → Type 0) → ℕ → SharedSpan → P → P → Type 0
StopsShort {P} does m p before after = does before (slot_write (m + 1) p) false after ⊎ ((mid : P) × does before (slot_write (m + 1) p) true mid × does mid (index_write m) false after)

-- a writer: its place, how many publications stand in the file, and whether a write failed
pub record TellerState (P : Type 0) : Type 0 where
  pub place : P
  pub count : ℕ
  pub broken : Bool
