-- What readers see of a file while it is written, and after its writer died.
use Rattle.std.specs.Prelude.{ℕ, ◌≡◌, ◌+◌, ◌<◌, ◌≤◌, ◌%◌, ◌^◌, ◌⊎◌, List, length, slice_index, slice_range}
use Rattle.tt_shared.specs.Layout.{slot_len}
use Rattle.tt_shared.specs.declared.slots.SharedSpan.{SharedSpan}
use Rattle.tt_shared.specs.Slot.{slot_of}
use Rattle.tt_shared.specs.Index.{index_at}
use Rattle.tt_shared.specs.Writing.{Write, index_word, slot_place, slot_write, index_write}

-- what byte i of a slot may be seen as while the index is that of count n: in the slot of count n it is what was written; in the
-- other one, which may be written at this time, it is any
abbrev pub MaySee : (ℕ → SharedSpan) → ℕ → ℕ → ℕ → ℕ → Type 0
MaySee published n slot i byte = n % 2 ≡ slot → byte ≡ slice_index (slot_of (index_word n) (published n)) i

-- what a reader saw while the writers went on: the index of count n, then each byte of its slot at a moment of its own, and then an index again;
-- the count did not fall meanwhile
pub record IsSeen (published : ℕ → SharedSpan) (n : ℕ) (index bytes again : List ℕ) : Type 0 where
  pub last : ℕ
  pub fits : last < 2 ^ 64
  pub forward : n ≤ last
  pub first_index : index ≡ index_at n
  pub last_index : again ≡ index_at last
  pub each : (i : ℕ) → i < slot_len → (at : ℕ) × (n ≤ at) × (at ≤ last) × MaySee published at (n % 2) i (slice_index bytes i)

-- the index in the file is that of count n, and the slot that it names has these bytes: all that a reader looks at
pub record Shows (file : List ℕ) (n : ℕ) (bytes : List ℕ) : Type 0 where
  pub index : slice_range file 16 24 ≡ index_at n
  pub slot : slice_range file (slot_place n) (slot_place n + slot_len) ≡ bytes

-- byte j of a file is as the write would make it
abbrev pub IsOf : Write → List ℕ → ℕ → Type 0
IsOf write file j = (i : ℕ) × (i < length write.bytes) × (j ≡ write.offset + i) × (slice_index file j ≡ slice_index write.bytes i)

-- any part of a write came into the file, in whatever order: each byte is as it was or as the write makes it
pub record PartWritten (write : Write) (before after : List ℕ) : Type 0 where
  pub length_same : length after ≡ length before
  pub each : (j : ℕ) → (slice_index after j ≡ slice_index before j) ⊎ IsOf write after j

-- the whole write came into the file, and nothing else
pub record Written (write : Write) (before after : List ℕ) : Type 0 where
  pub part : PartWritten write before after
  pub whole : (i : ℕ) → i < length write.bytes → slice_index after (write.offset + i) ≡ slice_index write.bytes i

-- the writer of publication n + 1 died at any moment: within the first write, or after it and within the second
abbrev pub DiesWriting : ℕ → SharedSpan → List ℕ → List ℕ → Type 0
DiesWriting n p before after = PartWritten (slot_write (n + 1) p) before after ⊎ ((mid : List ℕ) × Written (slot_write (n + 1) p) before mid × PartWritten (index_write n) mid after)
