-- A shared file in memory.
use Rattle.std.specs.Prelude.{◌≡◌, ◌⊎◌, ◌<◌, ◌+◌, ℕ, Bool, true, false, List, ◌++◌, length, take, drop, Option, Some, None, slice_range}
use Rattle.tt_stream.specs.Counts.{count_after}
use Rattle.tt_shared.specs.Layout.{slot_len, file_len}
use Rattle.tt_shared.specs.Writing.{Write}
use Rattle.tt_shared.specs.Looking.{Look, AtIndex, AtSlot}
use Rattle.tt_shared.specs.Seeing.{PartWritten, Written}

-- its bytes, the number of the call that is to fail, how many calls were made, and how many failed
pub record MemoryState : Type 0 where
  pub bytes : List ℕ
  pub fails_at : Option ℕ
  pub calls : ℕ
  pub failures : ℕ

-- the write reaches past the end of the file, or its call is the one that is to fail
abbrev pub CannotWrite : MemoryState → Write → Type 0
CannotWrite m write = (length m.bytes < write.offset + length write.bytes) ⊎ (m.fails_at ≡ Some (count_after m.calls 1))

-- a write that is done comes into the file whole, and one that fails in some part
abbrev pub MemoryDoes : MemoryState → Write → Bool → MemoryState → Type 0
MemoryDoes m write true n = Written write m.bytes n.bytes × (¬ CannotWrite m write)
MemoryDoes m write false n = PartWritten write m.bytes n.bytes × CannotWrite m write

-- a look at the memory shows the bytes that stand there, and fails past its end; it changes nothing
abbrev pub MemoryShows : MemoryState → Look → MemoryState → Type 0
MemoryShows m (AtIndex seen) n = (n ≡ m) × (seen ≡ Some (slice_range m.bytes 16 24))
MemoryShows m (AtSlot offset (Some bytes)) n = (n ≡ m) × (bytes ≡ slice_range m.bytes offset (offset + slot_len))
MemoryShows m (AtSlot offset None) n = (n ≡ m) × (file_len < offset + slot_len)

-- a file after these bytes were put into it from place `at` on
abbrev pub put : ℕ → List ℕ → List ℕ → List ℕ
put at bytes file = take at file ++ (bytes ++ drop (at + length bytes) file)
