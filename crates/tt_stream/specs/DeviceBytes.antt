-- What reads and writes do to the bytes of a device, where the device keeps them.
use Rattle.std.specs.Prelude.{◌<◌, ℕ, Option, List, length, take}
use Rattle.std.specs.Io.KnownBytes.{Appends, Consumes}

-- Some bytes were read: those that are still to come are a rest of those that were.
abbrev pub ReadsOn : Option (List ℕ) → Option (List ℕ) → Type 0
ReadsOn old new = (bytes : List ℕ) × Consumes old new bytes

-- Of these bytes a front was written, and not all of them.
abbrev pub WritesFront : Option (List ℕ) → Option (List ℕ) → List ℕ → Type 0
WritesFront old new bytes = (n : ℕ) × (n < length bytes) × Appends old new (take n bytes)
