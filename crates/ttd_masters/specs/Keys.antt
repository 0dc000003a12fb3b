-- What a master does with its file of keys.
use Rattle.std.specs.Prelude.{◌≡◌, ℕ, Bool, true, false, Option, Some, None, Result, Ok, Err}
use Rattle.std.specs.Global.{Vec}
use Rattle.tt_keys.specs.declared.faults.KeysFault.{KeysFault}
use Rattle.tt_keys.specs.declared.faults.KeysFault.TheVariants.{CannotRead, UnknownUser, BadLine, SameNumber, Memory}

-- the line that a fault names, and 0 where it names none
abbrev pub line_in : KeysFault → ℕ
line_in (BadLine line) = line
line_in (SameNumber line) = line
line_in _ = 0

-- whether it says something of the file, which stays so until the file changes
abbrev pub is_of_file : KeysFault → Bool
is_of_file (CannotRead reason) = false
is_of_file (UnknownUser reason) = false
is_of_file Memory = false
is_of_file _ = true

-- a look found the same as the one before: the same text, or the same fault of the file
abbrev pub IsAsBefore : Option (Result (Vec ℕ) KeysFault) → Result (Vec ℕ) KeysFault → Type 0
IsAsBefore (Some (Ok known)) (Ok text) = known.items ≡ text.items
IsAsBefore (Some (Err known)) (Err fault) = (known ≡ fault) × (is_of_file fault ≡ true)
IsAsBefore _ _ = ⊥
