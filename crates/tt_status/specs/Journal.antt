-- What a journal reads of a log.
use Rattle.std.specs.Prelude.{codes, ℕ, if◌then◌else◌, List, ◌∷◌, ◌++◌}
use Rattle.std.specs.Str.{bytes_eq}
use Rattle.std.specs.Fmt.{decimal}

-- how a journal names the file of this inode on this device: with a colon between both
abbrev pub stream_name : ℕ → ℕ → List ℕ
stream_name device inode = decimal device ++ 58 ∷ decimal inode

-- the priority of a level: 3 of an error, 4 of a warning, 6 of what is only told
abbrev pub priority_of : List ℕ → List ℕ
priority_of level = if bytes_eq level (codes "error") then codes "<3>" else if bytes_eq level (codes "warn") then codes "<4>" else codes "<6>"
