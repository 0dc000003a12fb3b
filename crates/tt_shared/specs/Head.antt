-- The head of a shared file.
use Rattle.std.specs.Prelude.{ℕ, ◌==◌, if◌then◌else◌, List, [], ◌∷◌, ◌++◌, Option, Some, None}
use Rattle.std.specs.Int.{w32, w64, to_le_bytes}
use Rattle.tt_host.specs.Clocks.{number_of}
use Rattle.tt_host.specs.declared.clocks.HostClock.{HostClock}
use Rattle.tt_shared.specs.Layout.{file_len}
use Rattle.tt_shared.specs.declared.heads.Head.{Head}

-- `TTS3`, the length of the file in four bytes, the number of its clock in eight, the index, the boot, and four zeros; numbers lowest byte first
unfoldable pub head_of : List ℕ → List ℕ → HostClock → List ℕ
head_of index boot clock = (84 ∷ 84 ∷ 83 ∷ 51 ∷ []) ++ (to_le_bytes w32 file_len ++ (to_le_bytes w64 (number_of clock) ++ (index ++ (boot ++ (0 ∷ 0 ∷ 0 ∷ 0 ∷ [])))))

-- the index of a head, if it names this clock
abbrev pub index_by : Head → HostClock → Option (List ℕ)
index_by head clock = if number_of head.clock == number_of clock then Some head.index else None
