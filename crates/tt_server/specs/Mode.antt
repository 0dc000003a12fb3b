-- Who may write a file.
use Rattle.std.specs.Prelude.{ℕ, bit_and, ◌≡◌}

-- nobody but the owner may write a file of this mode: the bits of group and others (0o020 and 0o002) are not set
abbrev pub IsTight : ℕ → Type 0
IsTight mode = bit_and mode 0o022 ≡ 0
