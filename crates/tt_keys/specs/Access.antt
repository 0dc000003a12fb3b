-- Who may use a file of keys.
use Rattle.std.specs.Prelude.{ℕ, bit_and, ◌==◌, ◌||◌, if◌then◌else◌, Result, Ok, Err}
use Rattle.tt_keys.specs.declared.faults.KeysFault.{KeysFault}
use Rattle.tt_keys.specs.declared.faults.KeysFault.TheVariants.{Mode, Owner}

-- the permissions in a mode: its last twelve bits
abbrev pub permissions_of : ℕ → ℕ
permissions_of mode = bit_and mode 0xFFF

-- whether a file is good: its permissions are 0600 or 0400, which are 384 and 256, and its owner is this user
abbrev pub access_at : ℕ → ℕ → ℕ → Result (Unit {0}) KeysFault
access_at mode owner user =
    if permissions_of mode == 384 || permissions_of mode == 256 then (if owner == user then Ok tt else Err Owner) else Err Mode
