-- The descriptors of standard input, output and error.
use Rattle.std.specs.Prelude.{ℕ, ℤ, pos, Bool, false, nat_le}

-- a descriptor is 0, 1 or 2
abbrev pub is_standard : ℤ → Bool
is_standard (pos n) = nat_le n 2
is_standard _ = false
