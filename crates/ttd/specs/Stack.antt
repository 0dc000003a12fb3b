-- Whether the stack of a process is large enough.
use Rattle.std.specs.Prelude.{ℕ, Bool, false, nat_lt, Option, Some, None}

-- the least stack: 2 MiB
abbrev pub least_stack : ℕ
least_stack = 2097152

-- a limit is below that; one that is not known is none
abbrev pub is_small : Option ℕ → Bool
is_small (Some limit) = nat_lt limit least_stack
is_small None = false
