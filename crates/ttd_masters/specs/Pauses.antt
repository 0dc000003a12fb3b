-- When a master looks at its file of keys, and how long it waits for its address.
use Rattle.std.specs.Prelude.{ℕ, ◌-◌, ◌*◌, min, Bool, nat_le}

-- the pause after one, in milliseconds: twice as long, and 30 seconds at most
abbrev pub next_pause : ℕ → ℕ
next_pause pause = min (2 * pause) 30000

-- a look is due at a clock reading in nanoseconds, a second or more after that of the last one
abbrev pub is_due : ℕ → ℕ → Bool
is_due last now = nat_le 1000000000 (now - last)
