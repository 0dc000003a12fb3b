-- Points in time: whole nanoseconds from 0 to the greatest time.
use Rattle.std.specs.Prelude.{ℕ, min}

-- the greatest time, in nanoseconds
abbrev pub max_time : ℕ
max_time = 4000000000000000000

-- a number cut at the greatest time
abbrev pub cut : ℕ → ℕ
cut x = min x max_time
