-- For how long a connection of the pages is served.
use Rattle.std.specs.Prelude.{ℕ, ◌-◌}

-- how long it is served when the clock shows `now`, in nanoseconds, if it was accepted at this clock reading: until two seconds have passed
abbrev pub left_of : ℕ → ℕ → ℕ
left_of began now = 2000000000 - (now - began)
