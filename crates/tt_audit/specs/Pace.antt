-- How a clock went, kept as two numbers.
use Rattle.std.specs.Prelude.{ℕ, ◌+◌, ◌-◌, ◌*◌, ◌&&◌, nat_lt, max, Bool, List, [], ◌∷◌}
use Rattle.tt_span.specs.Time.{max_time}
use Rattle.tt_span.specs.Drift.{Moment}
use Rattle.tt_audit.specs.declared.paces.Pace.{Pace}

-- of two moments a clock was too slow between them exactly where this is less in the later one by a million or more
abbrev pub slow_mark : ℕ → Moment → ℕ
slow_mark ppm moment = (1000000 + ppm) * moment.clock + 1000000 * (max_time - moment.time)

-- and it was too fast exactly where this is less in the later one by a million or more
abbrev pub fast_mark : ℕ → Moment → ℕ
fast_mark ppm moment = 1000000 * moment.time + (1000000 - ppm) * (max_time - moment.clock)

-- what is kept after one moment more: the greatest of each
abbrev pub pace_after : ℕ → Pace → Moment → Pace
pace_after ppm pace moment = record { slow = max (slow_mark ppm moment) pace.slow; fast = max (fast_mark ppm moment) pace.fast }

-- what is kept of these moments
abbrev pub pace_of : ℕ → List Moment → Pace
pace_of ppm [] = record { slow = 0; fast = 0 }
pace_of ppm (moment ∷ moments) = pace_after ppm (pace_of ppm moments) moment

-- whether a moment agrees with all those before it, by what is kept of them
abbrev pub is_in_pace : ℕ → Pace → Moment → Bool
is_in_pace ppm pace moment = nat_lt pace.slow (slow_mark ppm moment + 1000000) && nat_lt pace.fast (fast_mark ppm moment + 1000000)
