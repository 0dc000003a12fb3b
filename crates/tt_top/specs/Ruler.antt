-- Where times stand on an axis of 800 units.
use Rattle.std.specs.Prelude.{ℕ, ◌+◌, ◌-◌, ◌*◌, ◌/◌, min, max, Option, Some, None, List}
use Rattle.tt_span.specs.Interval.{Interval}
use Rattle.tt_top.specs.declared.rulers.Ruler.{Ruler}
use Rattle.tt_top.specs.declared.views.SourceView.{SourceView}
use Rattle.tt_top.specs.Bar.{Reach, reach_of}
use Rattle.tt_top.specs.View.{sum_of}

-- a product, at most 2^64 - 1
abbrev pub product_of : ℕ → ℕ → ℕ
product_of a b = min (a * b) 18446744073709551615

-- the nanoseconds of a unit, so that these times fill 720 of 800 units
abbrev pub step_over : Reach → ℕ
step_over reach = (reach.hi - reach.lo) / 720 + 1

-- the axis for these times: 40 units are before them
abbrev pub ruler_over : Reach → Ruler
ruler_over reach = record { start = reach.lo - product_of (step_over reach) 40; step = step_over reach }

-- the axis for sources and a fused span
abbrev pub ruler_of : Option Interval → List SourceView → Ruler
ruler_of None sources = record { start = 0; step = 1 }
ruler_of (Some fused) sources = ruler_over (reach_of fused sources)

-- the unit of a time
abbrev pub place_of : Ruler → ℕ → ℕ
place_of ruler time = min ((time - ruler.start) / max ruler.step 1) 800

-- the unit at which a span begins
abbrev pub left_of : Ruler → Interval → ℕ
left_of ruler span = min (place_of ruler span.lo) 796

-- how many units a span has: at least four
abbrev pub extent_of : Ruler → Interval → ℕ
extent_of ruler span = max (min (place_of ruler span.hi + 1) 800 - left_of ruler span) 4

-- the first time of a unit
abbrev pub time_at : Ruler → ℕ → ℕ
time_at ruler unit = sum_of ruler.start (product_of ruler.step unit)
