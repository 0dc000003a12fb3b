-- Publications that do not meet. The law `unmet_breaks` of tt_consistency begins with two such publications of one life: `apart` is what its `HasUnmet` says of them.
use Rattle.std.specs.Prelude.{ℕ}
use Rattle.tt_span.specs.Interval.{Meets}
use Rattle.tt_publish.specs.Reading.{CanBeReadAt, reading_at}
use Rattle.tt_publish.specs.declared.readings.FusedSpan.{FusedSpan}

-- an earlier fused span can be read at the clock reading of a later one, and no time lies in both this reading and the later span
pub record IsUnmet (ppm : ℕ) (earlier later : FusedSpan) : Type 0 where
  pub readable : CanBeReadAt earlier later.clock
  pub apart : ¬ Meets (reading_at ppm earlier later.clock) later.span
