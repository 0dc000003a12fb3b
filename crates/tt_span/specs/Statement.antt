-- What a source stated, and what it comes to at a later clock reading.
use Rattle.std.specs.Prelude.{ℕ, ◌-◌, ◌≤◌, Option, Some, None}
use Rattle.tt_span.specs.Time.{max_time}
use Rattle.tt_span.specs.Interval.{Interval, IsInterval, whole}
use Rattle.tt_span.specs.Drift.{aged_low, aged_high}

-- an accepted answer: its span, and the clock readings at which its poll was sent and the answer came
pub record Statement : Type 0 where
  pub span : Interval
  pub sent : ℕ
  pub got : ℕ

-- the answer came no earlier than its poll was sent, and both were in time
pub record IsStatement (s : Statement) : Type 0 where
  pub valid : IsInterval s.span
  pub ordered : s.sent ≤ s.got
  pub in_time : s.got ≤ max_time

-- the statement at a clock reading: its lower end aged since the receipt, its upper end since the sending
abbrev pub statement_at : ℕ → Statement → ℕ → Interval
statement_at ppm s c = record { lo = aged_low ppm s.span.lo (c - s.got); hi = aged_high ppm s.span.hi (c - s.sent) }

-- the span of a source at a clock reading: a source without a statement stands as the whole
abbrev pub stated_at : ℕ → Option Statement → ℕ → Interval
stated_at drift None clock = whole
stated_at drift (Some statement) clock = statement_at drift statement clock
