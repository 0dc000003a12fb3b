-- What a source stated, and what it tells of the true time at a later clock reading.
use Rattle.std.specs.Prelude.{ℕ, ◌+◌, ◌-◌, ◌≤◌, [], ◌∷◌}
use Rattle.tt_span.specs.Time.{max_time}
use Rattle.tt_span.specs.Interval.{Holds}
use Rattle.tt_span.specs.Drift.{KeepsDrift, widening}
pub use Rattle.tt_span.specs.Statement.{Statement, IsStatement, statement_at}

-- In some run the true time is x when the clock shows c: the answer's span held the true time at some moment from the sending
-- to the receipt, and the clock kept its drift bound among the sending, the receipt and now.
pub record IsPossibleNow (ppm : ℕ) (s : Statement) (c x : ℕ) : Type 0 where
  pub sending : ℕ
  pub giving : ℕ
  pub receipt : ℕ
  pub given_after_sending : sending ≤ giving
  pub received_after_giving : giving ≤ receipt
  pub now_after_receipt : receipt ≤ x
  pub in_time : x ≤ max_time
  pub true_when_given : Holds s.span giving
  pub keeps : KeepsDrift ppm (record { clock = s.sent; time = sending } ∷ record { clock = s.got; time = receipt } ∷ record { clock = c; time = x } ∷ [])

-- the upper end before it is cut
abbrev pub uncut_high : ℕ → Statement → ℕ → ℕ
uncut_high ppm s c = s.span.hi + (c - s.sent) + widening ppm (c - s.sent)

-- the lower end before it is cut
abbrev pub uncut_low : ℕ → Statement → ℕ → ℕ
uncut_low ppm s c = s.span.lo + (c - s.got) - widening ppm (c - s.got)
