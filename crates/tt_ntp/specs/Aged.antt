-- What a reply tells of the true time at a later reading of the machine's clock.
use Rattle.std.specs.Prelude.{ℕ, ◌+◌, ◌-◌, ◌*◌, ◌≤◌, List, [], ◌∷◌}
use Rattle.tt_span.specs.Time.{max_time, cut}
use Rattle.tt_span.specs.Interval.{Interval}
use Rattle.tt_span.specs.Drift.{KeepsDrift}
use Rattle.tt_span.specs.Statement.{Statement}
use Rattle.tt_ntp.specs.declared.replies.Reply.{Reply}
use Rattle.tt_ntp.specs.Time.{second, IsServerTime}

-- an interval with a margin both ways, cut at 0 and the greatest time
abbrev pub widened : ℕ → Interval → Interval
widened margin i = record { lo = i.lo - margin; hi = cut (i.hi + margin) }

-- the statement that a reply makes: its span with the margin, and the clock readings at which its request was sent and it came
abbrev pub statement_of : ℕ → Reply → ℕ → ℕ → Statement
statement_of margin reply sent got = record { span = widened margin reply.span; sent = sent; got = got }

-- In some run the true time is x when the machine's clock shows c. At a moment from the sending of the request to the receipt of the reply the server read its transmit timestamp, and was then off by no more than the radius and the margin. Among the sending, the receipt and now the machine's clock kept its drift bound.
pub record IsServerRight (ppm margin : ℕ) (bytes : List ℕ) (sent got c x : ℕ) : Type 0 where
  pub sending : ℕ
  pub reading : ℕ
  pub receipt : ℕ
  pub read_after_sending : sending ≤ reading
  pub received_after_reading : reading ≤ receipt
  pub now_after_receipt : receipt ≤ x
  pub in_time : x ≤ max_time
  pub right_when_read : IsServerTime margin bytes (reading * second)
  pub keeps : KeepsDrift ppm (record { clock = sent; time = sending } ∷ record { clock = got; time = receipt } ∷ record { clock = c; time = x } ∷ [])
