-- How often a kind of line is said.
use Rattle.std.specs.Prelude.{ℕ, ◌≡◌, ◌-◌, ◌+◌, ◌*◌, ◌^◌, ◌&&◌, nat_lt, min, Bool, true, false, not, if◌then◌else◌, List, [], ◌∷◌, Option, Some, None}
use Rattle.tt_status.specs.declared.limits.Limit.{Limit}
use Rattle.tt_status.specs.declared.limits.Said.{Said}

-- what happens to a kind of line: one was to be said at a moment, it was looked at a moment whether one that was left out can be said, or what they tell of has changed. A history has it newest first
pub data Happened : Type 0 where
  asked : ℕ → Happened
  looked : ℕ → Happened
  turned : Happened

-- for how long a kind of line is not said again at first, and at most
abbrev pub quiet : ℕ
quiet = 10000000000

abbrev pub longest : ℕ
longest = 600000000000

-- a moment is not too early after the line that was said last
abbrev pub is_due : Option Said → ℕ → Bool
is_due None now = true
is_due (Some last) now = not (nat_lt (now - last.at) last.pause)

-- for how long none follows a line of a moment: twice as long as behind the last one, at most ten minutes, if less time than that pause has passed since it was over; else as at first
abbrev pub pause_at : Option Said → ℕ → ℕ
pause_at None now = quiet
pause_at (Some last) now = if nat_lt (now - last.at - last.pause) last.pause then min (last.pause * 2) longest else quiet

-- the last line is now that of a moment
abbrev pub said_at : Option Said → ℕ → Option Said
said_at last now = Some (record { at = now; pause = pause_at last now })

-- the last line, as if it were a first one
abbrev pub first_again : Option Said → Option Said
first_again None = None
first_again (Some last) = Some (record { at = last.at; pause = quiet })

-- what a history leaves: the line that was said last, and whether one that was left out since waits to be said
pub record Kept : Type 0 where
  pub last : Option Said
  pub waits : Bool

-- a line that is to be said at a moment is said, or waits if that is too early
abbrev pub said_or_waits : Option Said → ℕ → Kept
said_or_waits last now = if is_due last now then record { last = said_at last now; waits = false } else record { last = last; waits = true }

abbrev pub kept_of : List Happened → Kept
kept_of [] = record { last = None; waits = false }
kept_of (asked now ∷ past) = said_or_waits (kept_of past).last now
kept_of (looked now ∷ past) = if (kept_of past).waits then said_or_waits (kept_of past).last now else kept_of past
kept_of (turned ∷ past) = record { last = first_again (kept_of past).last; waits = false }

-- a line that waits is said at a moment
abbrev pub is_released : List Happened → ℕ → Bool
is_released past now = (kept_of past).waits && is_due (kept_of past).last now

-- how many were left out since the last one, with the one that waits
abbrev pub left_out_of : List Happened → ℕ
left_out_of [] = 0
left_out_of (asked now ∷ past) = if is_due (kept_of past).last now then 0 else min (left_out_of past + 1) (2 ^ 64 - 1)
left_out_of (looked now ∷ past) = if is_released past now then 0 else left_out_of past
left_out_of (turned ∷ past) = left_out_of past

-- whether a line is said at a moment: then the number that was left out
abbrev pub answer_of : List Happened → ℕ → Option ℕ
answer_of past now = if is_due (kept_of past).last now then Some (left_out_of past) else None

-- whether a line that waits is said at a moment: then the number of the others that were left out
abbrev pub release_of : List Happened → ℕ → Option ℕ
release_of past now = if is_released past now then Some (left_out_of past - 1) else None

-- what is kept is what the history leaves
pub record StandsFor (past : List Happened) (limit : Limit) : Type 0 where
  pub last : limit.last ≡ (kept_of past).last
  pub waits : limit.waits ≡ (kept_of past).waits
  pub left_out : limit.left_out ≡ left_out_of past
