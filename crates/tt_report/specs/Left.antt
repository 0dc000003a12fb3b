-- How many lines of a kind were left out. A history is what happened to lines of the kind, newest first.
use Rattle.std.specs.Prelude.{ℕ, ◌≡◌, ◌-◌, ◌+◌, ◌^◌, nat_eq, min, Bool, true, false, if◌then◌else◌, List, [], ◌∷◌, Option, Some, None, slice_get}
use Rattle.tt_status.specs.Limit.{is_due, is_released, kept_of, left_out_of}
use Rattle.tt_status.specs.Limit.{Happened as LimitHappened, StandsFor as LimitStandsFor}
use Rattle.tt_status.specs.Limit.Happened.{asked as limit_asked, looked as limit_looked, turned as limit_turned}
use Rattle.tt_status.specs.declared.lines.LogLine.{LogLine}
use Rattle.tt_report.specs.declared.limits.Asked.{Asked}
use Rattle.tt_report.specs.declared.limits.Kind.{Kind}
use Rattle.tt_report.specs.declared.limits.LogLimits.{LogLimits}
use Rattle.tt_report.specs.declared.limits.Turned.{Turned}

-- a line was to be logged at a moment; it was looked at a moment whether one that was left out can be handed over; what they tell of has changed; or one that was handed over, and says how many were left out, has found a place or none
pub data Happened : Type 0 where
  asked : Asked → ℕ → Happened
  looked : ℕ → Happened
  turned : Happened
  settled : ℕ → Bool → Happened

-- the greatest count
abbrev pub most : ℕ
most = 2 ^ 64 - 1

-- what happened to the limit
abbrev pub limited : List Happened → List LimitHappened
limited [] = []
limited (asked line now ∷ past) = limit_asked now ∷ limited past
limited (looked now ∷ past) = limit_looked now ∷ limited past
limited (turned ∷ past) = limit_turned ∷ limited past
limited (settled told fits ∷ past) = limited past

-- the newest line that was to be logged
abbrev pub newest_of : List Happened → Option Asked
newest_of [] = None
newest_of (asked line now ∷ past) = Some line
newest_of (looked now ∷ past) = newest_of past
newest_of (turned ∷ past) = newest_of past
newest_of (settled told fits ∷ past) = newest_of past

-- how many found no place, with those that they would have told of, since one was handed over
abbrev pub missed_of : List Happened → ℕ
missed_of [] = 0
missed_of (asked line now ∷ past) = if is_due (kept_of (limited past)).last now then 0 else missed_of past
missed_of (looked now ∷ past) = if is_released (limited past) now then 0 else missed_of past
missed_of (turned ∷ past) = missed_of past
missed_of (settled told true ∷ past) = missed_of past
missed_of (settled told false ∷ past) = min (min (missed_of past + told) most + 1) most

-- whether a line is handed over at a moment: then how many were left out, by the limit or for want of a place
abbrev pub answer_of : List Happened → ℕ → Option ℕ
answer_of past now = if is_due (kept_of (limited past)).last now then Some (min (left_out_of (limited past) + missed_of past) most) else None

-- the newest line that was left out, as it is handed over at a moment, with how many others were left out
abbrev pub line_of : Option Asked → ℕ → Option LogLine
line_of None others = None
line_of (Some line) others = Some (record { time = line.time; event = line.event; left_out = others })

abbrev pub released_of : List Happened → ℕ → Option LogLine
released_of past now = if is_released (limited past) now then line_of (newest_of past) (min (left_out_of (limited past) - 1 + missed_of past) most) else None

-- what is kept of a kind is what the history leaves
pub record KindStandsFor (past : List Happened) (kind : Kind) : Type 0 where
  pub limit : LimitStandsFor (limited past) kind.limit
  pub newest : kind.newest ≡ newest_of past
  pub missed : kind.missed ≡ missed_of past

-- what happened to lines of one kind
abbrev pub of_kind : ℕ → List (ℕ × Happened) → List Happened
of_kind kind [] = []
of_kind kind (event ∷ past) = if nat_eq kind event.0 then event.1 ∷ of_kind kind past else of_kind kind past

-- what lines of a kind tell of has changed, if there is one
abbrev pub after_turn : Option ℕ → List (ℕ × Happened) → List (ℕ × Happened)
after_turn None past = past
after_turn (Some kind) past = (kind, turned) ∷ past

-- the same of each of these kinds
abbrev pub after_turns : Turned → List (ℕ × Happened) → List (ℕ × Happened)
after_turns kinds past = after_turn kinds.third (after_turn kinds.second (after_turn kinds.first past))

-- what is kept of each kind is what its own history leaves
abbrev pub StandsFor : List (ℕ × Happened) → LogLimits → Type 0
StandsFor past limits = (k : ℕ) → (kind : Kind) → slice_get limits.kinds k ≡ Some kind → KindStandsFor (of_kind k past) kind
