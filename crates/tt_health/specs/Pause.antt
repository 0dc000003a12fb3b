-- Starts after lives that ended by a break.
use Rattle.std.specs.Prelude.{◌≡◌, ◌⊎◌, ◌<◌, ◌+◌, ◌-◌, ◌*◌, ◌^◌, ◌&&◌, ℕ, zero, suc, min, nat_le, if◌then◌else◌, List, [], ◌∷◌, codes, Option, Some, None}
use Rattle.tt_text.specs.Line.{line_of}
use Rattle.tt_health.specs.declared.pauses.BreakMoment.{BreakMoment}
use Rattle.tt_health.specs.declared.pauses.BreakRecord.{BreakRecord}

-- breaks are in a row where no more time than this lies between them
abbrev pub break_window : ℕ
break_window = 60000000000

-- the pause after one break
abbrev pub first_pause : ℕ
first_pause = 100000000

-- the longest pause
abbrev pub longest_pause : ℕ
longest_pause = 30000000000

-- a moment's numbers fit 64 bits
abbrev pub IsMoment : Option BreakMoment → Type 0
IsMoment None = Unit {0}
IsMoment (Some moment) = (moment.time < 2 ^ 64) × (moment.reason < 2 ^ 64)

-- the numbers of a record fit 64 bits
pub record IsBreakRecord (last : BreakRecord) : Type 0 where
  pub breaks : last.breaks < 2 ^ 64
  pub clock : last.clock < 2 ^ 64
  pub total : last.total < 2 ^ 64
  pub moment : IsMoment last.moment

-- the one text of a record: a line of a name and a version, the breaks in a row, the clock reading and all breaks, and then the time and the reason, where they are known
abbrev pub text_with : ℕ → ℕ → ℕ → Option BreakMoment → List ℕ
text_with breaks clock total None = line_of (codes "tt-break 2") (breaks ∷ clock ∷ total ∷ [])
text_with breaks clock total (Some moment) = line_of (codes "tt-break 3") (breaks ∷ clock ∷ total ∷ moment.time ∷ moment.reason ∷ [])

abbrev pub text_of : BreakRecord → List ℕ
text_of last = text_with last.breaks last.clock last.total last.moment

-- a text of the first version tells of a record: it has no number of all breaks, and those in a row stand for it
pub record IsFirstText (text : List ℕ) (last : BreakRecord) : Type 0 where
  pub is : text ≡ line_of (codes "tt-break 1") (last.breaks ∷ last.clock ∷ [])
  pub total : last.total ≡ last.breaks
  pub moment : last.moment ≡ None

-- a text tells of a record: as it is written, or as the first version was
abbrev pub IsTextOf : List ℕ → BreakRecord → Type 0
IsTextOf text last = (text ≡ text_of last) ⊎ IsFirstText text last

-- the breaks of all lives that a record tells of, none without one
abbrev pub breaks_told : Option BreakRecord → ℕ
breaks_told None = 0
breaks_told (Some last) = last.total

-- when the last break was, and why, where a record tells it
abbrev pub moment_told : Option BreakRecord → Option BreakMoment
moment_told None = None
moment_told (Some last) = last.moment

-- the breaks in a row before a start at a clock reading: those of a record that is not too old
abbrev pub breaks_in_a_row : Option BreakRecord → ℕ → ℕ
breaks_in_a_row None now = 0
breaks_in_a_row (Some last) now = if nat_le last.clock now && nat_le (now - last.clock) break_window then last.breaks else 0

-- the pause after one break, doubled so many times, but never longer than the longest
abbrev pub doubled : ℕ → ℕ
doubled zero = first_pause
doubled (suc n) = min (2 * doubled n) longest_pause

-- the pause before a start after so many breaks in a row: none after none
abbrev pub pause_of : ℕ → ℕ
pause_of zero = 0
pause_of (suc n) = doubled n

-- the record of a life that ends by a break: one more than the breaks in a row and than all breaks before it, as far as 64 bits can say, and when it was and why
abbrev pub record_after : Option BreakRecord → ℕ → Option BreakMoment → BreakRecord
record_after last now moment = record { breaks = min (breaks_in_a_row last now + 1) (2 ^ 64 - 1); clock = now; total = min (breaks_told last + 1) (2 ^ 64 - 1); moment = moment }
