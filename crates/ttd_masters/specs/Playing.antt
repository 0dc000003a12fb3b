-- What a master notes of its turns.
use Rattle.std.specs.Prelude.{ℕ, ◌-◌, ◌||◌, max, nat_lt, if◌then◌else◌, Bool, true, false, Option, Some, None, is_some}
use Rattle.tt_answers.specs.declared.turns.Turn.{Turn}
use Rattle.tt_answers.specs.declared.turns.Turn.TheVariants.{Answered, Unanswered}
use Rattle.tt_master.specs.Silence.{silence_number_of}
use Rattle.tt_master.specs.declared.silences.NoAnswer.TheVariants.{Silent}
use Rattle.tt_master.specs.declared.silences.Silence.{Silence}
use Rattle.tt_master.specs.declared.silences.Silence.TheVariants.{Stepped}
use Rattle.tt_status.specs.declared.lines.LogEvent.{LogEvent}
use Rattle.tt_status.specs.declared.lines.LogEvent.TheVariants.{ClockStepped, MasterFailed, MasterResumed, MasterSilent, WidthAbove, WidthInBounds}

-- why a turn found nothing to answer with, if it did
abbrev pub silence_in : Turn → Option Silence
silence_in (Unanswered (Silent silence)) = Some silence
silence_in _ = None

-- what is logged where a master has nothing to answer with
abbrev pub event_of : Silence → LogEvent
event_of Stepped = ClockStepped
event_of silence = MasterSilent (silence_number_of silence)

-- why a master is silent after a turn that found nothing to answer with, or answered: a turn that did neither tells nothing
abbrev pub silence_after : Option Silence → Option Silence → Option ℕ → Option Silence
silence_after before (Some silence) width = Some silence
silence_after before None (Some width) = None
silence_after before None None = before

-- a turn found nothing to answer with, or answered
abbrev pub tells : Option Silence → Option ℕ → Bool
tells silence width = is_some silence || is_some width

-- how wide the answer of a turn is, if a poll was answered
abbrev pub width_in : Turn → Option ℕ
width_in (Answered span) = Some (span.hi - span.lo)
width_in _ = None

-- the greatest width of the answers so far and one more
abbrev pub widest_after : Option ℕ → Option ℕ → Option ℕ
widest_after (Some widest) (Some width) = Some (max widest width)
widest_after None width = width
widest_after (Some widest) None = Some widest

-- the last answer was wider than the limit, after a turn with an answer of this width or with none
abbrev pub is_wide_after : Bool → Option ℕ → Option ℕ → Bool
is_wide_after was_wide (Some width) (Some limit) = nat_lt limit width
is_wide_after was_wide width limit = was_wide

-- an answer is logged each time that it is too wide, and the first one after that that is not
abbrev pub width_end : Bool → Option LogEvent
width_end true = Some WidthInBounds
width_end false = None

abbrev pub width_event : Bool → Option ℕ → Option ℕ → Option LogEvent
width_event was_wide (Some width) (Some limit) = if nat_lt limit width then Some (WidthAbove width limit) else width_end was_wide
width_event was_wide width limit = None

-- a turn is logged each time that it fails, and the first one after that that does not
abbrev pub failure_event : Bool → Option ℕ → Option LogEvent
failure_event had_failed (Some number) = Some (MasterFailed number)
failure_event true None = Some MasterResumed
failure_event false None = None
