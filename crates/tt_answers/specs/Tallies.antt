-- What the turns of a master count.
use Rattle.std.specs.Prelude.{ℕ, ◌-◌, max, List, replicate, slice_index_or, slice_set, Some, None}
use Rattle.tt_stream.specs.Counts.{count_after}
use Rattle.tt_span.specs.Interval.{Interval}
use Rattle.tt_master.specs.declared.silences.Silence.TheVariants.{Clock, Unanswered, Old, Refused, Stopped, Leap, Disagreed, Stepped}
use Rattle.tt_master.specs.declared.silences.NoAnswer.{NoAnswer}
use Rattle.tt_master.specs.declared.silences.NoAnswer.TheVariants as reason
use Rattle.tt_answers.specs.declared.turns.Turn.{Turn}
use Rattle.tt_answers.specs.declared.turns.Turn.TheVariants as turn
use Rattle.tt_answers.specs.declared.tallies.Tally.{Tally}

-- nothing was counted yet
abbrev pub no_tally : Tally
no_tally = record { answers = 0; unanswered = replicate 11 0; width = None; widest = 0 }

-- the place of each reason among the counts, in the order of their numbers
abbrev pub place_of : NoAnswer → ℕ
place_of reason.BadMessage = 0
place_of reason.OtherSource = 1
place_of reason.NotRequest = 2
place_of (reason.Silent Clock) = 3
place_of (reason.Silent Unanswered) = 4
place_of (reason.Silent Old) = 5
place_of (reason.Silent Refused) = 6
place_of (reason.Silent Stopped) = 7
place_of (reason.Silent Leap) = 8
place_of (reason.Silent Disagreed) = 9
place_of (reason.Silent Stepped) = 10

-- the counts of the reasons after one more packet was not answered for this one; a count stays at 2^64 - 1 once it is there
abbrev pub unanswered_after : List ℕ → NoAnswer → List ℕ
unanswered_after counts why = slice_set counts (place_of why) (count_after (slice_index_or counts (place_of why) 0) 1)

-- how wide a span is
abbrev pub width_of : Interval → ℕ
width_of span = span.hi - span.lo

-- one more turn is counted
abbrev pub counted : Turn → Tally → Tally
counted turn.Nothing t = t
counted (turn.Answered span) t = record t { answers = count_after t.answers 1; width = Some (width_of span); widest = max t.widest (width_of span) }
counted (turn.Unanswered why) t = record t { unanswered = unanswered_after t.unanswered why }
