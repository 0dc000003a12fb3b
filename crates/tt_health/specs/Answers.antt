-- The last answers of sources.
use Rattle.std.specs.Prelude.{◌≡◌, ◌≤◌, ◌<◌, ◌⊎◌, ℕ, max, nat_eq, nat_le, count_by, if◌then◌else◌, map, slice_index_or, Bool, false, List, [], ◌∷◌, Option, Some, None}
use Rattle.std.specs.List.{range_with_len}
use Rattle.tt_rounds.specs.Reports.{silent}
use Rattle.tt_rounds.specs.declared.reports.SourceOutcome.{SourceOutcome}
use Rattle.tt_rounds.specs.declared.reports.SourceOutcome.TheVariants.{Accepted}
use Rattle.tt_rounds.specs.declared.reports.SourceReport.{SourceReport}
use Rattle.tt_health.specs.declared.answers.Answer.{Answer}

-- an answer by when the source was polled and what came of it
abbrev pub answer_of : Option ℕ → SourceOutcome → Option Answer
answer_of (Some polled) (Accepted received) = Some (record { polled = polled; received = received })
answer_of polled outcome = None

-- an answer, or else the one before
abbrev pub later_answer : Option Answer → Option Answer → Option Answer
later_answer last None = last
later_answer last (Some answer) = Some answer

-- what a round took as the answer of a source: what was accepted of one that it polled
abbrev pub answer_in : SourceReport → Option Answer
answer_in report = answer_of report.polled report.outcome

-- the last answer of a source after a round: that of the round, or else the one before
abbrev pub last_after : Option Answer → SourceReport → Option Answer
last_after last report = later_answer last (answer_in report)

-- the last answer of source k
abbrev pub answer_at : List (Option Answer) → ℕ → Option Answer
answer_at answers k = slice_index_or answers k None

-- the last answer of each source after a round
unfoldable pub answers_after : List (Option Answer) → List SourceReport → List (Option Answer)
answers_after answers sources = map (λ k. last_after (answer_at answers k) (slice_index_or sources k silent)) (range_with_len 0 16)

-- ---- since when sources have answered

-- the last answer of a source came at this clock reading or later
abbrev pub has_answered_since : ℕ → Option Answer → Bool
has_answered_since clock None = false
has_answered_since clock (Some answer) = nat_le clock answer.received

-- how many of these sources have their last answer at this clock reading or later
abbrev pub answered_since : List (Option Answer) → ℕ → ℕ
answered_since answers clock = count_by (has_answered_since clock) answers

-- this is the greatest clock reading since which n of these sources have answered
pub record IsNthNewest (answers : List (Option Answer)) (n clock : ℕ) : Type 0 where
  pub enough : n ≤ answered_since answers clock
  pub greatest : (other : ℕ) → n ≤ answered_since answers other → other ≤ clock

-- fewer than n of these sources have ever answered, or n is 0
abbrev pub TooFewAnswered : List (Option Answer) → ℕ → Type 0
TooFewAnswered answers n = (n ≡ 0) ⊎ (answered_since answers 0 < n)

-- ---- the same, by looking at each answer

-- the later of a clock reading and another that may be there
abbrev pub later_of : ℕ → Option ℕ → Option ℕ
later_of clock None = Some clock
later_of clock (Some other) = Some (max clock other)

-- the greatest of the clock readings of the answers in a second list since which n of the first list came
abbrev pub newest_among : List (Option Answer) → ℕ → List (Option Answer) → Option ℕ
newest_among answers n [] = None
newest_among answers n (None ∷ some) = newest_among answers n some
newest_among answers n (Some answer ∷ some) =
    if nat_le n (answered_since answers answer.received) then later_of answer.received (newest_among answers n some) else newest_among answers n some

-- the clock reading since which n of these sources have answered, if so many have
abbrev pub nth_newest : List (Option Answer) → ℕ → Option ℕ
nth_newest answers n = if nat_eq n 0 then None else newest_among answers n answers
