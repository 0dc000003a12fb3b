-- Steps whose clock readings do not fall, and timelines whose true times do not fall. Each list has the newest first.
use Rattle.std.specs.Prelude.{ℕ, ◌≤◌, List, [], ◌∷◌}
use Rattle.tt_span.specs.Time.{max_time}
use Rattle.tt_consistency.specs.Steps.{Step}
use Rattle.tt_consistency.specs.Timeline.{Timed, clock_of_step, last_time}

-- no clock reading of these steps is below one before it, or below this one; the last is at most this
abbrev pub StepsRise : ℕ → List Step → ℕ → Type 0
StepsRise from [] to = from ≤ to
StepsRise from (step ∷ steps) to = (clock_of_step step ≤ to) × StepsRise from steps (clock_of_step step)

-- the first of these steps, if there is one, was made at this clock reading or a later one
abbrev pub BeginFrom : ℕ → List Step → Type 0
BeginFrom shown [] = Unit {0}
BeginFrom shown (step ∷ []) = shown ≤ clock_of_step step
BeginFrom shown (step ∷ steps) = BeginFrom shown steps

-- the clock reading of a step is in time
abbrev pub IsInTime : Step → Type 0
IsInTime step = clock_of_step step ≤ max_time

-- from this true time on no true time of a timeline falls, and all are in time
abbrev pub TimesRise : ℕ → List Timed → Type 0
TimesRise begun [] = Unit {0}
TimesRise begun (timed ∷ timeline) = (last_time begun timeline ≤ timed.at) × (timed.at ≤ max_time) × TimesRise begun timeline
