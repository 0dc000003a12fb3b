-- What a reference of intervals in memory gives.
use Rattle.std.specs.Prelude.{◌≡◌, List, [], ◌∷◌, Result, Err}
use Rattle.tt_span.specs.Interval.{Interval}
use Rattle.tt_master.specs.declared.silences.Silence.{Silence}
use Rattle.tt_master.specs.declared.silences.Silence.TheVariants.{Unanswered}

-- a call of such a reference gives the next of its list; at the end, that no server has answered yet
abbrev pub GivesNextSpan : List (Result Interval Silence) → Result Interval Silence → List (Result Interval Silence) → Type 0
GivesNextSpan [] gave after = (gave ≡ Err Unanswered) × (after ≡ [])
GivesNextSpan (given ∷ left) gave after = (gave ≡ given) × (after ≡ left)
