-- What servers say together.
use Rattle.std.specs.Prelude.{ℕ, Bool, false, not, List, [], ◌∷◌, count_by, is_ok, Option, Some, None, Result, Ok, Err}
use Rattle.tt_span.specs.Interval.{Interval, whole}
use Rattle.tt_fuse.specs.Depth.{holds}
use Rattle.tt_master.specs.declared.silences.Silence.{Silence}

-- what a server says
abbrev pub Said : Type 0
Said = Result Interval Silence

-- the span that stands for what a server says: where it says nothing, the whole of time
abbrev pub span_for : Said → Interval
span_for (Ok span) = span
span_for (Err silence) = whole

-- how many of the servers say something
abbrev pub speaking : List Said → ℕ
speaking said = count_by is_ok said

-- the first silence, if a server is silent
abbrev pub first_reason : List Said → Option Silence
first_reason [] = None
first_reason (Ok span ∷ said) = first_reason said
first_reason (Err silence ∷ said) = Some silence

-- whether a server says a span that does not hold the time
abbrev pub is_wrong : ℕ → Said → Bool
is_wrong x (Ok span) = not (holds x span)
is_wrong x (Err silence) = false

-- how many of the servers say a span that does not hold the time
abbrev pub wrong_at : List Said → ℕ → ℕ
wrong_at said x = count_by (is_wrong x) said
