-- What a master over a reference of intervals is, and what its calls say.
use Rattle.std.specs.Prelude.{◌≡◌, ℕ, List, Result, Ok, Err}
use Rattle.tt_span.specs.Interval.{Interval}
use Rattle.tt_master.specs.declared.silences.Silence.{Silence}
use Rattle.tt_master.specs.declared.silences.NoAnswer.{NoAnswer}
use Rattle.tt_master.specs.declared.silences.NoAnswer.TheVariants.{Silent}

-- a master over a reference of intervals: the source that it is, and the reference
pub record SpanMasterState (R : Type 0) : Type 0 where
  pub source : ℕ
  pub reference : R

-- a master answers the interval that its reference gave, with the packet that belongs to it, or refuses with the reason that its reference gave
abbrev pub AnswersBySpan : (Result Interval Silence → Type 0) → (Interval → List ℕ) → Result (Interval × List ℕ) NoAnswer → Type 0
AnswersBySpan gave packet_of (Ok answer) = gave (Ok answer.0) × (answer.1 ≡ packet_of answer.0)
AnswersBySpan gave packet_of (Err why) = (silence : Silence) × gave (Err silence) × (why ≡ Silent silence)
