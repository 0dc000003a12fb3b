-- What a master is, and what its calls say.
use Rattle.std.specs.Prelude.{◌≡◌, ◌≤◌, ℕ, List, Option, Some, None, Result, Ok, Err}
use Rattle.tt_span.specs.Time.{max_time}
use Rattle.tt_master.specs.declared.faults.MasterFault.{MasterFault}
use Rattle.tt_master.specs.declared.faults.MasterFault.TheVariants.{Reference}

-- a master: the source that it is, by how much its reference may be off, the reference, and the last packets that it
-- played, of TTP1 and of TTP2
pub record MasterState (R : Type 0) : Type 0 where
  pub source : ℕ
  pub uncertainty : ℕ
  pub reference : R
  pub played : Option (List ℕ)
  pub played2 : Option (List ℕ)

-- a master answers what belongs to the time that its reference gave, or refuses because the reference gave none
abbrev pub AnswersByTime : {A : Type 0} → (Option ℕ → Type 0) → (ℕ → A) → Result A MasterFault → Type 0
AnswersByTime gave answer_at (Ok answer) = (time : ℕ) × gave (Some time) × (time ≤ max_time) × (answer ≡ answer_at time)
AnswersByTime gave answer_at (Err e) = (e ≡ Reference) × gave None

-- the last packet that was played, after a call of this result
abbrev pub played_after : Result (Option (List ℕ)) MasterFault → Option (List ℕ) → Option (List ℕ)
played_after (Ok (Some packet)) before = Some packet
played_after _ before = before
