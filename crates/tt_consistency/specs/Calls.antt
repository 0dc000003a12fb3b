-- Calls of a daemon's rounds one after another, as one life of its machine. Each list has the newest first.
use Rattle.std.specs.Prelude.{◌≡◌, ℕ, ◌≤◌, List, [], ◌∷◌, ◌++◌, Option, Some, None, Result}
use Rattle.tt_rounds.specs.Course.{Given, Stand, rounds_of}
use Rattle.tt_rounds.specs.Link.{Exchange}
use Rattle.tt_rounds.specs.Making.{Leads}
use Rattle.tt_rounds.specs.declared.faults.NodeFault.{NodeFault}
use Rattle.tt_consistency.specs.CourseSteps.{kept_in, rounds_steps}
use Rattle.tt_consistency.specs.Steps.{Kept, Step}

-- a call of so many rounds: what it was given and what it exchanged, where it began and ended, and its answer
pub record RoundsCall : Type 0 where
  pub rounds : ℕ
  pub turns : ℕ
  pub given : Given
  pub exchanges : List Exchange
  pub from : List Exchange → Stand
  pub to : List Exchange → Stand
  pub answer : Result (Unit {0}) NodeFault

-- what is kept of the daemon after these calls, of which the first began with this
abbrev pub kept_after : Kept → List RoundsCall → Kept
kept_after begun [] = begun
kept_after begun (call ∷ calls) = kept_in (call.to call.exchanges)

-- each call is the course of its rounds, and begins with the daemon and the publications with which the one before it ended, whatever its answer was
abbrev pub AreInTurn : Kept → List RoundsCall → Type 0
AreInTurn begun [] = Unit {0}
AreInTurn begun (call ∷ calls) =
    Leads (rounds_of call.rounds call.turns) call.given call.exchanges call.from call.to call.answer × (kept_in (call.from []) ≡ kept_after begun calls) × AreInTurn begun calls

-- the steps of all these calls
abbrev pub calls_steps : List RoundsCall → List Step
calls_steps [] = []
calls_steps (call ∷ calls) = rounds_steps call.rounds call.turns (call.from []) call.given ++ calls_steps calls

-- readings, the oldest first, of which none is below one before it: from this one on, up to the last of them; a failure gives none
abbrev pub Rise : ℕ → List (Option ℕ) → ℕ → Type 0
Rise from [] to = from ≡ to
Rise from (None ∷ readings) to = Rise from readings to
Rise from (Some clock ∷ readings) to = (from ≤ clock) × Rise clock readings to

-- no reading that the clock gave in these calls is below one before it, or below this one; the last is at most this
abbrev pub RiseIn : ℕ → List RoundsCall → ℕ → Type 0
RiseIn from [] to = from ≤ to
RiseIn from (call ∷ calls) to = (before after : ℕ) × RiseIn from calls before × Rise before call.given.readings after × (after ≤ to)
