-- How the workers of a life share one sequencer. Each list of stamps has the newest first.
use Rattle.std.specs.Prelude.{◌≡◌, ℕ, suc, List, [], ◌∷◌, length, Bool, Option}
use Rattle.atomic_table.specs.Seated.{TableId}
use Rattle.tt_stamp.specs.Stamping.{IsLegalRun, Continues, entries_of, new_seat}
use Rattle.tt_stamp.specs.declared.stampings.Stamping.{Stamping}
use Rattle.tt_connections.specs.declared.presence.Question.{Question}
use Rattle.tt_consistency.specs.Lives.{WorkerLife}

-- the worker of this number began with the seat of this number of a new sequencer with so many seats, and has its part of this history: it has seen the beginning of it, and all entries under its number are its own
pub record HasSeatOf {C V : Type 0} {gives : C → Option ℕ → C → Type 0} {failed : C → ℕ} {says : V → Question → Bool → Type 0} {waits : ℕ} (table : TableId) (seats : ℕ) (history : List Stamping) (number : ℕ) (worker : WorkerLife gives failed says waits) : Type 0 where
  pub seat_is : worker.post.seat ≡ new_seat table seats number
  pub begins : Continues worker.last.seat.seen history
  pub own : entries_of (number ∷ []) history ≡ worker.last.seat.own

-- these workers have the seats from this number on
abbrev pub HaveSeatsOf : {C V : Type 0} {gives : C → Option ℕ → C → Type 0} {failed : C → ℕ} {says : V → Question → Bool → Type 0} {waits : ℕ} → TableId → ℕ → List Stamping → ℕ → List (WorkerLife gives failed says waits) → Type 0
HaveSeatsOf table seats history number [] = Unit {0}
HaveSeatsOf table seats history number (worker ∷ workers) = HasSeatOf table seats history number worker × HaveSeatsOf table seats history (suc number) workers

-- the workers drew their stamps from one sequencer, each by the seat of its number: what all of them have stamped is one legal history
pub record ShareOneSequencer {C V : Type 0} {gives : C → Option ℕ → C → Type 0} {failed : C → ℕ} {says : V → Question → Bool → Type 0} {waits : ℕ} (workers : List (WorkerLife gives failed says waits)) : Type 0 where
  pub table : TableId
  pub history : List Stamping
  pub legal : IsLegalRun (length workers) history
  pub each : HaveSeatsOf table (length workers) history 0 workers
