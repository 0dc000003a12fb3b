-- What the workers of a life did in their turns, in true time, as lists of what is done. Each list has the newest first, but for the calls of a turn and their times, which have the oldest first.
use Rattle.std.specs.Prelude.{◌≡◌, ℕ, suc, ◌≤◌, List, [], ◌∷◌, ◌++◌, length, map, Bool, Option, Result, Ok, Err}
use mathlib.Core.Logic.{inl, inr}
use Rattle.tt_span.specs.Time.{max_time}
use Rattle.tt_span.specs.Drift.{Moment}
use Rattle.tt_span.specs.Interval.{Interval}
use Rattle.tt_publish.specs.Known.{WatchState}
use Rattle.tt_publish.specs.Reading.{fused_span_of}
use Rattle.tt_publish.specs.declared.readings.FusedSpan.{FusedSpan}
use Rattle.tt_stamp.specs.Stamping.{SeatState}
use Rattle.tt_stamp.specs.declared.stampings.Stamping.{Stamping}
use Rattle.tt_session.specs.Conversation.{Conversation}
use Rattle.tt_session.specs.declared.calls.Call.{Call}
use Rattle.tt_connections.specs.Station.{PostState, StationState, Allows}
use Rattle.tt_connections.specs.declared.presence.Question.{Question}
use Rattle.tt_workers.specs.Happening.{WorkerEvent, AreAllByTurns}
use Rattle.tt_world.specs.Publications.{publication_at, reading_at}
use Rattle.tt_world.specs.declared.workers.Arrival.{Arrival}
use Rattle.tt_consistency.specs.Assumed.{moments_in}
use Rattle.tt_consistency.specs.Lives.{Life, WorkerLife}
use Rattle.tt_consistency.specs.Reads.{IsReadAt}
use Rattle.tt_consistency.specs.Running.{Start}
use Rattle.tt_consistency.specs.Timed.{given_of}
use Rattle.tt_consistency.specs.Timeline.{Timed}
use Rattle.tt_life_events.specs.Acts.{LifeDone, Reads}
use Rattle.tt_life_events.specs.Merging.{Does, Stamps}

-- ---- true times

-- the true times of a call of a worker: when it came, when its reading was taken, when its stamp was given, and when it was answered; where no stamp was given, any time between the reading and the answer
pub record WorkTimes : Type 0 where
  pub came : ℕ
  pub read : ℕ
  pub stamped : ℕ
  pub answered : ℕ

-- from the first of these times to the second, no true time of these calls is below one before it
abbrev pub DoNotFall : ℕ → List WorkTimes → ℕ → Type 0
DoNotFall from [] to = from ≤ to
DoNotFall from (times ∷ later) to = (from ≤ times.came) × (times.came ≤ times.read) × (times.read ≤ times.stamped) × (times.stamped ≤ times.answered) × DoNotFall times.answered later to

module _ {C V : Type 0} (gives : C → Option ℕ → C → Type 0) (failed : C → ℕ) (says : V → Question → Bool → Type 0) where
  -- each reading that the calls of a turn were given was taken at the time of its call, by the clock that has these moments and keeps this drift bound; each call has its times
  abbrev pub AllReadIn : (ppm : ℕ) (moments : List Moment) (before : StationState C V) (calls : List Call) (after : StationState C V) → Conversation (Allows gives failed says) before calls after → List WorkTimes → Type 0
  AllReadIn ppm moments before [] after talked [] = Unit {0}
  AllReadIn ppm moments before [] after talked (times ∷ later) = ⊥
  AllReadIn ppm moments before (call ∷ calls) after talked [] = ⊥
  AllReadIn ppm moments before (call ∷ calls) after talked (times ∷ later) =
      IsReadAt gives ppm moments talked.0.post.watch before.post.clock talked.0.post.clock (given_of gives failed says before call talked.0 talked.1) times.read
      × AllReadIn ppm moments talked.0 calls after talked.2 later

  module _ (waits : ℕ) where
    -- the turns of a worker have these true times, which do not fall from the first of these two to the second; each reading was taken at its time
    abbrev pub AreTimed : (ppm : ℕ) (moments : List Moment) (from : ℕ) → List (WorkerEvent gives failed says waits) → List (List WorkTimes) → ℕ → Type 0
    AreTimed ppm moments from [] [] to = from ≤ to
    AreTimed ppm moments from [] (times ∷ earlier) to = ⊥
    AreTimed ppm moments from (inl turn ∷ events) [] to = ⊥
    AreTimed ppm moments from (inl turn ∷ events) (times ∷ earlier) to =
        (begun : ℕ) × AreTimed ppm moments from events earlier begun × DoNotFall begun times to × AllReadIn ppm moments turn.before turn.calls turn.after turn.talked times
    AreTimed ppm moments from (inr end ∷ events) times to = AreTimed ppm moments from events times to

-- a worker of a life served all its sessions by turns, and these have true times, from the beginning of the life on
pub record TurnsOf {C V : Type 0} (gives : C → Option ℕ → C → Type 0) (failed : C → ℕ) (says : V → Question → Bool → Type 0) (waits : ℕ) (life : Life gives failed says waits) (start : Start) (timeline : List Timed) (worker : WorkerLife gives failed says waits) : Type 0 where
  pub by_turns : AreAllByTurns worker.post worker.sessions worker.last
  pub times : List (List WorkTimes)
  pub timed : AreTimed gives failed says waits life.config.drift (moments_in start timeline) start.at by_turns.events times max_time

-- so did each of these workers
abbrev pub AllTurnsOf : {C V : Type 0} (gives : C → Option ℕ → C → Type 0) (failed : C → ℕ) (says : V → Question → Bool → Type 0) (waits : ℕ) → Life gives failed says waits → Start → List Timed → List (WorkerLife gives failed says waits) → Type 0
AllTurnsOf gives failed says waits life start timeline [] = Unit {0}
AllTurnsOf gives failed says waits life start timeline (worker ∷ workers) = TurnsOf gives failed says waits life start timeline worker × AllTurnsOf gives failed says waits life start timeline workers

-- ---- what was done

-- by the worker of this number, whose clock has this drift, where this was published, the oldest first
module _ (w drift : ℕ) (published : List FusedSpan) where
  -- the reading that a call was given at a true time, as what is done: it is that of the last publication that the watch had seen, at some clock reading; a call that was given none has none
  abbrev pub IsReadingOf : WatchState → Result Interval ℕ → ℕ → List LifeDone → Type 0
  IsReadingOf watch (Ok reading) at done =
      (clock : ℕ) × (asked : Option Arrival) × (done ≡ record { at = at; deed = Does (Reads w clock (length watch.items) asked) } ∷ [])
      × (reading ≡ reading_at drift (publication_at published (length watch.items)) clock)
  IsReadingOf watch (Err reason) at done = done ≡ []

  -- the stamp that a seat gave at a true time, as what is done: it is the one by which the seat's own grew; a seat that gave none has the same as before
  abbrev pub IsStampOf : SeatState → SeatState → ℕ → List LifeDone → Type 0
  IsStampOf old new at [] = new.own ≡ old.own
  IsStampOf old new at (done ∷ []) = (entry : Stamping) × (done ≡ record { at = at; deed = Stamps (record { worker = w; entry = entry }) }) × (new.own ≡ entry ∷ old.own)
  IsStampOf old new at (done ∷ other ∷ more) = ⊥

-- what a call of this worker did that led from one post to another and was given this: after what was done before, its reading and then its stamp
pub record IsDoneBy {C : Type 0} (w drift : ℕ) (published : List FusedSpan) (before after : PostState C) (given : Result Interval ℕ) (times : WorkTimes) (past now : List LifeDone) : Type 0 where
  pub reads : List LifeDone
  pub stamps : List LifeDone
  pub now_is : now ≡ stamps ++ (reads ++ past)
  pub read : IsReadingOf w drift published after.watch given times.read reads
  pub stamped : IsStampOf w drift published before.seat after.seat times.stamped stamps

module _ (w drift : ℕ) (published : List FusedSpan) {C V : Type 0} (gives : C → Option ℕ → C → Type 0) (failed : C → ℕ) (says : V → Question → Bool → Type 0) where
  -- what the calls of a turn did, after what was done before
  abbrev pub IsDoneIn : (before : StationState C V) (calls : List Call) (after : StationState C V) → Conversation (Allows gives failed says) before calls after → List WorkTimes → List LifeDone → List LifeDone → Type 0
  IsDoneIn before [] after talked times past now = now ≡ past
  IsDoneIn before (call ∷ calls) after talked [] past now = ⊥
  IsDoneIn before (call ∷ calls) after talked (times ∷ later) past now =
      (mid : List LifeDone) × IsDoneBy w drift published before.post talked.0.post (given_of gives failed says before call talked.0 talked.1) times past mid × IsDoneIn talked.0 calls after talked.2 later mid now

  -- what a worker did in its turns
  abbrev pub IsListOf : (waits : ℕ) → List (WorkerEvent gives failed says waits) → List (List WorkTimes) → List LifeDone → Type 0
  IsListOf waits [] times list = list ≡ []
  IsListOf waits (inl turn ∷ events) [] list = ⊥
  IsListOf waits (inl turn ∷ events) (times ∷ earlier) list = (past : List LifeDone) × IsListOf waits events earlier past × IsDoneIn turn.before turn.calls turn.after turn.talked times past list
  IsListOf waits (inr end ∷ events) times list = IsListOf waits events times list

module _ {C V : Type 0} (gives : C → Option ℕ → C → Type 0) (failed : C → ℕ) (says : V → Question → Bool → Type 0) (waits : ℕ) (life : Life gives failed says waits) (start : Start) (timeline : List Timed) where
  -- these are the lists of what these workers of a life did, with the numbers from this one on
  abbrev pub AreListsOf : ℕ → (workers : List (WorkerLife gives failed says waits)) → AllTurnsOf gives failed says waits life start timeline workers → List (List LifeDone) → Type 0
  AreListsOf w [] turns lists = lists ≡ []
  AreListsOf w (worker ∷ workers) turns [] = ⊥
  AreListsOf w (worker ∷ workers) turns (list ∷ lists) =
      IsListOf w life.config.drift (map fused_span_of life.published) gives failed says waits turns.0.by_turns.events turns.0.times list × AreListsOf (suc w) workers turns.1 lists
