-- The sessions of a worker of a life in true time, by the true times of its turns. Events have the newest first, calls and their times the oldest first.
use Rattle.std.specs.Prelude.{◌≡◌, ℕ, List, [], ◌∷◌, ◌++◌, map, nat_eq, if◌then◌else◌, Bool, Option, Some, None}
use Rattle.std.specs.Option.{option_or}
use mathlib.Core.Logic.{inl, inr}
use Rattle.tt_session.specs.declared.calls.Call.{Call}
use Rattle.tt_connections.specs.Sessions.{WorkerSession}
use Rattle.tt_connections.specs.Station.{new_station}
use Rattle.tt_connections.specs.declared.presence.Question.{Question}
use Rattle.tt_workers.specs.Happening.{WorkerEvent, calls_at, made_at, made_on}
use Rattle.tt_consistency.specs.Assumed.{IsTimedIn}
use Rattle.tt_consistency.specs.Cuts.{Cut, IsIn}
use Rattle.tt_consistency.specs.Lives.{Life}
use Rattle.tt_consistency.specs.Running.{Start}
use Rattle.tt_consistency.specs.Timed.{CallTimes, TimedSession, timed_of}
use Rattle.tt_consistency.specs.Timeline.{Timed}
use Rattle.tt_life_events.specs.Beginnings.{AreFirstOf, WorkBy}
use Rattle.tt_life_events.specs.Turns.{WorkTimes}

-- the true times of a call of a turn, as those of a call of a session
abbrev pub call_times : WorkTimes → CallTimes
call_times times = record { came = times.came; read = times.read; answered = times.answered }

module _ {C V : Type 0} {gives : C → Option ℕ → C → Type 0} {failed : C → ℕ} {says : V → Question → Bool → Type 0} {waits : ℕ} where
  -- the true times of the calls of the session at a place: those of its turns, since the session before it ended
  abbrev pub session_times : ℕ → List (WorkerEvent gives failed says waits) → List (List WorkTimes) → List CallTimes
  session_times place [] times = []
  session_times place (inl turn ∷ events) [] = []
  session_times place (inl turn ∷ events) (times ∷ earlier) = if nat_eq place turn.place then session_times place events earlier ++ map call_times times else session_times place events earlier
  session_times place (inr end ∷ events) times = if nat_eq place end.place then [] else session_times place events times

-- all that is assumed of a session of a life holds of each that ended with one of these events, with the true times of its turns
abbrev pub AllTimedIn : {C V : Type 0} {gives : C → Option ℕ → C → Type 0} {failed : C → ℕ} {says : V → Question → Bool → Type 0} {waits : ℕ} → Life gives failed says waits → Start → List Timed → List (WorkerEvent gives failed says waits) → List (List WorkTimes) → Type 0
AllTimedIn life start timeline [] times = Unit {0}
AllTimedIn life start timeline (inl turn ∷ events) [] = ⊥
AllTimedIn life start timeline (inl turn ∷ events) (times ∷ earlier) = AllTimedIn life start timeline events earlier
AllTimedIn life start timeline (inr end ∷ events) times = IsTimedIn life start timeline end.session (session_times end.place events times) × AllTimedIn life start timeline events times

-- ---- in a cut

module _ {C V : Type 0} {gives : C → Option ℕ → C → Type 0} {failed : C → ℕ} {says : V → Question → Bool → Type 0} {waits : ℕ} where
  -- what happened behind the first ones of all events: where the last of these is a turn that had not made all of its calls, behind that turn
  abbrev pub events_behind : (events all : List (WorkerEvent gives failed says waits)) → AreFirstOf events all → List (WorkerEvent gives failed says waits)
  events_behind events all (inl whole_turns) = whole_turns.0
  events_behind events all (inr ends) = ends.later

  -- the session that ends next at a place, in these events
  abbrev pub next_ended : ℕ → List (WorkerEvent gives failed says waits) → Option (WorkerSession gives failed says waits)
  next_ended place [] = None
  next_ended place (inl turn ∷ later) = next_ended place later
  next_ended place (inr end ∷ later) = option_or (next_ended place later) (if nat_eq place end.place then Some end.session else None)

  -- each session that made a call and ended with one of these events is in a cut, with the true times of its turns
  abbrev pub AllEndedIn : Cut gives failed says waits → List (WorkerEvent gives failed says waits) → List (List WorkTimes) → Type 0
  AllEndedIn cut [] times = Unit {0}
  AllEndedIn cut (inl turn ∷ events) [] = ⊥
  AllEndedIn cut (inl turn ∷ events) (times ∷ earlier) = AllEndedIn cut events earlier
  AllEndedIn cut (inr end ∷ events) times =
      ((call : Call) (calls : List Call) → end.session.session.calls ≡ call ∷ calls → IsIn cut (timed_of end.session (session_times end.place events times))) × AllEndedIn cut events times

-- behind these events of a worker the session at a place goes on: what it had done is a session in a cut, whose calls are those of its turns as they were made, from state to state, with the true times of these; it is the beginning of the one that ends next at this place, in the later events
pub record GoesOnIn {C V : Type 0} {gives : C → Option ℕ → C → Type 0} {failed : C → ℕ} {says : V → Question → Bool → Type 0} {waits : ℕ} (cut : Cut gives failed says waits) (place : ℕ)
    (later events : List (WorkerEvent gives failed says waits)) (times : List (List WorkTimes)) : Type 0 where
  pub session : TimedSession gives failed says
  pub made_are : made_on gives failed says (new_station session.post session.client) session.calls session.after session.talked ≡ made_at place events
  pub times_are : session.times ≡ session_times place events times
  pub inside : IsIn cut session
  pub next : next_ended place later ≡ Some inside.begun.whole

-- of what a worker had done by some moment, before these later events, each session that had made a call is in a cut, with the true times of its turns: those that had ended, and at each place the one that goes on
pub record AreSessionsIn {C V : Type 0} {gives : C → Option ℕ → C → Type 0} {failed : C → ℕ} {says : V → Question → Bool → Type 0} {waits : ℕ} (cut : Cut gives failed says waits)
    (later : List (WorkerEvent gives failed says waits)) (work : WorkBy gives failed says waits) : Type 0 where
  pub ended : AllEndedIn cut work.events work.times
  pub going_on : (place : ℕ) (call : Call) (calls : List Call) → calls_at place work.events ≡ call ∷ calls → GoesOnIn cut place later work.events work.times
