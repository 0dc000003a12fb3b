-- What happened at a worker that serves its sessions by turns. Each list has the newest first.
use Rattle.std.specs.Prelude.{◌≡◌, ◌⊎◌, ℕ, Bool, List, [], ◌∷◌, ◌++◌, nat_eq, if◌then◌else◌, Option, Some, None}
use mathlib.Core.Logic.{inl, inr}
use Rattle.tt_session.specs.Conversation.{Conversation}
use Rattle.tt_session.specs.declared.calls.Call.{Call}
use Rattle.tt_connections.specs.Station.{PostState, StationState, Allows, new_station}
use Rattle.tt_connections.specs.Sessions.{WorkerSession}
use Rattle.tt_connections.specs.Turns.{AllowsOn}
use Rattle.tt_connections.specs.declared.presence.Question.{Question}

-- a turn of the session at a place: its calls, from what it found to what it left
pub record SessionTurn {C V : Type 0} (gives : C → Option ℕ → C → Type 0) (failed : C → ℕ) (says : V → Question → Bool → Type 0) : Type 0 where
  pub place : ℕ
  pub before : StationState C V
  pub calls : List Call
  pub after : StationState C V
  pub talked : Conversation (Allows gives failed says) before calls after

-- the end of the session at a place
pub record SessionEnd {C V : Type 0} (gives : C → Option ℕ → C → Type 0) (failed : C → ℕ) (says : V → Question → Bool → Type 0) (waits : ℕ) : Type 0 where
  pub place : ℕ
  pub session : WorkerSession gives failed says waits

-- a call as it was made: the state that it found and the one that it left, with all that is promised of it
pub record MadeCall {C V : Type 0} (gives : C → Option ℕ → C → Type 0) (failed : C → ℕ) (says : V → Question → Bool → Type 0) : Type 0 where
  pub before : StationState C V
  pub call : Call
  pub after : StationState C V
  pub allowed : Allows gives failed says before call after

module _ {C V : Type 0} (gives : C → Option ℕ → C → Type 0) (failed : C → ℕ) (says : V → Question → Bool → Type 0) where
  -- the calls of a turn as they were made, the oldest first
  abbrev pub made_in : (before : StationState C V) (calls : List Call) (after : StationState C V) → Conversation (Allows gives failed says) before calls after → List (MadeCall gives failed says)
  made_in before [] after talked = []
  made_in before (call ∷ calls) after talked = record { before = before; call = call; after = talked.0; allowed = talked.1 } ∷ made_in talked.0 calls after talked.2

  -- the calls of a session as they were made, each at the post to which the one before it had gone on, the oldest first
  abbrev pub made_on : (before : StationState C V) (calls : List Call) (after : StationState C V) → Conversation (AllowsOn gives failed says) before calls after → List (MadeCall gives failed says)
  made_on before [] after talked = []
  made_on before (call ∷ calls) after talked =
      record { before = record before { post = talked.1.post }; call = call; after = talked.0; allowed = talked.1.allowed } ∷ made_on talked.0 calls after talked.2

-- a session stands in this state where its last turn left that one: with the same client, lease and book, at any post; where it had no turn, it is a new session
abbrev pub StandsFrom : {C V : Type 0} → Option (StationState C V) → StationState C V → Type 0
StandsFrom (Some left) state = state ≡ record left { post = state.post }
StandsFrom None state = state ≡ new_station state.post state.client

-- what happens at a worker
abbrev pub WorkerEvent : {C V : Type 0} → (C → Option ℕ → C → Type 0) → (C → ℕ) → (V → Question → Bool → Type 0) → ℕ → Type 0
WorkerEvent gives failed says waits = SessionTurn gives failed says ⊎ SessionEnd gives failed says waits

module _ {C V : Type 0} {gives : C → Option ℕ → C → Type 0} {failed : C → ℕ} {says : V → Question → Bool → Type 0} {waits : ℕ} where
  -- the calls of the session at a place behind this event, where they were these before it
  abbrev pub calls_behind : ℕ → List Call → WorkerEvent gives failed says waits → List Call
  calls_behind place calls (inl turn) = if nat_eq place turn.place then calls ++ turn.calls else calls
  calls_behind place calls (inr end) = if nat_eq place end.place then [] else calls

  -- the calls of the session at a place: those of its turns, since the session before it ended
  abbrev pub calls_at : ℕ → List (WorkerEvent gives failed says waits) → List Call
  calls_at place [] = []
  calls_at place (event ∷ events) = calls_behind place (calls_at place events) event

  -- the same calls as they were made
  abbrev pub made_at : ℕ → List (WorkerEvent gives failed says waits) → List (MadeCall gives failed says)
  made_at place [] = []
  made_at place (inl turn ∷ events) = if nat_eq place turn.place then made_at place events ++ made_in gives failed says turn.before turn.calls turn.after turn.talked else made_at place events
  made_at place (inr end ∷ events) = if nat_eq place end.place then [] else made_at place events

  -- what the last turn of the session at a place left, if it had one
  abbrev pub left_at : ℕ → List (WorkerEvent gives failed says waits) → Option (StationState C V)
  left_at place [] = None
  left_at place (inl turn ∷ events) = if nat_eq place turn.place then Some turn.after else left_at place events
  left_at place (inr end ∷ events) = if nat_eq place end.place then None else left_at place events

  -- behind these events this one is of the session at its place: a turn began with what the turn before it left; a session that ended stood so, and its calls are those of its turns as they were made, from state to state
  abbrev pub IsOfSession : List (WorkerEvent gives failed says waits) → WorkerEvent gives failed says waits → Type 0
  IsOfSession events (inl turn) = StandsFrom (left_at turn.place events) turn.before
  IsOfSession events (inr end) =
      StandsFrom (left_at end.place events) end.session.after
      × (made_on gives failed says (new_station end.session.before end.session.client) end.session.session.calls end.session.after end.session.session.talked ≡ made_at end.place events)

  -- each of these events is of the session at its place, behind those before it
  abbrev pub AreOfSessions : List (WorkerEvent gives failed says waits) → Type 0
  AreOfSessions [] = Unit {0}
  AreOfSessions (event ∷ events) = AreOfSessions events × IsOfSession events event

  -- behind these events this one led from one post to the other: a turn began with the first and left the other; a session that ended had the calls at its place, and the post stayed
  abbrev pub Leads : List (WorkerEvent gives failed says waits) → PostState C → WorkerEvent gives failed says waits → PostState C → Type 0
  Leads events before (inl turn) after = (turn.before.post ≡ before) × (turn.after.post ≡ after)
  Leads events before (inr end) after = (after ≡ before) × (end.session.session.calls ≡ calls_at end.place events)

  -- these events led from the first post to the last, one after the other
  abbrev pub LeadFrom : PostState C → List (WorkerEvent gives failed says waits) → PostState C → Type 0
  LeadFrom first [] last = last ≡ first
  LeadFrom first (event ∷ events) last = (mid : PostState C) × LeadFrom first events mid × Leads events mid event last

  -- the session that ended with this event, if one did, before others
  abbrev pub with_ended : WorkerEvent gives failed says waits → List (WorkerSession gives failed says waits) → List (WorkerSession gives failed says waits)
  with_ended (inl turn) sessions = sessions
  with_ended (inr end) sessions = end.session ∷ sessions

  -- the sessions that ended
  abbrev pub sessions_of : List (WorkerEvent gives failed says waits) → List (WorkerSession gives failed says waits)
  sessions_of [] = []
  sessions_of (event ∷ events) = with_ended event (sessions_of events)

-- these are all sessions of a worker whose post went from the first to the last: turns led there, one after the other; each was of one of these sessions, and each session is its turns, from state to state
pub record AreAllByTurns {C V : Type 0} {gives : C → Option ℕ → C → Type 0} {failed : C → ℕ} {says : V → Question → Bool → Type 0} {waits : ℕ} (first : PostState C) (sessions : List (WorkerSession gives failed says waits)) (last : PostState C) : Type 0 where
  pub events : List (WorkerEvent gives failed says waits)
  pub lead : LeadFrom first events last
  pub of_sessions : AreOfSessions events
  pub sessions_are : sessions ≡ sessions_of events
  pub none_goes_on : (place : ℕ) → calls_at place events ≡ []
