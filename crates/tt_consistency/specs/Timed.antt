-- A session of a station, before each call of which its post may have gone on, with the true times of its calls, in nanoseconds.
use Rattle.std.specs.Prelude.{◌≡◌, ℕ, ◌≤◌, List, [], ◌∷◌, Bool, Option, Result, Err, IfOk, slice_index_or}
use Rattle.tt_span.specs.Interval.{Interval, Holds}
use Rattle.tt_publish.specs.Fault.{read_number_of}
use Rattle.tt_publish.specs.declared.faults.ReadFault.TheVariants.{Nothing}
use Rattle.tt_session.specs.Conversation.{Conversation}
use Rattle.tt_session.specs.declared.calls.Call.{Call}
use Rattle.tt_session.specs.declared.calls.Call.TheVariants.{Now, Begin, Lease, Pass}
use Rattle.tt_connections.specs.Sessions.{WorkerSession}
use Rattle.tt_connections.specs.Station.{PostState, StationState, new_station, Allows}
use Rattle.tt_connections.specs.Turns.{AllowsOn}
use Rattle.tt_connections.specs.declared.presence.Question.{Question}

-- the true times of a call: when it came, when its reading was taken, and when it was answered
pub record CallTimes : Type 0 where
  pub came : ℕ
  pub read : ℕ
  pub answered : ℕ

-- the true times of the call at a place
abbrev pub times_at : List CallTimes → ℕ → CallTimes
times_at times place = slice_index_or times place (record { came = 0; read = 0; answered = 0 })

-- from this time on no time is below one before it: a call takes its reading after it came and before it is answered, and the next one comes then
abbrev pub AreInOrder : ℕ → List CallTimes → Type 0
AreInOrder from [] = Unit {0}
AreInOrder from (times ∷ later) = (from ≤ times.came) × (times.came ≤ times.read) × (times.read ≤ times.answered) × AreInOrder times.answered later

-- the reading that an allowed call was given, or the number of why it was given none; a lease is given none, as where nothing was published
abbrev pub given_of : {C V : Type 0} (gives : C → Option ℕ → C → Type 0) (failed : C → ℕ) (says : V → Question → Bool → Type 0) (before : StationState C V) (call : Call) (after : StationState C V) → Allows gives failed says before call after → Result Interval ℕ
given_of gives failed says before (Now answer) after allowed = allowed.given
given_of gives failed says before (Begin number floor answer) after allowed = allowed.given
given_of gives failed says before (Lease lo hi answer) after allowed = Err (read_number_of Nothing)
given_of gives failed says before (Pass number answer) after allowed = allowed.given

-- each reading that the calls of a conversation were given holds the true time at which it was taken; each call has its times
abbrev pub ReadingsHold : {C V : Type 0} (gives : C → Option ℕ → C → Type 0) (failed : C → ℕ) (says : V → Question → Bool → Type 0) (before : StationState C V) (calls : List Call) (after : StationState C V) → Conversation (AllowsOn gives failed says) before calls after → List CallTimes → Type 0
ReadingsHold gives failed says before [] after talked times = times ≡ []
ReadingsHold gives failed says before (call ∷ calls) after talked [] = ⊥
ReadingsHold gives failed says before (call ∷ calls) after talked (times ∷ later) =
    IfOk (given_of gives failed says (record before { post = talked.1.post }) call talked.0 talked.1.allowed) (λ reading. Holds reading times.read)
    × ReadingsHold gives failed says talked.0 calls after talked.2 later

-- a session that a post served: its client, the post at its beginning, its calls as its station promises them, before each of which the post may have gone on, and their true times
pub record TimedSession {C V : Type 0} (gives : C → Option ℕ → C → Type 0) (failed : C → ℕ) (says : V → Question → Bool → Type 0) : Type 0 where
  pub client : V
  pub post : PostState C
  pub after : StationState C V
  pub calls : List Call
  pub talked : Conversation (AllowsOn gives failed says) (new_station post client) calls after
  pub times : List CallTimes

-- a session of a worker, whose calls have these true times
abbrev pub timed_of : {C V : Type 0} {gives : C → Option ℕ → C → Type 0} {failed : C → ℕ} {says : V → Question → Bool → Type 0} {waits : ℕ} → WorkerSession gives failed says waits → List CallTimes → TimedSession gives failed says
timed_of session times = record { client = session.client; post = session.before; after = session.after; calls = session.session.calls; talked = session.session.talked; times = times }

-- what is assumed of a session: its true times do not fall, and each of its readings holds the true time at which it was taken
pub record IsTimed {C V : Type 0} (gives : C → Option ℕ → C → Type 0) (failed : C → ℕ) (says : V → Question → Bool → Type 0) (session : TimedSession gives failed says) : Type 0 where
  pub in_order : AreInOrder 0 session.times
  pub hold : ReadingsHold gives failed says (new_station session.post session.client) session.calls session.after session.talked session.times
