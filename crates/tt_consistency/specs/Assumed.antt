-- What no program can prove of a life of a machine: the true times at which things happened, how far its clock and its sources were right, and when its readings were taken. Each list of what happened has the newest first.
use Rattle.std.specs.Prelude.{◌≡◌, ℕ, ◌+◌, ◌<◌, ◌≤◌, ◌^◌, List, [], ◌∷◌, ◌++◌, length, Bool, Option, Contains}
use Rattle.std.specs.List.{AllByRecursion}
use Rattle.tt_span.specs.Drift.{Moment, KeepsDrift}
use Rattle.tt_span.specs.Time.{max_time}
use Rattle.tt_judge.specs.declared.history.Commit.{Commit}
use Rattle.tt_session.specs.Conversation.{Conversation}
use Rattle.tt_session.specs.declared.calls.Call.{Call}
use Rattle.tt_connections.specs.Station.{StationState, new_station}
use Rattle.tt_connections.specs.Sessions.{WorkerSession}
use Rattle.tt_connections.specs.Turns.{AllowsOn}
use Rattle.tt_connections.specs.declared.presence.Question.{Question}
use Rattle.tt_consistency.specs.Order.{IsSeen}
use Rattle.tt_consistency.specs.Timed.{CallTimes, AreInOrder, given_of, timed_of}
use Rattle.tt_consistency.specs.Calls.{calls_steps}
use Rattle.tt_consistency.specs.Faulty.{FewFaulty}
use Rattle.tt_consistency.specs.Reads.{IsReadAt}
use Rattle.tt_consistency.specs.Rising.{BeginFrom, IsInTime, TimesRise}
use Rattle.tt_consistency.specs.Timeline.{AreOfTime, Timed, moments_told, steps_told}
use Rattle.tt_consistency.specs.Lives.{Life, WorkerLife, IsLife}
use Rattle.tt_consistency.specs.Running.{Machine, Start}

-- ---- a life in true time

-- the moments at which the daemon of a life read its clock: those of what happened, and the one at which the life began
abbrev pub moments_in : Start → List Timed → List Moment
moments_in start timeline = moments_told timeline ++ record { clock = start.clock; time = start.at } ∷ []

-- what is assumed of a life that began so, and in which this happened in true time
pub record IsAssumed {C V : Type 0} {gives : C → Option ℕ → C → Type 0} {failed : C → ℕ} {says : V → Question → Bool → Type 0} {waits : ℕ} (life : Life gives failed says waits) (start : Start) (timeline : List Timed) : Type 0 where
  -- the lives before it are those of the epochs before its own
  pub lives : start.lives + 1 ≡ life.epoch
  -- the true time and the clock reading at its beginning are in time
  pub at : start.at ≤ max_time
  pub clock : start.clock ≤ max_time
  -- what happened is exactly the steps of the daemon's calls, at any true times, among any answers of the sources
  pub told : steps_told timeline ≡ calls_steps life.calls
  -- the spans of these answers are intervals of time
  pub of_time : AreOfTime timeline
  -- true times do not fall
  pub times : TimesRise start.at timeline
  -- the clock reading at the beginning is not above the first one of the daemon
  pub begins : BeginFrom start.clock (steps_told timeline)
  -- the clock readings of the daemon are in time
  pub readings : AllByRecursion IsInTime (steps_told timeline)
  -- fewer than 2^64 things happened
  pub nonces : length timeline < 2 ^ 64
  -- the clock kept the drift bound of the configuration
  pub drift : KeepsDrift life.config.drift (moments_in start timeline)
  -- at each fusion at most as many sources were faulty as the configuration allows
  pub few_faulty : FewFaulty life.config (record { machine = life.number; number = life.epoch }) timeline

-- the machine that a life is, as the laws of running machines see it
abbrev pub machine_of : {C V : Type 0} {gives : C → Option ℕ → C → Type 0} {failed : C → ℕ} {says : V → Question → Bool → Type 0} {waits : ℕ} → Life gives failed says waits → Start → List Timed → Machine
machine_of life start timeline = record { config = life.config; number = life.number; start = start; calls = life.calls; timeline = timeline }

-- ---- a session in true time

-- each reading that the calls of a conversation were given was taken at the time of its call, by the clock that has these moments and keeps this drift bound; each call has its times
abbrev pub AllReadAt : {C V : Type 0} (gives : C → Option ℕ → C → Type 0) (failed : C → ℕ) (says : V → Question → Bool → Type 0) (ppm : ℕ) (moments : List Moment) (before : StationState C V) (calls : List Call) (after : StationState C V) → Conversation (AllowsOn gives failed says) before calls after → List CallTimes → Type 0
AllReadAt gives failed says ppm moments before [] after talked times = times ≡ []
AllReadAt gives failed says ppm moments before (call ∷ calls) after talked [] = ⊥
AllReadAt gives failed says ppm moments before (call ∷ calls) after talked (times ∷ later) =
    IsReadAt gives ppm moments talked.0.post.watch talked.1.post.clock talked.0.post.clock (given_of gives failed says (record before { post = talked.1.post }) call talked.0 talked.1.allowed) times.read
    × AllReadAt gives failed says ppm moments talked.0 calls after talked.2 later

-- what is assumed of a session of a life, whose calls have these true times
pub record IsTimedIn {C V : Type 0} {gives : C → Option ℕ → C → Type 0} {failed : C → ℕ} {says : V → Question → Bool → Type 0} {waits : ℕ} (life : Life gives failed says waits) (start : Start) (timeline : List Timed) (session : WorkerSession gives failed says waits) (times : List CallTimes) : Type 0 where
  -- its true times do not fall
  pub in_order : AreInOrder 0 times
  -- each reading that it was given was taken at the time of its call, by a clock that keeps the drift bound of the configuration at that moment too
  pub read : AllReadAt gives failed says life.config.drift (moments_in start timeline) (new_station session.before session.client) session.session.calls session.after session.session.talked times

-- ---- lives together

-- a life, how it began, and what happened in it in true time
pub record TimedLife {C V : Type 0} (gives : C → Option ℕ → C → Type 0) (failed : C → ℕ) (says : V → Question → Bool → Type 0) (waits : ℕ) : Type 0 where
  pub life : Life gives failed says waits
  pub start : Start
  pub timeline : List Timed

-- all that is proved of a life holds of it, and all that is assumed of it
pub record IsLived {C V : Type 0} {gives : C → Option ℕ → C → Type 0} {failed : C → ℕ} {says : V → Question → Bool → Type 0} {waits : ℕ} (lived : TimedLife gives failed says waits) : Type 0 where
  pub proved : IsLife lived.life
  pub assumed : IsAssumed lived.life lived.start lived.timeline

-- a session was served in a life, and its calls have these true times
pub record IsServedIn {C V : Type 0} {gives : C → Option ℕ → C → Type 0} {failed : C → ℕ} {says : V → Question → Bool → Type 0} {waits : ℕ} (lived : TimedLife gives failed says waits) (session : WorkerSession gives failed says waits) (times : List CallTimes) : Type 0 where
  pub worker : WorkerLife gives failed says waits
  pub of_life : Contains lived.life.workers worker
  pub of_worker : Contains worker.sessions session
  pub timed : IsTimedIn lived.life lived.start lived.timeline session times

-- the commit was seen at some session of one of these lives
pub record IsSeenInOneOf {C V : Type 0} {gives : C → Option ℕ → C → Type 0} {failed : C → ℕ} {says : V → Question → Bool → Type 0} {waits : ℕ} (lives : List (TimedLife gives failed says waits)) (commit : Commit) : Type 0 where
  pub lived : TimedLife gives failed says waits
  pub among : Contains lives lived
  pub session : WorkerSession gives failed says waits
  pub times : List CallTimes
  pub served : IsServedIn lived session times
  pub seen : IsSeen (timed_of session times).calls times commit
