-- Cuts of lives: what a machine had done by some moment of its life. Nothing is asked of what came after. Each list of calls of a daemon and of what happened has the newest first.
use Rattle.std.specs.Prelude.{◌≡◌, ◌⊎◌, ℕ, ◌+◌, ◌<◌, ◌≤◌, ◌^◌, List, [], ◌∷◌, ◌++◌, length, map, Bool, Option, Ok, Contains}
use Rattle.std.specs.List.{AllByRecursion}
use Rattle.tt_span.specs.Drift.{KeepsDrift}
use Rattle.tt_span.specs.Interval.{Interval}
use Rattle.tt_span.specs.Time.{max_time}
use Rattle.tt_judge.specs.declared.history.Commit.{Commit}
use Rattle.tt_publish.specs.Reading.{fused_span_of}
use Rattle.tt_publish.specs.declared.readings.FusedSpan.{FusedSpan}
use Rattle.tt_session.specs.Conversation.{Conversation}
use Rattle.tt_session.specs.declared.calls.Call.{Call}
use Rattle.tt_session.specs.declared.calls.Call.TheVariants.{Now}
use Rattle.tt_connections.specs.Sessions.{WorkerSession}
use Rattle.tt_connections.specs.Station.{new_station}
use Rattle.tt_connections.specs.Turns.{AllowsOn}
use Rattle.tt_connections.specs.declared.presence.Question.{Question}
use Rattle.tt_world.specs.Meeting.{HasUnmet}
use Rattle.tt_consistency.specs.Assumed.{AllReadAt, IsAssumed, TimedLife, machine_of, moments_in}
use Rattle.tt_consistency.specs.Calls.{RoundsCall, calls_steps, kept_after}
use Rattle.tt_consistency.specs.Faulty.{FewFaulty}
use Rattle.tt_consistency.specs.Lives.{IsLife, Life, WorkerLife, begun_in}
use Rattle.tt_consistency.specs.Order.{IsSeen}
use Rattle.tt_consistency.specs.Rising.{BeginFrom, IsInTime, TimesRise}
use Rattle.tt_consistency.specs.Running.{Machine, Start}
use Rattle.tt_consistency.specs.Stampers.{IsSeenAtOneOf, Stamper}
use Rattle.tt_consistency.specs.Timed.{AreInOrder, CallTimes, TimedSession}
use Rattle.tt_consistency.specs.Timeline.{AreOfTime, Timed, steps_told}

-- ---- what a machine had done

-- a cut of a life: how the life began, the calls that its daemon had made by then, and what had happened in them in true time
pub record Cut {C V : Type 0} (gives : C → Option ℕ → C → Type 0) (failed : C → ℕ) (says : V → Question → Bool → Type 0) (waits : ℕ) : Type 0 where
  pub life : Life gives failed says waits
  pub calls : List RoundsCall
  pub start : Start
  pub timeline : List Timed

module _ {C V : Type 0} {gives : C → Option ℕ → C → Type 0} {failed : C → ℕ} {says : V → Question → Bool → Type 0} {waits : ℕ} where
  -- the life, as if its daemon had made these calls alone
  abbrev pub life_by : Cut gives failed says waits → Life gives failed says waits
  life_by cut = record cut.life { calls = cut.calls }

  -- the machine that a cut is, as the laws of running machines see it
  abbrev pub machine_by : Cut gives failed says waits → Machine
  machine_by cut = machine_of (life_by cut) cut.start cut.timeline

  -- what the daemon had published by then, the oldest first
  abbrev pub published_in : Cut gives failed says waits → List FusedSpan
  published_in cut = (kept_after (begun_in cut.life) cut.calls).published

  -- a whole life in true time, as a cut
  abbrev pub whole_of : TimedLife gives failed says waits → Cut gives failed says waits
  whole_of lived = record { life = lived.life; calls = lived.life.calls; start = lived.start; timeline = lived.timeline }

-- the calls are the first ones of the daemon of a life of which all holds that is proved; of what happened in them all holds that is assumed of a life
pub record IsCut {C V : Type 0} {gives : C → Option ℕ → C → Type 0} {failed : C → ℕ} {says : V → Question → Bool → Type 0} {waits : ℕ} (cut : Cut gives failed says waits) : Type 0 where
  pub proved : IsLife cut.life
  pub later : List RoundsCall
  pub calls_are : cut.life.calls ≡ later ++ cut.calls
  pub assumed : IsAssumed (life_by cut) cut.start cut.timeline

-- ---- its sessions

-- the session made the first calls of a whole one, from the same beginning: by the later ones it went on to the same end
pub record BeginsAs {C V : Type 0} {gives : C → Option ℕ → C → Type 0} {failed : C → ℕ} {says : V → Question → Bool → Type 0} {waits : ℕ} (session : TimedSession gives failed says) (whole : WorkerSession gives failed says waits) : Type 0 where
  pub client : session.client ≡ whole.client
  pub post : session.post ≡ whole.before
  pub later : List Call
  pub calls_are : whole.session.calls ≡ session.calls ++ later
  pub goes_on : Conversation (AllowsOn gives failed says) session.after later whole.after

-- the session is the beginning of one that a worker of this life served
pub record IsBegunIn {C V : Type 0} {gives : C → Option ℕ → C → Type 0} {failed : C → ℕ} {says : V → Question → Bool → Type 0} {waits : ℕ} (life : Life gives failed says waits) (session : TimedSession gives failed says) : Type 0 where
  pub worker : WorkerLife gives failed says waits
  pub of_life : Contains life.workers worker
  pub whole : WorkerSession gives failed says waits
  pub of_worker : Contains worker.sessions whole
  pub begins : BeginsAs session whole

-- each reading that a session was given was taken at the time of its call, by the clock of this life, of which this happened; it keeps the drift bound of the configuration at that moment too
abbrev pub IsReadIn : {C V : Type 0} {gives : C → Option ℕ → C → Type 0} {failed : C → ℕ} {says : V → Question → Bool → Type 0} {waits : ℕ} → Life gives failed says waits → Start → List Timed → TimedSession gives failed says → Type 0
IsReadIn {gives = gives} {failed = failed} {says = says} life start timeline session =
    AllReadAt gives failed says life.config.drift (moments_in start timeline) (new_station session.post session.client) session.calls session.after session.talked session.times

-- a session in a cut: the beginning of one of the life, whose worker had seen no more publications than the daemon had made by then; its true times do not fall, and its readings were taken at them
pub record IsIn {C V : Type 0} {gives : C → Option ℕ → C → Type 0} {failed : C → ℕ} {says : V → Question → Bool → Type 0} {waits : ℕ} (cut : Cut gives failed says waits) (session : TimedSession gives failed says) : Type 0 where
  pub begun : IsBegunIn cut.life session
  pub seen : length session.after.post.watch.items ≤ length (published_in cut)
  pub in_order : AreInOrder 0 session.times
  pub read : IsReadIn cut.life cut.start cut.timeline session

-- ---- least cuts

-- the first calls of the daemon of a life that published all that a session had seen by its last call: any first calls that did so are no fewer
pub record AreLeast {C V : Type 0} {gives : C → Option ℕ → C → Type 0} {failed : C → ℕ} {says : V → Question → Bool → Type 0} {waits : ℕ} (life : Life gives failed says waits) (session : TimedSession gives failed says) (calls : List RoundsCall) : Type 0 where
  pub later : List RoundsCall
  pub calls_are : life.calls ≡ later ++ calls
  pub enough : length session.after.post.watch.items ≤ length (kept_after (begun_in life) calls).published
  pub least : (more other : List RoundsCall) → life.calls ≡ more ++ other → length session.after.post.watch.items ≤ length (kept_after (begun_in life) other).published → length calls ≤ length other

-- a least cut of a life at some place of a session: the session made these calls alone, at these times, and all that is proved and assumed of a cut holds
pub record IsLeastCut {C V : Type 0} {gives : C → Option ℕ → C → Type 0} {failed : C → ℕ} {says : V → Question → Bool → Type 0} {waits : ℕ} (lived : TimedLife gives failed says waits) (calls : List Call) (times : List CallTimes) (cut : Cut gives failed says waits) (session : TimedSession gives failed says) : Type 0 where
  pub life : cut.life ≡ lived.life
  pub start : cut.start ≡ lived.start
  pub later : List Timed
  pub timeline : lived.timeline ≡ later ++ cut.timeline
  pub calls_are : session.calls ≡ calls
  pub times_are : session.times ≡ times
  pub is_cut : IsCut cut
  pub inside : IsIn cut session
  pub least : AreLeast cut.life session cut.calls

-- ---- breaks

-- what is assumed of a life besides its clock's drift bound and its sources: how it began, and that what happened in it is told in the order of true time
pub record IsToldOf {C V : Type 0} {gives : C → Option ℕ → C → Type 0} {failed : C → ℕ} {says : V → Question → Bool → Type 0} {waits : ℕ} (life : Life gives failed says waits) (start : Start) (timeline : List Timed) : Type 0 where
  pub lives : start.lives + 1 ≡ life.epoch
  pub at : start.at ≤ max_time
  pub clock : start.clock ≤ max_time
  pub told : steps_told timeline ≡ calls_steps life.calls
  pub of_time : AreOfTime timeline
  pub times : TimesRise start.at timeline
  pub begins : BeginFrom start.clock (steps_told timeline)
  pub readings : AllByRecursion IsInTime (steps_told timeline)
  pub nonces : length timeline < 2 ^ 64

-- an assumption broke in a cut: the clock left its drift bound by then, or at one fusion by then more sources were faulty than the configuration allows
abbrev pub HasBroken : {C V : Type 0} {gives : C → Option ℕ → C → Type 0} {failed : C → ℕ} {says : V → Question → Bool → Type 0} {waits : ℕ} → Cut gives failed says waits → Type 0
HasBroken cut =
    (¬ KeepsDrift cut.life.config.drift (moments_in cut.start cut.timeline)) ⊎ (¬ FewFaulty cut.life.config (record { machine = cut.life.number; number = cut.life.epoch }) cut.timeline)

-- a life broke in its last call, the one behind a cut: two of its publications do not meet, so no true times meet what is assumed of a whole life; yet all holds that is proved and assumed of the cut, of a session that was given a reading in it, and of one in which a commit was seen
pub record BreaksBehind {C V : Type 0} {gives : C → Option ℕ → C → Type 0} {failed : C → ℕ} {says : V → Question → Bool → Type 0} {waits : ℕ} (cut : Cut gives failed says waits) (reader : TimedSession gives failed says) (reading : Interval) (committer : TimedSession gives failed says) (commit : Commit) : Type 0 where
  pub last : RoundsCall
  pub behind : cut.life.calls ≡ last ∷ cut.calls
  pub unmet : HasUnmet cut.life.config.drift (map fused_span_of cut.life.published)
  pub refuted : (start : Start) (timeline : List Timed) → IsAssumed cut.life start timeline → ⊥
  pub is_cut : IsCut cut
  pub reader_in : IsIn cut reader
  pub given : reader.calls ≡ Now (Ok reading) ∷ []
  pub committer_in : IsIn cut committer
  pub seen : IsSeen committer.calls committer.times commit

-- ---- cuts together

-- the commit was seen in one of these cuts
pub record IsSeenInCut {C V : Type 0} {gives : C → Option ℕ → C → Type 0} {failed : C → ℕ} {says : V → Question → Bool → Type 0} {waits : ℕ} (cuts : List (Cut gives failed says waits)) (commit : Commit) : Type 0 where
  pub cut : Cut gives failed says waits
  pub among : Contains cuts cut
  pub session : TimedSession gives failed says
  pub inside : IsIn cut session
  pub seen : IsSeen session.calls session.times commit

-- the commit was seen in one of these cuts, or at one of these stampers
abbrev pub IsSeenBeside : {C V : Type 0} {gives : C → Option ℕ → C → Type 0} {failed : C → ℕ} {says : V → Question → Bool → Type 0} {waits : ℕ} → List (Cut gives failed says waits) → List Stamper → Commit → Type 0
IsSeenBeside cuts stampers commit = IsSeenInCut cuts commit ⊎ IsSeenAtOneOf stampers commit
