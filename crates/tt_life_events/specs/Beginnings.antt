-- What the workers of a life had done by some moment of it, in true time, and one list of it. Nothing is asked of what came after. Each list has the newest first, but for the calls of a turn and their times, which have the oldest first.
use Rattle.std.specs.Prelude.{◌≡◌, ◌⊎◌, ℕ, suc, ◌<◌, ◌≤◌, ◌^◌, List, [], ◌∷◌, ◌++◌, length, map, Bool, Option}
use mathlib.Core.Logic.{inl}
use Rattle.tt_span.specs.Time.{max_time}
use Rattle.tt_daemon.specs.Config.{Configuration}
use Rattle.tt_publish.specs.declared.readings.FusedSpan.{FusedSpan}
use Rattle.tt_stamp.specs.Stamping.{Continues, entries_of}
use Rattle.tt_stamp.specs.declared.stampings.Stamping.{Stamping}
use Rattle.tt_session.specs.Conversation.{Conversation}
use Rattle.tt_session.specs.declared.calls.Call.{Call}
use Rattle.tt_connections.specs.Station.{PostState, Allows}
use Rattle.tt_connections.specs.declared.presence.Question.{Question}
use Rattle.tt_workers.specs.Happening.{AreAllByTurns, LeadFrom, SessionTurn, WorkerEvent}
use Rattle.tt_world.specs.Config.{config_at}
use Rattle.tt_world.specs.Life.{life_at}
use Rattle.tt_world.specs.declared.events.Event.{Event}
use Rattle.tt_consistency.specs.Assumed.{moments_in}
use Rattle.tt_consistency.specs.Calls.{RoundsCall}
use Rattle.tt_consistency.specs.Cuts.{Cut, IsToldOf, life_by, published_in}
use Rattle.tt_consistency.specs.Lives.{IsLife, Life, WorkerLife}
use Rattle.tt_consistency.specs.Running.{Start}
use Rattle.tt_consistency.specs.Sequencer.{ShareOneSequencer}
use Rattle.tt_consistency.specs.Timeline.{BeginsLife, Timed}
use Rattle.tt_life_events.specs.Acts.{AllReadAs, IsRunOfAll, IsUnworked, LifeDone, entries_in}
use Rattle.tt_life_events.specs.Merging.{AreInOrder, IsMergeOf, IsOneListWith, stamps_in}
use Rattle.tt_life_events.specs.Threads.{AreOfWorkers, ClockRises, daemon_list}
use Rattle.tt_life_events.specs.Turns.{AllTurnsOf, AreTimed, IsListOf, WorkTimes}

-- ---- what a worker had done

-- what a worker had done by some moment: the post that it began with, the one that it had then, what had happened at it, and the true times of its turns
pub record WorkBy {C V : Type 0} (gives : C → Option ℕ → C → Type 0) (failed : C → ℕ) (says : V → Question → Bool → Type 0) (waits : ℕ) : Type 0 where
  pub post : PostState C
  pub last : PostState C
  pub events : List (WorkerEvent gives failed says waits)
  pub times : List (List WorkTimes)

-- the turn made the first calls of a whole one, from the same beginning: by the later ones that went on to its end
pub record TurnBeginsAs {C V : Type 0} {gives : C → Option ℕ → C → Type 0} {failed : C → ℕ} {says : V → Question → Bool → Type 0} (turn whole : SessionTurn gives failed says) : Type 0 where
  pub place : turn.place ≡ whole.place
  pub before : turn.before ≡ whole.before
  pub later : List Call
  pub calls_are : whole.calls ≡ turn.calls ++ later
  pub goes_on : Conversation (Allows gives failed says) turn.after later whole.after

-- the last of these events is a turn that made the first calls of a whole one; the others are all that came before that one
pub record EndInTurnOf {C V : Type 0} {gives : C → Option ℕ → C → Type 0} {failed : C → ℕ} {says : V → Question → Bool → Type 0} {waits : ℕ} (events all : List (WorkerEvent gives failed says waits)) : Type 0 where
  pub turn : SessionTurn gives failed says
  pub whole : SessionTurn gives failed says
  pub begins : TurnBeginsAs turn whole
  pub earlier : List (WorkerEvent gives failed says waits)
  pub later : List (WorkerEvent gives failed says waits)
  pub events_are : events ≡ inl turn ∷ earlier
  pub all_are : all ≡ later ++ inl whole ∷ earlier

-- these events are the first ones of all that happened at a worker: the last of them may be a turn that had not made all of its calls
abbrev pub AreFirstOf : {C V : Type 0} {gives : C → Option ℕ → C → Type 0} {failed : C → ℕ} {says : V → Question → Bool → Type 0} {waits : ℕ} → List (WorkerEvent gives failed says waits) → List (WorkerEvent gives failed says waits) → Type 0
AreFirstOf {gives = gives} {failed = failed} {says = says} {waits = waits} events all =
    ((later : List (WorkerEvent gives failed says waits)) × (all ≡ later ++ events)) ⊎ EndInTurnOf events all

-- this is what a worker of a life had done by some moment: the first ones of all its turns led from the post that it began with to the one that it had then
pub record IsWorkOf {C V : Type 0} {gives : C → Option ℕ → C → Type 0} {failed : C → ℕ} {says : V → Question → Bool → Type 0} {waits : ℕ} (worker : WorkerLife gives failed says waits) (work : WorkBy gives failed says waits) : Type 0 where
  pub post : work.post ≡ worker.post
  pub by_turns : AreAllByTurns worker.post worker.sessions worker.last
  pub first : AreFirstOf work.events by_turns.events
  pub lead : LeadFrom work.post work.events work.last

-- this is what a worker of a life had done when it had made these calls of a turn, behind these events, with true times from the beginning of the life on, where this had happened at the daemon
pub record HasWorkTo {C V : Type 0} {gives : C → Option ℕ → C → Type 0} {failed : C → ℕ} {says : V → Question → Bool → Type 0} {waits : ℕ} (life : Life gives failed says waits) (start : Start) (timeline : List Timed)
    (worker : WorkerLife gives failed says waits) (earlier : List (WorkerEvent gives failed says waits)) (whole : SessionTurn gives failed says) (early : List Call) : Type 0 where
  pub work : WorkBy gives failed says waits
  pub of_worker : IsWorkOf worker work
  pub turn : SessionTurn gives failed says
  pub begins : TurnBeginsAs turn whole
  pub calls_are : turn.calls ≡ early
  pub events_are : work.events ≡ inl turn ∷ earlier
  pub timed : AreTimed gives failed says waits life.config.drift (moments_in start timeline) start.at work.events work.times max_time

-- ---- in a cut

-- this is what the worker of this number had done in a cut, where this was the history of its sequencer by then: it had seen no more publications than the daemon had made by then, the entries under its number are those that its seat had given by then, and what had happened at it has true times, from the beginning of the life on
pub record IsWorkIn {C V : Type 0} {gives : C → Option ℕ → C → Type 0} {failed : C → ℕ} {says : V → Question → Bool → Type 0} {waits : ℕ} (cut : Cut gives failed says waits) (history : List Stamping) (number : ℕ) (worker : WorkerLife gives failed says waits) (work : WorkBy gives failed says waits) : Type 0 where
  pub of_worker : IsWorkOf worker work
  pub seen : length work.last.watch.items ≤ length (published_in cut)
  pub own : entries_of (number ∷ []) history ≡ work.last.seat.own
  pub timed : AreTimed gives failed says waits cut.life.config.drift (moments_in cut.start cut.timeline) cut.start.at work.events work.times max_time

-- so it is of each of these workers, with the numbers from this one on
abbrev pub AreWorksIn : {C V : Type 0} {gives : C → Option ℕ → C → Type 0} {failed : C → ℕ} {says : V → Question → Bool → Type 0} {waits : ℕ} → Cut gives failed says waits → List Stamping → ℕ → List (WorkerLife gives failed says waits) → List (WorkBy gives failed says waits) → Type 0
AreWorksIn cut history number [] [] = Unit {0}
AreWorksIn cut history number [] (work ∷ works) = ⊥
AreWorksIn cut history number (worker ∷ workers) [] = ⊥
AreWorksIn cut history number (worker ∷ workers) (work ∷ works) = IsWorkIn cut history number worker work × AreWorksIn cut history (suc number) workers works

-- all that these workers of a life did
abbrev pub works_of : {C V : Type 0} (gives : C → Option ℕ → C → Type 0) (failed : C → ℕ) (says : V → Question → Bool → Type 0) (waits : ℕ) (life : Life gives failed says waits) (start : Start) (timeline : List Timed) (workers : List (WorkerLife gives failed says waits))
    → AllTurnsOf gives failed says waits life start timeline workers → List (WorkBy gives failed says waits)
works_of gives failed says waits life start timeline [] turns = []
works_of gives failed says waits life start timeline (worker ∷ workers) turns =
    record { post = worker.post; last = worker.last; events = turns.0.by_turns.events; times = turns.0.times } ∷ works_of gives failed says waits life start timeline workers turns.1

-- ---- one list of it

-- these are the lists of what was done, by workers whose clock has this drift and with the numbers from this one on, where this was published
abbrev pub AreListsBy : {C V : Type 0} {gives : C → Option ℕ → C → Type 0} {failed : C → ℕ} {says : V → Question → Bool → Type 0} {waits : ℕ} → ℕ → List FusedSpan → ℕ → List (WorkBy gives failed says waits) → List (List LifeDone) → Type 0
AreListsBy drift published w [] lists = lists ≡ []
AreListsBy drift published w (work ∷ works) [] = ⊥
AreListsBy {gives = gives} {failed = failed} {says = says} {waits = waits} drift published w (work ∷ works) (list ∷ lists) =
    IsListOf w drift published gives failed says waits work.events work.times list × AreListsBy drift published (suc w) works lists

-- of a life of which this had happened by some moment, this was published, and these workers had done this: each has the list of what it did, in the order of its turns; their stamps merge into a log, which is this history of their sequencer; and if true time does not fall along the log, all is one list with what the daemon did, which is a run of the model with the readings of the life if no clock reading falls in it
pub record HasOneListBy {C V : Type 0} {gives : C → Option ℕ → C → Type 0} {failed : C → ℕ} {says : V → Question → Bool → Type 0} {waits : ℕ} (configs : List Configuration) (base : List Event)
    (life : Life gives failed says waits) (start : Start) (timeline : List Timed) (published : List FusedSpan) (works : List (WorkBy gives failed says waits)) (history : List Stamping) : Type 0 where
  pub lists : List (List LifeDone)
  pub log : List LifeDone
  pub are_lists : AreListsBy life.config.drift published 0 works lists
  pub own : AreOfWorkers life.config (moments_in start timeline) published 0 lists
  pub merge : IsMergeOf (map stamps_in lists) log
  pub log_is : entries_in log ≡ history
  pub one_list : AreInOrder max_time log → (all : List LifeDone) × IsOneListWith max_time (daemon_list timeline) lists log all
      × (ClockRises start.clock all → length all < 2 ^ 64 → IsRunOfAll configs life.number life.epoch base all × AllReadAs life.config life.number life.epoch published all)

-- a cut of a life of two workers, by which the first had begun a commit in a turn that goes on, and the second had done nothing; each of them gave a stamp in all: everything that the law of its list assumes holds of it
pub record IsWorkedCut {C V : Type 0} {gives : C → Option ℕ → C → Type 0} {failed : C → ℕ} {says : V → Question → Bool → Type 0} {waits : ℕ} (configs : List Configuration) (base : List Event)
    (cut : Cut gives failed says waits) (later : List RoundsCall) (shared : ShareOneSequencer cut.life.workers) (history : List Stamping) (works : List (WorkBy gives failed says waits)) : Type 0 where
  pub proved : IsLife cut.life
  pub calls_are : cut.life.calls ≡ later ++ cut.calls
  pub assumed : IsToldOf (life_by cut) cut.start cut.timeline
  pub continues : Continues history shared.history
  pub worked : AreWorksIn cut history 0 cut.life.workers works
  pub there : cut.life.number < length configs
  pub configured : config_at configs cut.life.number ≡ cut.life.config
  pub fits : length cut.life.workers ≤ cut.life.config.workers
  pub begins : BeginsLife configs cut.life.number cut.life.epoch cut.start.at cut.start.clock base
  pub unworked : IsUnworked (config_at configs cut.life.number) base (life_at base cut.life.number)
  pub first : WorkBy gives failed says waits
  pub second : WorkBy gives failed says waits
  pub works_are : works ≡ first ∷ second ∷ []
  pub turn : SessionTurn gives failed says
  pub whole : SessionTurn gives failed says
  pub first_did : first.events ≡ inl turn ∷ []
  pub goes_on : TurnBeginsAs turn whole
  pub begun : length turn.calls ≡ 1
  pub in_all : length whole.calls ≡ 2
  pub second_did : second.events ≡ []
  pub stamps : length shared.history ≡ 2
  pub given : length history ≡ 1
  pub published : length (published_in cut) ≡ 1
  pub has : HasOneListBy configs base cut.life cut.start cut.timeline (published_in cut) works history
  pub log_in_order : AreInOrder max_time has.log
  pub rises : ClockRises cut.start.clock (has.one_list log_in_order).0
  pub few : length (has.one_list log_in_order).0 < 2 ^ 64
