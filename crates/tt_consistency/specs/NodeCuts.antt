-- Cuts of nodes: what the daemon and the workers of a node had done by some moment. Nothing is asked of what came after. Each list of calls of a daemon and of what happened has the newest first.
use Rattle.std.specs.Prelude.{◌≡◌, ℕ, ◌<◌, ◌≤◌, List, [], ◌∷◌, ◌++◌, length, map, Bool, Option, IfSome, All, Contains}
use Rattle.std.specs.List.{AllByRecursion}
use mathlib.Core.List.{IsPrefix}
use Rattle.tt_span.specs.Drift.{Moment}
use Rattle.tt_judge.specs.declared.history.Commit.{Commit}
use Rattle.tt_publish.specs.Reading.{fused_span_of}
use Rattle.tt_session.specs.Conversation.{Conversation}
use Rattle.tt_session.specs.declared.calls.Call.{Call}
use Rattle.tt_node.specs.Working.{WorkerState, Allows}
use Rattle.tt_consistency.specs.Calls.{RoundsCall, AreInTurn}
use Rattle.tt_consistency.specs.Order.{IsSeen}
use Rattle.tt_consistency.specs.Reads.{IsReadAt}
use Rattle.tt_consistency.specs.Running.{Machine, IsRunning, begun_with, clock_moments, published_by}
use Rattle.tt_consistency.specs.Timed.{AreInOrder, CallTimes}
use Rattle.tt_consistency.specs.Timeline.{Timed}
use Rattle.tt_consistency.specs.Worked.{BookIsOf, Node, TimedWorker, look_at, look_of}

-- ---- a whole node

-- what is proved of a whole node, whatever is assumed: the first call of its daemon began with a new daemon, and each other one with what the call before it left; and each of its workers has seen nothing but the first ones of its publications
pub record IsNode {C G : Type 0} {gives : C → Option ℕ → C → Type 0} {failed : C → ℕ} {says : G → ℕ → ℕ → Bool → G → Type 0} {hears : G → ℕ → ℕ → G → Type 0} (node : Node gives failed says hears) : Type 0 where
  pub in_turn : AreInTurn (begun_with node.machine) node.machine.calls
  pub seen : All (λ (worker : TimedWorker gives failed says hears). IsPrefix (map fused_span_of worker.after.watch.items) (published_by node.machine)) node.workers

-- ---- what a node had done

-- a cut of a whole node: the calls that its daemon had made by then, what had happened in them in true time, and its workers with the calls that they had made
pub record NodeCut {C G : Type 0} (gives : C → Option ℕ → C → Type 0) (failed : C → ℕ) (says : G → ℕ → ℕ → Bool → G → Type 0) (hears : G → ℕ → ℕ → G → Type 0) : Type 0 where
  pub node : Node gives failed says hears
  pub calls : List RoundsCall
  pub timeline : List Timed
  pub workers : List (TimedWorker gives failed says hears)

module _ {C G : Type 0} {gives : C → Option ℕ → C → Type 0} {failed : C → ℕ} {says : G → ℕ → ℕ → Bool → G → Type 0} {hears : G → ℕ → ℕ → G → Type 0} where
  -- the machine, as if its daemon had made these calls alone
  abbrev pub machine_in : NodeCut gives failed says hears → Machine
  machine_in cut = record cut.node.machine { calls = cut.calls; timeline = cut.timeline }

  -- the node that a cut is, as the laws of nodes see it
  abbrev pub node_in : NodeCut gives failed says hears → Node gives failed says hears
  node_in cut = record { machine = machine_in cut; workers = cut.workers }

  -- a whole node, as a cut
  abbrev pub whole_node : Node gives failed says hears → NodeCut gives failed says hears
  whole_node node = record { node = node; calls = node.machine.calls; timeline = node.machine.timeline; workers = node.workers }

-- the worker made the first calls of a whole one, from the same beginning: by the later ones it went on to the same end. Its true times are its own
pub record WorkedAs {C G : Type 0} {gives : C → Option ℕ → C → Type 0} {failed : C → ℕ} {says : G → ℕ → ℕ → Bool → G → Type 0} {hears : G → ℕ → ℕ → G → Type 0} (worker whole : TimedWorker gives failed says hears) : Type 0 where
  pub before : worker.before ≡ whole.before
  pub later : List Call
  pub calls_are : whole.calls ≡ worker.calls ++ later
  pub goes_on : Conversation (Allows gives failed says hears) worker.after later whole.after

-- each reading that the calls of a conversation took was taken at the time of its call, by the clock that has these moments and keeps the bound that the watch reckons with at that moment too; each call has its times
abbrev pub AllReadBy : {C G : Type 0} (gives : C → Option ℕ → C → Type 0) (failed : C → ℕ) (says : G → ℕ → ℕ → Bool → G → Type 0) (hears : G → ℕ → ℕ → G → Type 0) (moments : List Moment) (before : WorkerState C G) (calls : List Call) (after : WorkerState C G) → Conversation (Allows gives failed says hears) before calls after → List CallTimes → Type 0
AllReadBy gives failed says hears moments before [] after talked times = times ≡ []
AllReadBy gives failed says hears moments before (call ∷ calls) after talked [] = ⊥
AllReadBy gives failed says hears moments before (call ∷ calls) after talked (times ∷ later) =
    IfSome (look_of gives failed says hears before call talked.0 talked.1) (λ look. IsReadAt gives look.watch.drift moments look.watch look.before look.after look.answer times.read)
    × AllReadBy gives failed says hears moments talked.0 calls after talked.2 later

-- a worker in a cut: the beginning of one of the whole node, which had seen no more publications than the daemon had made by then; its true times do not fall, its readings were taken at them, and each receipt that it had seen is of a reading in the cut
pub record IsInNode {C G : Type 0} {gives : C → Option ℕ → C → Type 0} {failed : C → ℕ} {says : G → ℕ → ℕ → Bool → G → Type 0} {hears : G → ℕ → ℕ → G → Type 0} (cut : NodeCut gives failed says hears) (worker : TimedWorker gives failed says hears) : Type 0 where
  pub whole : TimedWorker gives failed says hears
  pub of_node : Contains cut.node.workers whole
  pub begins : WorkedAs worker whole
  pub seen : length worker.after.watch.items ≤ length (published_by (machine_in cut))
  pub in_order : AreInOrder 0 worker.times
  pub read : AllReadBy gives failed says hears (clock_moments (machine_in cut)) worker.before worker.calls worker.after worker.talked worker.times
  pub book : BookIsOf gives failed says hears cut.workers worker.before worker.calls worker.after worker.talked worker.times

-- the calls are the first ones of the daemon of a whole node, of which all holds that is proved; the machine ran so far under the assumptions, and the workers are those in the cut
pub record IsNodeCut {C G : Type 0} {gives : C → Option ℕ → C → Type 0} {failed : C → ℕ} {says : G → ℕ → ℕ → Bool → G → Type 0} {hears : G → ℕ → ℕ → G → Type 0} (cut : NodeCut gives failed says hears) : Type 0 where
  pub proved : IsNode cut.node
  pub later : List RoundsCall
  pub calls_are : cut.node.machine.calls ≡ later ++ cut.calls
  pub running : IsRunning (machine_in cut)
  pub workers : All (IsInNode cut) cut.workers

-- ---- moments at rest

-- calls with these times are at rest at a true time: the first ones were answered by then, and the later ones took their readings after it
pub record IsAtRest (time : ℕ) (all times later : List CallTimes) : Type 0 where
  pub all_are : all ≡ times ++ later
  pub answered : AllByRecursion (λ (call : CallTimes). call.answered ≤ time) times
  pub unread : AllByRecursion (λ (call : CallTimes). time < call.read) later

-- no call of a worker is between its reading and its answer at a true time
abbrev pub RestsAt : {C G : Type 0} {gives : C → Option ℕ → C → Type 0} {failed : C → ℕ} {says : G → ℕ → ℕ → Bool → G → Type 0} {hears : G → ℕ → ℕ → G → Type 0} → ℕ → TimedWorker gives failed says hears → Type 0
RestsAt time worker = (times : List CallTimes) × (later : List CallTimes) × IsAtRest time worker.times times later

-- the worker is a whole one up to a true time at which that was at rest: it made the calls that were answered by then, at the same times, and looked as that did
pub record WorkedUntil {C G : Type 0} {gives : C → Option ℕ → C → Type 0} {failed : C → ℕ} {says : G → ℕ → ℕ → Bool → G → Type 0} {hears : G → ℕ → ℕ → G → Type 0} (time : ℕ) (worker whole : TimedWorker gives failed says hears) : Type 0 where
  pub begins : WorkedAs worker whole
  pub later : List CallTimes
  pub rests : IsAtRest time whole.times worker.times later
  pub looks : (place : ℕ) → place < length worker.times → look_at gives failed says hears worker place ≡ look_at gives failed says hears whole place

-- the workers are these whole ones up to a true time, each of them
abbrev pub AllWorkedUntil : {C G : Type 0} {gives : C → Option ℕ → C → Type 0} {failed : C → ℕ} {says : G → ℕ → ℕ → Bool → G → Type 0} {hears : G → ℕ → ℕ → G → Type 0} → ℕ → List (TimedWorker gives failed says hears) → List (TimedWorker gives failed says hears) → Type 0
AllWorkedUntil time [] [] = Unit {0}
AllWorkedUntil time [] (whole ∷ wholes) = ⊥
AllWorkedUntil time (worker ∷ workers) [] = ⊥
AllWorkedUntil time (worker ∷ workers) (whole ∷ wholes) = WorkedUntil time worker whole × AllWorkedUntil time workers wholes

-- a cut of a node at a true time: these first calls of its daemon, what had happened in them, and each of its workers up to then
pub record IsCutAt {C G : Type 0} {gives : C → Option ℕ → C → Type 0} {failed : C → ℕ} {says : G → ℕ → ℕ → Bool → G → Type 0} {hears : G → ℕ → ℕ → G → Type 0} (node : Node gives failed says hears) (calls : List RoundsCall) (time : ℕ) (cut : NodeCut gives failed says hears) : Type 0 where
  pub node_is : cut.node ≡ node
  pub calls_are : cut.calls ≡ calls
  pub after : List Timed
  pub timeline_is : node.machine.timeline ≡ after ++ cut.timeline
  pub workers : AllWorkedUntil time cut.workers node.workers

-- no worker of a cut had seen more publications than the daemon had made by then
abbrev pub HaveSeenNoMore : {C G : Type 0} {gives : C → Option ℕ → C → Type 0} {failed : C → ℕ} {says : G → ℕ → ℕ → Bool → G → Type 0} {hears : G → ℕ → ℕ → G → Type 0} → NodeCut gives failed says hears → Type 0
HaveSeenNoMore {gives = gives} {failed = failed} {says = says} {hears = hears} cut = All (λ (worker : TimedWorker gives failed says hears). length worker.after.watch.items ≤ length (published_by (machine_in cut))) cut.workers

-- ---- cuts of nodes together

-- the commit was seen at a worker in one of these cuts
pub record IsSeenInNodeCut {C G : Type 0} {gives : C → Option ℕ → C → Type 0} {failed : C → ℕ} {says : G → ℕ → ℕ → Bool → G → Type 0} {hears : G → ℕ → ℕ → G → Type 0} (cuts : List (NodeCut gives failed says hears)) (commit : Commit) : Type 0 where
  pub cut : NodeCut gives failed says hears
  pub among : Contains cuts cut
  pub worker : TimedWorker gives failed says hears
  pub of_cut : Contains cut.workers worker
  pub seen : IsSeen worker.calls worker.times commit
