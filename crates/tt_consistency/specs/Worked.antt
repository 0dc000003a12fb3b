-- The workers of a node that runs on a machine, and the book that they share, in true time.
use Rattle.std.specs.Prelude.{◌≡◌, ℕ, zero, suc, ◌≤◌, List, [], ◌∷◌, map, Bool, true, false, Option, Some, None, Result, Ok, Err, IfSome, All, Contains}
use mathlib.Core.List.{IsPrefix}
use Rattle.tt_span.specs.Interval.{Interval}
use Rattle.tt_judge.specs.declared.history.Commit.{Commit}
use Rattle.tt_publish.specs.Known.{WatchState}
use Rattle.tt_publish.specs.Reading.{fused_span_of}
use Rattle.tt_publish.specs.declared.faults.ReadFault.{ReadFault}
use Rattle.tt_stamp.specs.declared.commits.Entry.TheVariants.{Passed}
use Rattle.tt_stamp.specs.declared.commits.Receipt.{Receipt}
use Rattle.tt_session.specs.Conversation.{Conversation}
use Rattle.tt_session.specs.declared.calls.Call.{Call}
use Rattle.tt_session.specs.declared.calls.Call.TheVariants.{Now, Begin, Lease, Pass}
use Rattle.tt_node.specs.Working.{WorkerState, DoesWhere, Reads, Commits, Releases, Allows, after_asking}
use Rattle.tt_consistency.specs.Timed.{CallTimes, AreInOrder, times_at}
use Rattle.tt_consistency.specs.Order.{IsSeen}
use Rattle.tt_consistency.specs.Reads.{IsReadAt}
use Rattle.tt_consistency.specs.Running.{Machine, IsRunning, clock_moments, published_by}

-- one look of a worker at what its machine published: its watch after it, its clock before and after it, and what it gave
pub record Look (C : Type 0) : Type 0 where
  pub watch : WatchState
  pub before : C
  pub after : C
  pub answer : Result Interval ReadFault

-- the look of a call whose gate says this: where the gate is closed there is none
abbrev pub look_of_now : {C G : Type 0} (gives : C → Option ℕ → C → Type 0) (failed : C → ℕ) (before : WorkerState C G) (reading : Interval) (after : WorkerState C G) (passes : Bool) → DoesWhere passes (Reads gives failed) before (Ok reading) after → Option (Look C)
look_of_now gives failed before reading after true does = Some (record { watch = after.watch; before = does.1.read.clock; after = does.1.read.later; answer = Ok reading })
look_of_now gives failed before reading after false does = None

abbrev pub look_of_begin : {C G : Type 0} (gives : C → Option ℕ → C → Type 0) (failed : C → ℕ) (number floor : ℕ) (before : WorkerState C G) (answer : Result ℕ ℕ) (after : WorkerState C G) (passes : Bool) → DoesWhere passes (Commits gives failed number floor) before answer after → Option (Look C)
look_of_begin gives failed number floor before answer after true does = Some (record { watch = after.watch; before = before.clock; after = after.clock; answer = does.1.begins.0 })
look_of_begin gives failed number floor before answer after false does = None

abbrev pub look_of_pass : {C G : Type 0} (gives : C → Option ℕ → C → Type 0) (failed : C → ℕ) (number : ℕ) (before : WorkerState C G) (answer : Result Bool ℕ) (after : WorkerState C G) (passes : Bool) → DoesWhere passes (Releases gives failed number) before answer after → Option (Look C)
look_of_pass gives failed number before answer after true does = Some (record { watch = after.watch; before = before.clock; after = after.clock; answer = does.1.passes.0 })
look_of_pass gives failed number before answer after false does = None

-- the look of an allowed call of a worker; that of a `now` that gave no reading is left out
abbrev pub look_of : {C G : Type 0} (gives : C → Option ℕ → C → Type 0) (failed : C → ℕ) (says : G → ℕ → ℕ → Bool → G → Type 0) (hears : G → ℕ → ℕ → G → Type 0) (before : WorkerState C G) (call : Call) (after : WorkerState C G) → Allows gives failed says hears before call after → Option (Look C)
look_of gives failed says hears before (Now (Ok reading)) after allowed = look_of_now gives failed (after_asking before allowed.asked) reading allowed.done allowed.passes allowed.does
look_of gives failed says hears before (Now (Err number)) after allowed = None
look_of gives failed says hears before (Begin number floor answer) after allowed = look_of_begin gives failed number floor (after_asking before allowed.asked) answer allowed.done allowed.passes allowed.does
look_of gives failed says hears before (Lease lo hi answer) after allowed = None
look_of gives failed says hears before (Pass number answer) after allowed = look_of_pass gives failed number (after_asking before allowed.asked) answer allowed.done allowed.passes allowed.does

-- the session of a worker: its calls as it promises them, from one state to another, and their true times
pub record TimedWorker {C G : Type 0} (gives : C → Option ℕ → C → Type 0) (failed : C → ℕ) (says : G → ℕ → ℕ → Bool → G → Type 0) (hears : G → ℕ → ℕ → G → Type 0) : Type 0 where
  pub before : WorkerState C G
  pub after : WorkerState C G
  pub calls : List Call
  pub talked : Conversation (Allows gives failed says hears) before calls after
  pub times : List CallTimes

-- the look of the call at a place
abbrev pub look_in : {C G : Type 0} (gives : C → Option ℕ → C → Type 0) (failed : C → ℕ) (says : G → ℕ → ℕ → Bool → G → Type 0) (hears : G → ℕ → ℕ → G → Type 0) (before : WorkerState C G) (calls : List Call) (after : WorkerState C G) → Conversation (Allows gives failed says hears) before calls after → ℕ → Option (Look C)
look_in gives failed says hears before [] after talked place = None
look_in gives failed says hears before (call ∷ calls) after talked zero = look_of gives failed says hears before call talked.0 talked.1
look_in gives failed says hears before (call ∷ calls) after talked (suc place) = look_in gives failed says hears talked.0 calls after talked.2 place

abbrev pub look_at : {C G : Type 0} (gives : C → Option ℕ → C → Type 0) (failed : C → ℕ) (says : G → ℕ → ℕ → Bool → G → Type 0) (hears : G → ℕ → ℕ → G → Type 0) → TimedWorker gives failed says hears → ℕ → Option (Look C)
look_at gives failed says hears worker place = look_in gives failed says hears worker.before worker.calls worker.after worker.talked place

-- a look on a machine at a true time: the watch has then seen the first ones of its publications, and if it gave a reading, this was taken at that time by the machine's clock, which keeps the bound that the watch reckons with at that moment too
abbrev pub LooksOn : {C : Type 0} → (C → Option ℕ → C → Type 0) → Machine → Look C → ℕ → Type 0
LooksOn gives machine look time = IsPrefix (map fused_span_of look.watch.items) (published_by machine) × IsReadAt gives look.watch.drift (clock_moments machine) look.watch look.before look.after look.answer time

-- each call of a conversation looked on a machine at the time at which it took its reading; each call has its times
abbrev pub AllLookOn : {C G : Type 0} (gives : C → Option ℕ → C → Type 0) (failed : C → ℕ) (says : G → ℕ → ℕ → Bool → G → Type 0) (hears : G → ℕ → ℕ → G → Type 0) (machine : Machine) (before : WorkerState C G) (calls : List Call) (after : WorkerState C G) → Conversation (Allows gives failed says hears) before calls after → List CallTimes → Type 0
AllLookOn gives failed says hears machine before [] after talked times = times ≡ []
AllLookOn gives failed says hears machine before (call ∷ calls) after talked [] = ⊥
AllLookOn gives failed says hears machine before (call ∷ calls) after talked (times ∷ later) =
    IfSome (look_of gives failed says hears before call talked.0 talked.1) (λ look. LooksOn gives machine look times.read)
    × AllLookOn gives failed says hears machine talked.0 calls after talked.2 later

-- a call of one of these workers took a reading with this earliest, no later than at this true time
pub record WasRead {C G : Type 0} (gives : C → Option ℕ → C → Type 0) (failed : C → ℕ) (says : G → ℕ → ℕ → Bool → G → Type 0) (hears : G → ℕ → ℕ → G → Type 0) (workers : List (TimedWorker gives failed says hears)) (earliest time : ℕ) : Type 0 where
  pub worker : TimedWorker gives failed says hears
  pub among : Contains workers worker
  pub place : ℕ
  pub look : Look C
  pub reading : Interval
  pub looked : look_at gives failed says hears worker place ≡ Some look
  pub gave : look.answer ≡ Ok reading
  pub earliest_is : reading.lo ≡ earliest
  pub by_then : (times_at worker.times place).read ≤ time

-- what a conversation has seen of its book was done by these workers: by the end of each call, each receipt that was seen is of a reading that one of them took
abbrev pub BookIsOf : {C G : Type 0} (gives : C → Option ℕ → C → Type 0) (failed : C → ℕ) (says : G → ℕ → ℕ → Bool → G → Type 0) (hears : G → ℕ → ℕ → G → Type 0) (workers : List (TimedWorker gives failed says hears)) (before : WorkerState C G) (calls : List Call) (after : WorkerState C G) → Conversation (Allows gives failed says hears) before calls after → List CallTimes → Type 0
BookIsOf gives failed says hears workers before [] after talked times = times ≡ []
BookIsOf gives failed says hears workers before (call ∷ calls) after talked [] = ⊥
BookIsOf gives failed says hears workers before (call ∷ calls) after talked (times ∷ later) =
    ((receipt : Receipt) → Contains talked.0.book (Passed receipt) → WasRead gives failed says hears workers receipt.earliest times.answered)
    × BookIsOf gives failed says hears workers talked.0 calls after talked.2 later

-- a node: the machine that its daemon runs, and its workers
pub record Node {C G : Type 0} (gives : C → Option ℕ → C → Type 0) (failed : C → ℕ) (says : G → ℕ → ℕ → Bool → G → Type 0) (hears : G → ℕ → ℕ → G → Type 0) : Type 0 where
  pub machine : Machine
  pub workers : List (TimedWorker gives failed says hears)

-- a worker serves on a node: its true times do not fall, each of its calls looked at what the machine published, and the book that it has seen is that of the node's workers
pub record ServesOn {C G : Type 0} (gives : C → Option ℕ → C → Type 0) (failed : C → ℕ) (says : G → ℕ → ℕ → Bool → G → Type 0) (hears : G → ℕ → ℕ → G → Type 0) (node : Node gives failed says hears) (worker : TimedWorker gives failed says hears) : Type 0 where
  pub in_order : AreInOrder 0 worker.times
  pub look : AllLookOn gives failed says hears node.machine worker.before worker.calls worker.after worker.talked worker.times
  pub book : BookIsOf gives failed says hears node.workers worker.before worker.calls worker.after worker.talked worker.times

-- a node works: its machine runs under the assumptions, and each of its workers serves on it
pub record IsWorking {C G : Type 0} (gives : C → Option ℕ → C → Type 0) (failed : C → ℕ) (says : G → ℕ → ℕ → Bool → G → Type 0) (hears : G → ℕ → ℕ → G → Type 0) (node : Node gives failed says hears) : Type 0 where
  pub running : IsRunning node.machine
  pub serve : All (ServesOn gives failed says hears node) node.workers

-- the commit was seen at a worker of one of these nodes
pub record IsSeenAtWorkerOf {C G : Type 0} (gives : C → Option ℕ → C → Type 0) (failed : C → ℕ) (says : G → ℕ → ℕ → Bool → G → Type 0) (hears : G → ℕ → ℕ → G → Type 0) (nodes : List (Node gives failed says hears)) (commit : Commit) : Type 0 where
  pub node : Node gives failed says hears
  pub among : Contains nodes node
  pub worker : TimedWorker gives failed says hears
  pub of_node : Contains node.workers worker
  pub seen : IsSeen worker.calls worker.times commit
