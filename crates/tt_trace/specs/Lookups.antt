-- What is looked up in the events before one.
use Rattle.std.specs.Prelude.{ℕ, ◌==◌, ◌&&◌, Bool, true, false, if◌then◌else◌, List, fold, Option, Some, None}
use Rattle.tt_stamp.specs.declared.commits.Id.{Id}
use Rattle.tt_stamp.specs.declared.commits.Receipt.{Receipt}
use Rattle.tt_stamp.specs.Ids.{same_id}
use Rattle.tt_world.specs.declared.events.Event.{Event}
use Rattle.tt_world.specs.declared.events.Action.{Action}
use Rattle.tt_world.specs.declared.events.Action.TheVariants as does
use Rattle.tt_world.specs.declared.events.Reply.{Reply}
use Rattle.tt_world.specs.declared.events.Reply.TheVariants as replies
use Rattle.tt_trace.specs.declared.lookups.Errand.{Errand}
use Rattle.tt_trace.specs.declared.lookups.Task.{Task}
use Rattle.tt_trace.specs.declared.lookups.Times.{Times}

-- what is known of a packet once an event was replied to: that it is a request, and which machine's, or made up, and for which machine
abbrev pub errand_by : ℕ → Option Errand → Action → Reply → Option Errand
errand_by packet found (does.Send machine source clock) (replies.Sent number) =
    if number == packet then Some (record { machine = machine; is_forged = false }) else found
errand_by packet found (does.Forge machine source payload) (replies.Put number) =
    if number == packet then Some (record { machine = machine; is_forged = true }) else found
errand_by packet found _ _ = found

-- the same of an event with its reply
abbrev pub errand_after : ℕ → Option Errand → (Event × Reply) → Option Errand
errand_after packet found p = errand_by packet found p.0.action p.1

-- what is known of a packet after these events, the oldest first, with their replies
abbrev pub errand_of : ℕ → List (Event × Reply) → Option Errand
errand_of packet before = fold (errand_after packet) None before

-- the worker to which this machine gave this stamp, if it did, once an event was replied to; a later life of the machine may give it anew
abbrev pub holder_by : ℕ → ℕ → Option ℕ → Action → Reply → Option ℕ
holder_by machine stamp found (does.Stamp asked worker) (replies.Stamped given) = if asked == machine && given == stamp then Some worker else found
holder_by machine stamp found _ _ = found

-- the same of an event with its reply
abbrev pub holder_after : ℕ → ℕ → Option ℕ → (Event × Reply) → Option ℕ
holder_after machine stamp found p = holder_by machine stamp found p.0.action p.1

-- the worker to which this machine last gave this stamp in these events, the oldest first, with their replies
abbrev pub holder_of : ℕ → ℕ → List (Event × Reply) → Option ℕ
holder_of machine stamp before = fold (holder_after machine stamp) None before

-- of a commit that nobody was asked for yet
abbrev pub no_task : Task
no_task = record { asked = None; times = None }

-- when a commit arrived at a true time, if it has this id
abbrev pub asked_at : Bool → ℕ → Option ℕ
asked_at same at = if same then Some at else None

-- what is known of a commit once its worker has queued what it was last asked for, if that is this commit
abbrev pub queued_by : Option ℕ → Task → ℕ → Task
queued_by None task at = task
queued_by (Some arrived) task at = record { asked = None; times = Some (record { arrived = arrived; queued = at }) }

-- what is known of a commit of a worker once an event at a true time was replied to: a worker queues what it was last asked for
abbrev pub task_by : ℕ → ℕ → Id → Task → ℕ → Action → Reply → Task
task_by machine worker id task at (does.Arrive asked other number floor) replies.Arrived =
    if asked == machine && other == worker then record task { asked = asked_at (same_id number id) at } else task
task_by machine worker id task at (does.Queue asked other) replies.Queued = if asked == machine && other == worker then queued_by task.asked task at else task
task_by machine worker id task at _ _ = task

-- the same of an event with its reply
abbrev pub task_after : ℕ → ℕ → Id → Task → (Event × Reply) → Task
task_after machine worker id task p = task_by machine worker id task p.0.at p.0.action p.1

-- what is known of a commit of a worker after these events, the oldest first, with their replies
abbrev pub task_of : ℕ → ℕ → Id → List (Event × Reply) → Task
task_of machine worker id before = fold (task_after machine worker id) no_task before

-- the times of a commit of this worker, if the worker is known
abbrev pub times_at : ℕ → Option ℕ → Id → List (Event × Reply) → Option Times
times_at machine None id before = None
times_at machine (Some worker) id before = (task_of machine worker id before).times

-- when a commit with a receipt of this machine arrived and was queued: the worker that got its stamp queued it last, and was last asked for it before that
abbrev pub times_of : ℕ → Receipt → List (Event × Reply) → Option Times
times_of machine receipt before = times_at machine (holder_of machine receipt.stamp before) receipt.id before
