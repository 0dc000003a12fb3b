-- What one event makes of what is kept, and the reply to it.
use Rattle.std.specs.Prelude.{◌≡◌, ℕ, ◌+◌, ◌-◌, ◌^◌, ◌||◌, ◌<◌, not, nat_lt, ◌==◌, replicate, Bool, if◌then◌else◌, List, [], ◌∷◌, ◌++◌, length, slice_get, slice_set, slice_index_or, Option, Some, None, Result, Ok, Err}
use Rattle.tt_span.specs.Time.{max_time}
use Rattle.tt_span.specs.Interval.{Interval}
use Rattle.tt_source.specs.Fault.{number_of}
use Rattle.tt_source.specs.Table.{TableState, poll_of, take_of, known_of as known_of_table}
use Rattle.tt_source.specs.declared.faults.SourceFault.{SourceFault}
use Rattle.tt_fuse.specs.Depth.{slow_fusion}
use Rattle.tt_stamp.specs.declared.commits.Id.{Id}
use Rattle.tt_stamp.specs.declared.commits.Entry.TheVariants as entries
use Rattle.tt_stamp.specs.declared.faults.StampFault.{StampFault}
use Rattle.tt_stamp.specs.declared.faults.BookFault.{BookFault}
use Rattle.tt_stamp.specs.Fault.{number_of as stamp_number_of, book_number_of}
use Rattle.tt_stamp.specs.Stamp.{stamp_of}
use Rattle.tt_stamp.specs.History.{waiting_of, release_of, with_receipts, first_queue_fault}
use Rattle.tt_daemon.specs.Config.{Configuration}
use Rattle.tt_daemon.specs.Daemon.{new_daemon, spans_of}
use Rattle.tt_world.specs.declared.faults.WorldFault.TheVariants as bad
use Rattle.tt_world.specs.declared.events.Event.{Event}
use Rattle.tt_world.specs.declared.events.Action.{Action}
use Rattle.tt_world.specs.declared.events.Action.TheVariants.{Send, Answer, Forge, Deliver, Fuse, Read, Arrive, Stamp, Queue, Restart, Lease, Release}
use Rattle.tt_world.specs.declared.events.Reply.{Reply}
use Rattle.tt_world.specs.declared.events.Reply.TheVariants as replies
use Rattle.tt_world.specs.declared.faults.WorldFault.{WorldFault}
use Rattle.tt_world.specs.declared.packets.Packet.{Packet}
use Rattle.tt_world.specs.declared.packets.Packet.TheVariants.{Asked, Forged}
use Rattle.tt_publish.specs.declared.readings.FusedSpan.{FusedSpan}
use Rattle.tt_world.specs.declared.machine_actions.MachineAction.{MachineAction}
use Rattle.tt_world.specs.declared.machine_actions.MachineAction.TheVariants as machine_actions
use Rattle.tt_world.specs.declared.machine_actions.WorkerAction.{WorkerAction}
use Rattle.tt_world.specs.declared.machine_actions.WorkerAction.TheVariants as worker_actions
use Rattle.tt_world.specs.declared.workers.Arrival.{Arrival}
use Rattle.tt_world.specs.declared.workers.Task.{Task}
use Rattle.tt_world.specs.declared.workers.Task.TheVariants as tasks
use Rattle.tt_world.specs.declared.workers.Worker.{Worker}
use Rattle.tt_world.specs.Packet.{machine_of_packet, source_of_packet, bytes_of, is_asked, answer_to}
use Rattle.tt_world.specs.Fault.{bad_reply}
use Rattle.tt_world.specs.Reply.{TakesMemory}
use Rattle.tt_world.specs.Publications.{Showing, showing_of, publication_from, reading_at}
use Rattle.tt_world.specs.Bad.{is_unreadable}
use Rattle.tt_world.specs.State.{WorldState}
use Rattle.tt_world.specs.Private.Machine.{MachineState}

-- what is kept after an event, of the run or of one machine, and the reply to it
pub record Turn (S : Type 0) : Type 0 where
  pub state : S
  pub reply : Reply

-- what an event makes, or the reason why it is bad: then nothing changes
abbrev pub Judged : Type 0 → Type 0
Judged S = Result (Turn S) WorldFault

-- a reading that is refused: the machine's clock went back, or passed the greatest time
abbrev pub is_back_on : MachineState → ℕ → Bool
is_back_on machine clock = nat_lt clock machine.clock || nat_lt max_time clock

-- machine m has had its turn at a true time, and these packets were sent
abbrev pub after_turn : WorldState → ℕ → ℕ → Turn MachineState → List Packet → Turn WorldState
after_turn world at m turn put = record {
  state = record world { time = at; packets = world.packets ++ put; machines = slice_set world.machines m turn.state };
  reply = turn.reply;
}

-- the machine had its turn, or it gave the reason why the event is bad
abbrev pub turn_outcome : WorldState → ℕ → ℕ → Judged MachineState → Judged WorldState
turn_outcome world at m (Ok turn) = Ok (after_turn world at m turn [])
turn_outcome world at m (Err fault) = Err fault

-- the table takes the place of the one that is kept, and the clock shows this
abbrev pub with_table : MachineState → ℕ → TableState → MachineState
with_table machine clock table = record machine { daemon = record machine.daemon { table = table }; clock = clock }

-- the machine polls source i, or its table refuses to
abbrev pub after_poll : WorldState → ℕ → ℕ → ℕ → ℕ → MachineState → Result TableState SourceFault → Turn WorldState
after_poll world at m i clock machine (Ok table) =
    after_turn world at m (record { state = with_table machine clock table; reply = replies.Sent (length world.packets) })
    (Asked (record { machine = m; source = i; nonce = table.last; epoch = table.epoch }) ∷ [])
after_poll world at m i clock machine (Err fault) =
    after_turn world at m (record { state = record machine { clock = clock }; reply = replies.Refused (number_of fault) }) []

-- machine m, if it is there, polls source i, if it asks that; a clock that went back is refused
abbrev pub send_on : WorldState → ℕ → ℕ → ℕ → ℕ → Option MachineState → Judged WorldState
send_on world at m i clock None = Err bad.UnknownNumber
send_on world at m i clock (Some machine) =
    if not (nat_lt i machine.daemon.config.sources) then Err bad.UnknownNumber
    else if is_back_on machine clock then Err bad.ClockBack
    else Ok (after_poll world at m i clock machine (poll_of machine.daemon.table i clock))

-- packets were sent at a true time
abbrev pub after_put : WorldState → ℕ → List Packet → Turn WorldState
after_put world at put =
    record { state = record world { time = at; packets = world.packets ++ put }; reply = replies.Put (length world.packets) }

-- an answer is sent, if there is one
abbrev pub answer_on : WorldState → ℕ → List Packet → Judged WorldState
answer_on world at [] = Err bad.NoPacket
answer_on world at (packet ∷ packets) = Ok (after_put world at (packet ∷ packets))

-- bytes that source i made up are sent to machine m, if it is there and asks that source
abbrev pub forge_on : WorldState → ℕ → ℕ → ℕ → List ℕ → Option MachineState → Judged WorldState
forge_on world at m i payload None = Err bad.UnknownNumber
forge_on world at m i payload (Some machine) =
    if not (nat_lt i machine.daemon.config.sources) then Err bad.UnknownNumber
    else Ok (after_put world at (Forged m i payload ∷ []))

-- the machine takes what a packet says, or its table refuses to
abbrev pub take_turn : MachineState → ℕ → Result TableState SourceFault → Turn MachineState
take_turn machine clock (Ok table) = record { state = with_table machine clock table; reply = replies.Taken }
take_turn machine clock (Err fault) = record { state = record machine { clock = clock }; reply = replies.Refused (number_of fault) }

-- a packet reaches its machine, if that is there; a clock that went back is refused
abbrev pub deliver_to : WorldState → ℕ → ℕ → Packet → Option MachineState → Judged WorldState
deliver_to world at clock packet None = Err bad.NoPacket
deliver_to world at clock packet (Some machine) =
    if is_back_on machine clock then Err bad.ClockBack
    else Ok (after_turn world at (machine_of_packet packet) (take_turn machine clock (take_of machine.daemon.table (source_of_packet packet) clock (bytes_of packet))) [])

-- a packet reaches its machine, if it was sent and is no request
abbrev pub deliver_on : WorldState → ℕ → ℕ → Option Packet → Judged WorldState
deliver_on world at clock None = Err bad.NoPacket
deliver_on world at clock (Some packet) =
    if is_asked packet then Err bad.NoPacket
    else deliver_to world at clock packet (slice_get world.machines (machine_of_packet packet))

-- what the machine publishes when it fuses at a clock reading, or its refusal
abbrev pub fusion_on : MachineState → ℕ → Result FusedSpan ℕ
fusion_on machine clock =
    if nat_lt (known_of_table machine.daemon.table) (machine.daemon.config.sources - machine.daemon.config.faulty) then Err 701
    else publication_from clock (slow_fusion (spans_of machine.daemon clock) machine.daemon.config.faulty)

-- the machine publishes, or refuses to
abbrev pub publish_turn : MachineState → ℕ → Result FusedSpan ℕ → Turn MachineState
publish_turn machine clock (Ok publication) = record {
  state = record machine { clock = clock; publications = machine.publications ++ publication ∷ [] };
  reply = replies.Published (length machine.publications + 1) publication.span;
}
publish_turn machine clock (Err number) = record { state = record machine { clock = clock }; reply = replies.Refused number }

-- publications are shown besides
abbrev pub with_shown : Turn WorldState → List Showing → Turn WorldState
with_shown turn showings = record turn { state = record turn.state { shown = turn.state.shown ++ showings } }

-- machine m, if it is there, fuses and publishes, and that is shown; a clock that went back is refused
abbrev pub fuse_on : WorldState → ℕ → ℕ → ℕ → Option MachineState → Judged WorldState
fuse_on world at m clock None = Err bad.UnknownNumber
fuse_on world at m clock (Some machine) =
    if is_back_on machine clock then Err bad.ClockBack
    else Ok (with_shown (after_turn world at m (publish_turn machine clock (fusion_on machine clock)) [])
    (showing_of (record { machine = m; number = machine.life }) (length machine.publications + 1) (spans_of machine.daemon clock) machine.daemon.config.faulty (fusion_on machine clock)))

-- no worker has done anything
abbrev pub new_worker : Worker
new_worker = record { seen = 0; task = None; reading = None; since = None }

-- worker w of a machine
abbrev pub worker_at : MachineState → ℕ → Worker
worker_at machine w = slice_index_or machine.workers w new_worker

-- the machine with another worker w
abbrev pub with_worker : MachineState → ℕ → Worker → MachineState
with_worker machine w worker = record machine { workers = slice_set machine.workers w worker }

-- publication k, if worker w can read from it
abbrev pub readable_on : MachineState → ℕ → ℕ → Option FusedSpan
readable_on machine w k =
    if is_unreadable (length machine.publications) (worker_at machine w).seen k then None
    else slice_get machine.publications (k - 1)

-- the worker reads from a publication
abbrev pub read_turn : MachineState → ℕ → ℕ → ℕ → FusedSpan → Turn MachineState
read_turn machine w clock k publication =
    let reading = reading_at machine.daemon.config.drift publication clock in
    record {
      state = record (with_worker machine w (record (worker_at machine w) { seen = k; reading = Some reading; since = Some reading })) { clock = clock };
      reply = replies.Read reading;
    }

-- the worker reads from publication k, if that is there
abbrev pub read_from : MachineState → ℕ → ℕ → ℕ → Option FusedSpan → Judged MachineState
read_from machine w clock k None = Err bad.NoPublication
read_from machine w clock k (Some publication) = Ok (read_turn machine w clock k publication)

-- the worker is asked for a commit; an older task is given up
abbrev pub arrive_turn : MachineState → ℕ → Arrival → Turn MachineState
arrive_turn machine w arrival = record {
  state = with_worker machine w (record (worker_at machine w) { task = Some (tasks.Arrived arrival); since = None });
  reply = replies.Arrived;
}

-- machine m as it begins a life, with a lease, when its clock shows this
abbrev pub machine_in : Configuration → ℕ → ℕ → Interval → ℕ → MachineState
machine_in config m life lease clock = record {
  daemon = new_daemon m config life;
  life = life;
  lease = lease;
  clock = clock;
  publications = [];
  row = None;
  book = [];
  workers = replicate config.workers new_worker;
}

-- the machine restarts, as machine m
abbrev pub restart_turn : ℕ → MachineState → ℕ → Turn MachineState
restart_turn m machine clock = record { state = machine_in machine.daemon.config m (machine.life + 1) machine.lease clock; reply = replies.Restarted (machine.life + 1) }

-- the machine is granted a lease
abbrev pub lease_turn : MachineState → Interval → Turn MachineState
lease_turn machine lease = record { state = record machine { lease = lease }; reply = replies.Leased }

-- stamps of which this is the greatest, if there is one
abbrev pub given_in : Option ℕ → List ℕ
given_in None = []
given_in (Some greatest) = greatest ∷ []

-- the worker stamps its task, or is refused to
abbrev pub stamp_turn : MachineState → ℕ → Id → Result ℕ StampFault → Turn MachineState
stamp_turn machine w id (Ok stamp) = record {
  state = record (with_worker machine w (record (worker_at machine w) { task = Some (tasks.Stamped id stamp) })) { row = Some stamp };
  reply = replies.Stamped stamp;
}
stamp_turn machine w id (Err fault) = record { state = machine; reply = replies.Refused (stamp_number_of fault) }

-- the worker stamps its task by a reading, if it has a task without a stamp, and such a reading
abbrev pub stamp_with : MachineState → ℕ → Option Task → Option Interval → Judged MachineState
stamp_with machine w (Some (tasks.Arrived arrival)) (Some reading) =
    Ok (stamp_turn machine w arrival.id (stamp_of (given_in machine.row) reading.hi arrival.floor machine.lease))
stamp_with machine w task reading = Err bad.NothingThere

-- the worker queues its task, or is refused to
abbrev pub queue_turn : MachineState → ℕ → Id → ℕ → Option BookFault → Turn MachineState
queue_turn machine w id stamp None = record {
  state = record (with_worker machine w (record (worker_at machine w) { task = None })) { book = entries.Queued id stamp ∷ machine.book };
  reply = replies.Queued;
}
queue_turn machine w id stamp (Some fault) = record { state = machine; reply = replies.Refused (book_number_of fault) }

-- the worker queues its task, if that has a stamp
abbrev pub queue_with : MachineState → ℕ → Option Task → Judged MachineState
queue_with machine w (Some (tasks.Stamped id stamp)) = Ok (queue_turn machine w id stamp (first_queue_fault machine.book id stamp))
queue_with machine w task = Err bad.NothingThere

-- the worker releases with a reading
abbrev pub release_turn : MachineState → Interval → Turn MachineState
release_turn machine reading = record {
  state = record machine { book = with_receipts (release_of (waiting_of machine.book) reading.lo) machine.book };
  reply = replies.Released (release_of (waiting_of machine.book) reading.lo);
}

-- the machine releases with a reading, if there is one
abbrev pub release_with : MachineState → Option Interval → Judged MachineState
release_with machine None = Err bad.NothingThere
release_with machine (Some reading) = Ok (release_turn machine reading)

-- what worker w of a machine makes of its work, or why that is bad
abbrev pub worker_outcome : MachineState → ℕ → WorkerAction → Judged MachineState
worker_outcome machine w (worker_actions.Read clock k) = if is_back_on machine clock then Err bad.ClockBack else read_from machine w clock k (readable_on machine w k)
worker_outcome machine w (worker_actions.Arrive arrival) = Ok (arrive_turn machine w arrival)
worker_outcome machine w worker_actions.Stamp = stamp_with machine w (worker_at machine w).task (worker_at machine w).since
worker_outcome machine w worker_actions.Queue = queue_with machine w (worker_at machine w).task
worker_outcome machine w worker_actions.Release = release_with machine (worker_at machine w).reading

-- what a machine makes of a deed, as machine m, or why that is bad
abbrev pub machine_outcome : ℕ → MachineState → MachineAction → Judged MachineState
machine_outcome m machine (machine_actions.Restart clock) =
    if nat_lt max_time clock then Err bad.ClockBack
    else if machine.life == 2 ^ 64 - 1 then Err bad.LivesUsedUp
    else Ok (restart_turn m machine clock)
machine_outcome m machine (machine_actions.Lease lease) = Ok (lease_turn machine lease)
machine_outcome m machine (machine_actions.Work w work) = if nat_lt w (length machine.workers) then worker_outcome machine w work else Err bad.UnknownNumber

-- machine m, if it is there, does a deed
abbrev pub on_machine : WorldState → ℕ → ℕ → MachineAction → Option MachineState → Judged WorldState
on_machine world at m machine_action None = Err bad.UnknownNumber
on_machine world at m machine_action (Some machine) = turn_outcome world at m (machine_outcome m machine machine_action)

-- what an action makes at a true time
abbrev pub action_outcome : WorldState → ℕ → Action → Judged WorldState
action_outcome world at (Send m i clock) = send_on world at m i clock (slice_get world.machines m)
action_outcome world at (Answer packet span) = answer_on world at (answer_to (slice_get world.packets packet) span)
action_outcome world at (Forge m i payload) = forge_on world at m i payload (slice_get world.machines m)
action_outcome world at (Deliver packet clock) = deliver_on world at clock (slice_get world.packets packet)
action_outcome world at (Fuse m clock) = fuse_on world at m clock (slice_get world.machines m)
action_outcome world at (Read m w clock k) = on_machine world at m (machine_actions.Work w (worker_actions.Read clock k)) (slice_get world.machines m)
action_outcome world at (Arrive m w id floor) = on_machine world at m (machine_actions.Work w (worker_actions.Arrive (record { id = id; floor = floor }))) (slice_get world.machines m)
action_outcome world at (Stamp m w) = on_machine world at m (machine_actions.Work w worker_actions.Stamp) (slice_get world.machines m)
action_outcome world at (Queue m w) = on_machine world at m (machine_actions.Work w worker_actions.Queue) (slice_get world.machines m)
action_outcome world at (Restart m clock) = on_machine world at m (machine_actions.Restart clock) (slice_get world.machines m)
action_outcome world at (Lease m lease) = on_machine world at m (machine_actions.Lease lease) (slice_get world.machines m)
action_outcome world at (Release m w) = on_machine world at m (machine_actions.Work w worker_actions.Release) (slice_get world.machines m)

-- what an event makes
abbrev pub event_outcome : WorldState → Event → Judged WorldState
event_outcome world event =
    if nat_lt event.at world.time || nat_lt max_time event.at then Err bad.TimeBack
    else action_outcome world event.at event.action

-- where the action polls, fewer packets were sent than a nonce can count
abbrev pub HasRoom : WorldState → Action → Type 0
HasRoom world (Send m i clock) = length world.packets < 2 ^ 64 - 1
HasRoom world _ = Unit {0}

-- where memory may be refused for an action that makes this reply: where the action takes memory for it, and at each poll, of which no run of this length has used up the nonces
abbrev pub WantsMemory : Action → Reply → Type 0
WantsMemory (Send m i clock) reply = Unit {0}
WantsMemory _ reply = TakesMemory reply

-- the answer to an event that is bad for a reason; an allocation that failed is no reply
abbrev pub refusal_reply : WorldFault → Result Reply WorldFault
refusal_reply bad.Memory = Err bad.Memory
refusal_reply fault = Ok (bad_reply fault)

-- the event is bad for this reason, or memory was refused where it is wanted
abbrev pub IsRefusal : {S : Type 0} → (Reply → Type 0) → WorldFault → Judged S → Type 0
IsRefusal wants bad.Memory (Ok turn) = wants turn.reply
IsRefusal wants bad.Memory (Err fault) = ⊥
IsRefusal wants fault judged = judged ≡ Err fault

-- a call that answered this, and left this, did what was judged, or changed nothing and gave the reason
abbrev pub Does : {S : Type 0} → (Reply → Type 0) → Judged S → S → Result Reply WorldFault → S → Type 0
Does wants judged old (Ok reply) new = judged ≡ Ok (record { state = new; reply = reply })
Does wants judged old (Err fault) new = (new ≡ old) × IsRefusal wants fault judged
