-- What the workers of each machine were asked to commit, and what became of it, searched back. Each list has the newest event first, and only events that were not bad.
use Rattle.std.specs.Prelude.{ℕ, ◌==◌, ◌&&◌, ◌||◌, not, Bool, false, if◌then◌else◌, List, [], ◌∷◌, is_some, Option, Some, None, Result, Ok}
use Rattle.std.specs.Option.{option_or}
use Rattle.tt_span.specs.Interval.{Interval}
use Rattle.tt_stamp.specs.declared.commits.Receipt.{Receipt}
use Rattle.tt_stamp.specs.declared.commits.Entry.{Entry}
use Rattle.tt_stamp.specs.declared.commits.Entry.TheVariants.{Queued}
use Rattle.tt_stamp.specs.declared.faults.StampFault.{StampFault}
use Rattle.tt_stamp.specs.declared.faults.BookFault.{BookFault}
use Rattle.tt_stamp.specs.Stamp.{stamp_of}
use Rattle.tt_stamp.specs.History.{waiting_of, release_of, with_receipts, first_queue_fault}
use Rattle.tt_world.specs.Lease.{lease_of}
use Rattle.tt_world.specs.Life.{Life, is_of}
use Rattle.tt_world.specs.declared.events.Event.{Event}
use Rattle.tt_world.specs.declared.events.Action.{Action}
use Rattle.tt_world.specs.declared.events.Action.TheVariants.{Read, Arrive, Stamp, Queue, Release}
use Rattle.tt_world.specs.declared.workers.Arrival.{Arrival}
use Rattle.tt_world.specs.declared.workers.Task.{Task}
use Rattle.tt_world.specs.declared.workers.Task.TheVariants.{Arrived, Stamped}
use Rattle.tt_daemon.specs.Config.{Configuration}
use Rattle.tt_world.specs.Publications.{publications_of, publication_at, reading_at}

-- the commit that an event asks worker w of this life for, if it does
abbrev pub arrived_by : List Event → Life → ℕ → Action → Option Arrival
arrived_by past life w (Arrive machine worker id floor) = if is_of past life machine && worker == w then Some (record { id = id; floor = floor }) else None
arrived_by past life w _ = None

-- the last commit that worker w of this life was asked for
abbrev pub arrival_of : List Event → Life → ℕ → Option Arrival
arrival_of [] life w = None
arrival_of (event ∷ past) life w = option_or (arrived_by past life w event.action) (arrival_of past life w)

-- the reading that worker w of this life takes in an event after this past, if it does
abbrev pub read_by : Configuration → List Event → Life → ℕ → Action → Option Interval
read_by config past life w (Read machine worker clock publication) =
    if is_of past life machine && worker == w then Some (reading_at config.drift (publication_at (publications_of config past life) publication) clock) else None
read_by config past life w _ = None

-- the last reading of worker w of this life
abbrev pub reading_of : Configuration → List Event → Life → ℕ → Option Interval
reading_of config [] life w = None
reading_of config (event ∷ past) life w = option_or (read_by config past life w event.action) (reading_of config past life w)

-- the last reading of worker w of this life, if it is later than the last commit that the worker was asked for
abbrev pub reading_since : Configuration → List Event → Life → ℕ → Option Interval
reading_since config [] life w = None
reading_since config (event ∷ past) life w =
    if is_some (arrived_by past life w event.action) then None
    else option_or (read_by config past life w event.action) (reading_since config past life w)

-- the stamp of a commit by a reading within this lease after these stamps were given, or its refusal, if there is a commit and a reading
abbrev pub stamping_after : List ℕ → Interval → Option Arrival → Option Interval → Option (Result ℕ StampFault)
stamping_after given lease (Some arrival) (Some reading) = Some (stamp_of given reading.hi arrival.floor lease)
stamping_after given lease asked reading = None

-- the stamp that was given, if one was
abbrev pub stamp_given : Option (Result ℕ StampFault) → Option ℕ
stamp_given (Some (Ok stamp)) = Some stamp
stamp_given _ = None

-- the worker of this life whose commit an event stamps, if it does
abbrev pub stamping_worker : List Event → Life → Action → Option ℕ
stamping_worker past life (Stamp machine worker) = if is_of past life machine then Some worker else None
stamping_worker past life _ = None

-- the stamps with the one that was given, if one was
abbrev pub with_stamp : List ℕ → Option ℕ → List ℕ
with_stamp given None = given
with_stamp given (Some stamp) = stamp ∷ given

-- the stamps of this life once this worker's commit was stamped after them
abbrev pub stamps_after : Configuration → List Event → Life → List ℕ → Option ℕ → List ℕ
stamps_after config past life given None = given
stamps_after config past life given (Some w) =
    with_stamp given (stamp_given (stamping_after given (lease_of past life.machine) (arrival_of past life w) (reading_since config past life w)))

-- all stamps that this life has given, the newest first
abbrev pub stamps_of : Configuration → List Event → Life → List ℕ
stamps_of config [] life = []
stamps_of config (event ∷ past) life = stamps_after config past life (stamps_of config past life) (stamping_worker past life event.action)

-- what the stamping of the last commit of worker w of this life gives: the stamp by the last reading since the worker was asked for it, or the refusal
abbrev pub stamping_of : Configuration → List Event → Life → ℕ → Option (Result ℕ StampFault)
stamping_of config past life w = stamping_after (stamps_of config past life) (lease_of past life.machine) (arrival_of past life w) (reading_since config past life w)

-- whether an event stamps for worker w of this life
abbrev pub stamps_for : List Event → Life → ℕ → Action → Bool
stamps_for past life w (Stamp machine worker) = is_of past life machine && worker == w
stamps_for past life w _ = false

-- the stamp that was given to the last commit that worker w of this life was asked for, if one was
abbrev pub stamp_held : Configuration → List Event → Life → ℕ → Option ℕ
stamp_held config [] life w = None
stamp_held config (event ∷ past) life w =
    if is_some (arrived_by past life w event.action) then None
    else if stamps_for past life w event.action then option_or (stamp_given (stamping_of config past life w)) (stamp_held config past life w)
    else stamp_held config past life w

-- the book's history once a commit with a stamp was queued, if there is one and nothing refuses it
abbrev pub with_queued : List Entry → Option Arrival → Option ℕ → List Entry
with_queued book (Some arrival) (Some stamp) =
    if is_some (first_queue_fault book arrival.id stamp) then book else Queued arrival.id stamp ∷ book
with_queued book asked stamp = book

-- the receipts of a release with a reading, least stamp first, if there is a reading
abbrev pub released_with : List Entry → Option Interval → List Receipt
released_with book None = []
released_with book (Some reading) = release_of (waiting_of book) reading.lo

-- the history of this life's book after an event that comes after this past and this history
abbrev pub book_after : Configuration → List Event → Life → List Entry → Action → List Entry
book_after config past life book (Queue machine worker) =
    if is_of past life machine then with_queued book (arrival_of past life worker) (stamp_held config past life worker) else book
book_after config past life book (Release machine worker) =
    if is_of past life machine then with_receipts (released_with book (reading_of config past life worker)) book else book
book_after config past life book _ = book

-- the history of this life's book, the newest entry first
abbrev pub book_of : Configuration → List Event → Life → List Entry
book_of config [] life = []
book_of config (event ∷ past) life = book_after config past life (book_of config past life) event.action

-- why a commit with a stamp is not queued after this history, if there is such a commit
abbrev pub queue_fault : List Entry → Option Arrival → Option ℕ → Option BookFault
queue_fault book (Some arrival) (Some stamp) = first_queue_fault book arrival.id stamp
queue_fault book asked stamp = None

-- why the last commit of worker w of this life is not queued, if something refuses it
abbrev pub queueing_of : Configuration → List Event → Life → ℕ → Option BookFault
queueing_of config past life w = queue_fault (book_of config past life) (arrival_of past life w) (stamp_held config past life w)

-- whether an event queues for worker w of this life
abbrev pub queues_for : List Event → Life → ℕ → Action → Bool
queues_for past life w (Queue machine worker) = is_of past life machine && worker == w
queues_for past life w _ = false

-- whether the last commit that worker w of this life was asked for was queued
abbrev pub is_queued : Configuration → List Event → Life → ℕ → Bool
is_queued config [] life w = false
is_queued config (event ∷ past) life w =
    if is_some (arrived_by past life w event.action) then false
    else if queues_for past life w event.action then (not (is_some (queueing_of config past life w)) || is_queued config past life w)
    else is_queued config past life w

-- a task by the commit that was asked for, and its stamp
abbrev pub task_with : Option Arrival → Option ℕ → Option Task
task_with None stamp = None
task_with (Some arrival) None = Some (Arrived arrival)
task_with (Some arrival) (Some stamp) = Some (Stamped arrival.id stamp)

-- the task of worker w of this life: the last commit that the worker was asked for, with its stamp if it has one; none once that was queued
abbrev pub task_of : Configuration → List Event → Life → ℕ → Option Task
task_of config past life w = if is_queued config past life w then None else task_with (arrival_of past life w) (stamp_held config past life w)
