-- Which events are bad: these change nothing, and are not in the list of what has happened.
use Rattle.std.specs.Prelude.{ℕ, ◌-◌, ◌^◌, ◌==◌, ◌&&◌, ◌||◌, not, nat_lt, Bool, true, false, if◌then◌else◌, List, [], ◌∷◌, length, slice_get, is_some, Option, Some, None}
use Rattle.tt_span.specs.Time.{max_time}
use Rattle.tt_world.specs.declared.faults.WorldFault.{WorldFault}
use Rattle.tt_world.specs.declared.faults.WorldFault.TheVariants as bad
use Rattle.tt_world.specs.Life.{Life, life_of, life_at}
use Rattle.tt_world.specs.declared.events.Event.{Event}
use Rattle.tt_world.specs.declared.events.Action.{Action}
use Rattle.tt_world.specs.declared.events.Action.TheVariants.{Send, Answer, Forge, Deliver, Fuse, Read, Arrive, Stamp, Queue, Restart, Lease, Release}
use Rattle.tt_world.specs.declared.packets.Packet.{Packet}
use Rattle.tt_daemon.specs.Config.{Configuration}
use Rattle.tt_world.specs.Config.{config_at}
use Rattle.tt_world.specs.Packet.{is_asked}
use Rattle.tt_world.specs.Past.{time_of, packets_of, ClockReading, clock_reading, clock_of}
use Rattle.tt_world.specs.declared.workers.Task.{Task}
use Rattle.tt_world.specs.declared.workers.Task.TheVariants.{Arrived, Stamped}
use Rattle.tt_world.specs.Publications.{publications_of, seen_of}
use Rattle.tt_world.specs.Commits.{reading_of, reading_since, task_of}

-- machine m is there
abbrev pub has_machine : List Configuration → ℕ → Bool
has_machine configs m = nat_lt m (length configs)

-- machine m is there, and asks source i
abbrev pub has_source : List Configuration → ℕ → ℕ → Bool
has_source configs m i = has_machine configs m && nat_lt i (config_at configs m).sources

-- machine m is there, and has worker w
abbrev pub has_worker : List Configuration → ℕ → ℕ → Bool
has_worker configs m w = has_machine configs m && nat_lt w (config_at configs m).workers

-- the event names a machine, a source or a worker that is not there
abbrev pub names_unknown : List Configuration → Action → Bool
names_unknown configs (Send machine source clock) = not (has_source configs machine source)
names_unknown configs (Answer packet span) = false
names_unknown configs (Forge machine source payload) = not (has_source configs machine source)
names_unknown configs (Deliver packet clock) = false
names_unknown configs (Fuse machine clock) = not (has_machine configs machine)
names_unknown configs (Read machine worker clock publication) = not (has_worker configs machine worker)
names_unknown configs (Arrive machine worker id floor) = not (has_worker configs machine worker)
names_unknown configs (Stamp machine worker) = not (has_worker configs machine worker)
names_unknown configs (Queue machine worker) = not (has_worker configs machine worker)
names_unknown configs (Restart machine clock) = not (has_machine configs machine)
names_unknown configs (Lease machine lease) = not (has_machine configs machine)
names_unknown configs (Release machine worker) = not (has_worker configs machine worker)

-- a packet is there and is a request
abbrev pub is_request : Option Packet → Bool
is_request None = false
is_request (Some packet) = is_asked packet

-- a packet is there and is no request
abbrev pub can_be_delivered : Option Packet → Bool
can_be_delivered None = false
can_be_delivered (Some packet) = not (is_asked packet)

-- the event wants a packet that was not put, or one of the other kind
abbrev pub lacks_packet : List Packet → Action → Bool
lacks_packet packets (Answer packet span) = not (is_request (slice_get packets packet))
lacks_packet packets (Deliver packet clock) = not (can_be_delivered (slice_get packets packet))
lacks_packet packets _ = false

-- a reading of a clock that went back, where clocks says what each clock showed last in each life, or one past the greatest time
abbrev pub goes_back : (Life → ℕ) → Option ClockReading → Bool
goes_back clocks None = false
goes_back clocks (Some reading) = nat_lt reading.clock (clocks reading.life) || nat_lt max_time reading.clock

-- publication k of so many can't be read by a worker that has read from publication seen
abbrev pub is_unreadable : ℕ → ℕ → ℕ → Bool
is_unreadable publications seen k = k == 0 || nat_lt publications k || nat_lt k seen

-- the event reads from a publication that is not there, or older than one that its worker has read from
abbrev pub lacks_publication : List Configuration → List Event → Action → Bool
lacks_publication configs past (Read machine worker clock publication) =
    is_unreadable (length (publications_of (config_at configs machine) past (life_at past machine))) (seen_of past (life_at past machine) worker) publication
lacks_publication configs past _ = false

-- a task is there and has no stamp yet
abbrev pub is_arrived : Option Task → Bool
is_arrived (Some (Arrived arrival)) = true
is_arrived _ = false

-- a task is there and has its stamp
abbrev pub is_stamped : Option Task → Bool
is_stamped (Some (Stamped id stamp)) = true
is_stamped _ = false

-- the event wants a task or a reading of its worker that is not there: to stamp, a task without a stamp and a reading since the worker was asked for it; to queue, a task with a stamp; to release, any reading
abbrev pub lacks_its_thing : List Configuration → List Event → Action → Bool
lacks_its_thing configs past (Stamp machine worker) =
    not (is_arrived (task_of (config_at configs machine) past (life_at past machine) worker))
    || not (is_some (reading_since (config_at configs machine) past (life_at past machine) worker))
lacks_its_thing configs past (Queue machine worker) = not (is_stamped (task_of (config_at configs machine) past (life_at past machine) worker))
lacks_its_thing configs past (Release machine worker) = not (is_some (reading_of (config_at configs machine) past (life_at past machine) worker))
lacks_its_thing configs past _ = false

-- the event restarts a machine whose life has the greatest number
abbrev pub uses_up_lives : List Event → Action → Bool
uses_up_lives past (Restart machine clock) = life_of past machine == 2 ^ 64 - 1
uses_up_lives past _ = false

-- true time falls, or passes the greatest time
abbrev pub breaks_time : List Event → Event → Bool
breaks_time past event = nat_lt event.at (time_of past) || nat_lt max_time event.at

-- the first reason why an event is bad after what has happened, if there is one
abbrev pub first_bad : List Configuration → List Event → Event → Option WorldFault
first_bad configs past event =
    if breaks_time past event then Some bad.TimeBack
    else if names_unknown configs event.action then Some bad.UnknownNumber
    else if lacks_packet (packets_of past) event.action then Some bad.NoPacket
    else if goes_back (clock_of past) (clock_reading past event.action) then Some bad.ClockBack
    else if lacks_publication configs past event.action then Some bad.NoPublication
    else if lacks_its_thing configs past event.action then Some bad.NothingThere
    else if uses_up_lives past event.action then Some bad.LivesUsedUp
    else None

-- the events that were not bad, each judged after those before it; the newest first
abbrev pub accepted : List Configuration → List Event → List Event
accepted configs [] = []
accepted configs (event ∷ past) =
    if is_some (first_bad configs (accepted configs past) event) then accepted configs past else event ∷ accepted configs past
