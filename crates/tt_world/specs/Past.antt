-- What has happened, searched back. Each list has the newest event first, and only events that were not bad.
use Rattle.std.specs.Prelude.{ℕ, ◌+◌, Bool, false, if◌then◌else◌, List, [], ◌∷◌, ◌++◌, slice_get, Option, Some, None}
use Rattle.std.specs.Option.{option_map}
use Rattle.tt_span.specs.Drift.{Moment}
use Rattle.tt_world.specs.Life.{Life, life_of, next_life, life_at, same_life, is_of}
use Rattle.tt_world.specs.declared.events.Event.{Event}
use Rattle.tt_world.specs.declared.events.Action.{Action}
use Rattle.tt_world.specs.declared.events.Action.TheVariants.{Send, Answer, Forge, Deliver, Fuse, Read, Arrive, Stamp, Queue, Restart, Lease, Release}
use Rattle.tt_world.specs.declared.packets.Packet.{Packet}
use Rattle.tt_world.specs.declared.packets.Packet.TheVariants.{Asked, Forged}
use Rattle.tt_world.specs.Packet.{machine_of_packet, answer_to}

-- the true time of the last event, 0 before the first
abbrev pub time_of : List Event → ℕ
time_of [] = 0
time_of (event ∷ past) = event.at

-- whether the event polls a source of this life
abbrev pub is_send_of : List Event → Life → Action → Bool
is_send_of past life (Send machine source clock) = is_of past life machine
is_send_of past life _ = false

-- how many polls this life has sent; the nonce of the next one is one more
abbrev pub sends_of : List Event → Life → ℕ
sends_of [] life = 0
sends_of (event ∷ past) life = if is_send_of past life event.action then sends_of past life + 1 else sends_of past life

-- how many polls machine m has sent in its life
abbrev pub sends_now : List Event → ℕ → ℕ
sends_now past m = sends_of past (life_at past m)

-- the packets that an event sends: lives says which life a machine is in, sends how many polls it has sent in it, and packets have been sent before
abbrev pub put_by : (ℕ → ℕ) → (ℕ → ℕ) → List Packet → Action → List Packet
put_by lives sends packets (Send machine source clock) = Asked (record { machine = machine; source = source; nonce = sends machine + 1; epoch = lives machine }) ∷ []
put_by lives sends packets (Answer packet span) = answer_to (slice_get packets packet) span
put_by lives sends packets (Forge machine source payload) = Forged machine source payload ∷ []
put_by lives sends packets _ = []

-- all packets that were sent, in the order in which they were sent
abbrev pub packets_of : List Event → List Packet
packets_of [] = []
packets_of (event ∷ past) = packets_of past ++ put_by (life_of past) (sends_now past) (packets_of past) event.action

-- a reading of the clock of a machine, in one of its lives
pub record ClockReading : Type 0 where
  pub life : Life
  pub clock : ℕ

-- the reading of a clock that goes with an event, if one does
abbrev pub clock_reading : List Event → Action → Option ClockReading
clock_reading past (Send machine source clock) = Some (record { life = life_at past machine; clock = clock })
clock_reading past (Answer packet span) = None
clock_reading past (Forge machine source payload) = None
clock_reading past (Deliver packet clock) = option_map (λ p. record { life = life_at past (machine_of_packet p); clock = clock }) (slice_get (packets_of past) packet)
clock_reading past (Fuse machine clock) = Some (record { life = life_at past machine; clock = clock })
clock_reading past (Read machine worker clock publication) = Some (record { life = life_at past machine; clock = clock })
clock_reading past (Arrive machine worker id floor) = None
clock_reading past (Stamp machine worker) = None
clock_reading past (Queue machine worker) = None
clock_reading past (Restart machine clock) = Some (record { life = next_life past machine; clock = clock })
clock_reading past (Lease machine lease) = None
clock_reading past (Release machine worker) = None

-- what the clock of this life shows after a reading, if that is one of this clock
abbrev pub clock_after : Life → Option ClockReading → ℕ → ℕ
clock_after life None before = before
clock_after life (Some reading) before = if same_life reading.life life then reading.clock else before

-- what the clock of this life showed last, 0 before its first reading
abbrev pub clock_of : List Event → Life → ℕ
clock_of [] life = 0
clock_of (event ∷ past) life = clock_after life (clock_reading past event.action) (clock_of past life)

-- the moment of a reading at a true time, if that is one of the clock of this life
abbrev pub moment_at : Life → ℕ → Option ClockReading → List Moment
moment_at life time None = []
moment_at life time (Some reading) = if same_life reading.life life then record { clock = reading.clock; time = time } ∷ [] else []

-- all moments of this life, the newest first
abbrev pub moments_of : List Event → Life → List Moment
moments_of [] life = []
moments_of (event ∷ past) life = moment_at life event.at (clock_reading past event.action) ++ moments_of past life
