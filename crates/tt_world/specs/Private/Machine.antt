-- What is kept of one machine, and how it stands for a run.
use Rattle.std.specs.Prelude.{◌≡◌, ◌<◌, ◌≤◌, ℕ, Bool, false, if◌then◌else◌, List, [], ◌∷◌, map, slice_get, is_some, Option, Some, None, All}
use Rattle.std.specs.List.{range_with_len}
use Rattle.tt_span.specs.Time.{max_time}
use Rattle.tt_source.specs.Table.{SourceState, Sending}
use Rattle.tt_stamp.specs.declared.commits.Entry.{Entry}
use Rattle.tt_stamp.specs.Stamp.{greatest_of}
use Rattle.tt_span.specs.Interval.{Interval}
use Rattle.tt_world.specs.Lease.{lease_of}
use Rattle.tt_world.specs.Life.{Life, is_of}
use Rattle.tt_world.specs.declared.events.Event.{Event}
use Rattle.tt_world.specs.declared.events.Action.{Action}
use Rattle.tt_world.specs.declared.events.Action.TheVariants.{Send, Deliver}
use Rattle.tt_world.specs.declared.packets.Packet.{Packet}
use Rattle.tt_publish.specs.declared.readings.FusedSpan.{FusedSpan}
use Rattle.tt_world.specs.declared.workers.Worker.{Worker}
use Rattle.tt_daemon.specs.Config.{Configuration}
use Rattle.tt_daemon.specs.Daemon.{DaemonState, IsDaemon}
use Rattle.tt_world.specs.Packet.{source_of_packet}
use Rattle.tt_world.specs.Past.{sends_of, packets_of, clock_of}
use Rattle.tt_world.specs.Sources.{outstanding_poll, stated_in, statement_of}
use Rattle.tt_world.specs.Publications.{publications_of, seen_of}
use Rattle.tt_world.specs.Commits.{reading_of, reading_since, stamps_of, book_of, task_of}

-- what is kept of one machine
pub record MachineState : Type 0 where
  pub daemon : DaemonState
  pub life : ℕ
  pub lease : Interval
  pub clock : ℕ
  pub publications : List FusedSpan
  pub row : Option ℕ
  pub book : List Entry
  pub workers : List Worker

-- what always holds of what is kept of one machine
pub record IsMachine (machine : MachineState) : Type 0 where
  pub daemon : IsDaemon machine.daemon
  pub same_life : machine.daemon.table.epoch ≡ machine.life
  pub some_life : 0 < machine.life
  pub table_behind : machine.daemon.table.clock ≤ machine.clock
  pub in_time : machine.clock ≤ max_time
  pub published_before : All (λ p. p.clock ≤ machine.clock) machine.publications

-- whether a packet makes a statement for its own source in this life, where waiting says which poll of a source waits
abbrev pub is_taken : List Event → Life → (ℕ → Option Sending) → ℕ → Option Packet → Bool
is_taken past life waiting clock None = false
is_taken past life waiting clock (Some packet) = is_some (stated_in past life (source_of_packet packet) (waiting (source_of_packet packet)) clock (Some packet))

-- the clock reading of an event that polls in this life or is taken in it, else the one before
abbrev pub polled_by : List Event → Life → Action → ℕ → ℕ
polled_by past life (Send machine source clock) before = if is_of past life machine then clock else before
polled_by past life (Deliver packet clock) before = if is_taken past life (outstanding_poll past life) clock (slice_get (packets_of past) packet) then clock else before
polled_by past life _ before = before

-- what the clock of this life showed at its last poll or at the last answer that it took, 0 before the first
abbrev pub polled_clock_of : List Event → Life → ℕ
polled_clock_of [] life = 0
polled_clock_of (event ∷ past) life = polled_by past life event.action (polled_clock_of past life)

-- what is kept of source i of this life
abbrev pub source_of : List Event → Life → ℕ → SourceState
source_of past life i = record { waiting = outstanding_poll past life i; statement = statement_of past life i }

-- what is kept of worker w of this life
abbrev pub worker_of : Configuration → List Event → Life → ℕ → Worker
worker_of config past life w = record {
  seen = seen_of past life w;
  task = task_of config past life w;
  reading = reading_of config past life w;
  since = reading_since config past life w;
}

-- what is kept of this life
abbrev pub machine_of : Configuration → List Event → Life → MachineState
machine_of config past life = record {
  daemon = record {
    config = config;
    table = record {
      machine = life.machine;
      epoch = life.number;
      drift = config.drift;
      last = sends_of past life;
      clock = polled_clock_of past life;
      sources = map (λ i. source_of past life i) (range_with_len 0 config.sources);
    };
  };
  life = life.number;
  lease = lease_of past life.machine;
  clock = clock_of past life;
  publications = publications_of config past life;
  row = greatest_of (stamps_of config past life);
  book = book_of config past life;
  workers = map (λ w. worker_of config past life w) (range_with_len 0 config.workers);
}
