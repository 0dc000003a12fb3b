-- A machine that restarts is as new, and the others keep what their past says.
use Rattle.std.proofs.Common.{◌≡◌, ℕ, ◌+◌, ◌++◌, Bool, false, cond, eqb, List, [], ◌∷◌, map, replicate, Option, None, refl, sym, ap, ap₂, ◌∙◌, append-nil, ne_eqb, eq-eqb, arith}
use Rattle.std.specs.List.{range_with_len}
use Rattle.tt_span.specs.Interval.{Interval}
use Rattle.tt_source.specs.Statement.{Statement}
use Rattle.tt_source.specs.Table.{Sending, SourceState, unknown_source}
use Rattle.tt_stamp.specs.declared.commits.Entry.{Entry}
use Rattle.tt_stamp.specs.Stamp.{greatest_of}
use Rattle.tt_world.specs.declared.events.Event.{Event}
use Rattle.tt_world.specs.declared.events.Action.TheVariants.{Restart}
use Rattle.tt_world.specs.declared.events.Reply.TheVariants as replies
use Rattle.tt_publish.specs.declared.readings.FusedSpan.{FusedSpan}
use Rattle.tt_world.specs.declared.workers.Task.{Task}
use Rattle.tt_world.specs.declared.workers.Worker.{Worker}
use Rattle.tt_daemon.specs.Config.{Configuration}
use Rattle.tt_world.specs.Life.{Life, life_of, next_life, life_at, same_life}
use Rattle.tt_world.specs.Lease.{lease_of}
use Rattle.tt_world.specs.Past.{clock_of}
use Rattle.tt_world.specs.Publications.{publications_of}
use Rattle.tt_world.specs.Private.Machine.{MachineState, source_of, worker_of, machine_of}
use Rattle.tt_world.specs.Private.Step.{new_worker, machine_in, restart_turn}
use Rattle.tt_world.proofs.Simulation.Ranges.{map-same}
use Rattle.tt_world.proofs.Simulation.Waiting.{happens}
use Rattle.tt_world.proofs.Simulation.Lives.{same_life-own}
use Rattle.tt_world.proofs.Simulation.Fresh.{map-const}
use Rattle.tt_world.proofs.Simulation.Unborn.{IsUnborn, sends_of-unborn, outstanding-unborn, statement_of-unborn, polled_clock_of-unborn, publications_of-unborn, seen_of-unborn, task_of-unborn, reading_of-unborn, reading_since-unborn, stamps_of-unborn, book_of-unborn}

-- a machine by its parts
abbrev made : Configuration → ℕ → ℕ → Interval → ℕ → ℕ → List SourceState → ℕ → List FusedSpan → Option ℕ → List Entry → List Worker → MachineState
made config m life lease last polled sources clock publications row book workers = record {
  daemon = record { config = config; table = record { machine = m; epoch = life; drift = config.drift; last = last; clock = polled; sources = sources } };
  life = life;
  lease = lease;
  clock = clock;
  publications = publications;
  row = row;
  book = book;
  workers = workers;
}

module _ (config : Configuration) (past : List Event) (at m clock : ℕ) where
  -- the life that begins
  abbrev life : Life
  life = next_life past m

  unborn : IsUnborn past life
  unborn = omega arith

  source_is : (i : ℕ) → source_of past life i ≡ unknown_source
  source_is i =
      ap₂ (λ (w : Option Sending) (s : Option Statement). record { waiting = w; statement = s }) (outstanding-unborn past life i unborn) (statement_of-unborn past life i unborn)

  -- a worker by its parts
  abbrev worker : ℕ → Option Task → Option Interval → Option Interval → Worker
  worker seen task reading since = record { seen = seen; task = task; reading = reading; since = since }

  worker_is : (w : ℕ) → worker_of config past life w ≡ new_worker
  worker_is w =
      ap₂ (λ (seen : ℕ) (task : Option Task). worker seen task (worker_of config past life w).reading (worker_of config past life w).since) (seen_of-unborn past life w unborn) (task_of-unborn config past life w unborn)
      ∙ ap₂ (λ (reading since : Option Interval). worker 0 None reading since) (reading_of-unborn config past life w unborn) (reading_since-unborn config past life w unborn)

  sources_are : map (λ i. source_of past life i) (range_with_len 0 config.sources) ≡ replicate config.sources unknown_source
  sources_are = map-same (λ i. source_of past life i) (λ i. unknown_source) config.sources source_is ∙ map-const unknown_source 0 config.sources

  workers_are : map (λ w. worker_of config past life w) (range_with_len 0 config.workers) ≡ replicate config.workers new_worker
  workers_are = map-same (λ w. worker_of config past life w) (λ w. new_worker) config.workers worker_is ∙ map-const new_worker 0 config.workers

  -- the machine with what is kept of the life before its restart
  abbrev with_parts : ℕ → ℕ → List SourceState → ℕ → List FusedSpan → Option ℕ → List Entry → List Worker → MachineState
  with_parts last polled sources shows publications row book workers =
      made config m (life_of past m + 1) (lease_of past m) last polled sources shows publications row book workers

  abbrev before : MachineState
  before = machine_of config past life

  machine_of-restart : machine_of config (happens at (Restart m clock) ∷ past) life ≡ machine_in config m (life_of past m + 1) (lease_of past m) clock
  machine_of-restart =
      ap₂ (λ (shows : ℕ) (publications : List FusedSpan). with_parts before.daemon.table.last before.daemon.table.clock before.daemon.table.sources shows publications before.row before.book before.workers)
      (ap (λ (b : Bool). cond b clock (clock_of past life)) (same_life-own life)) (append-nil (publications_of config past life) ∙ publications_of-unborn config past life unborn)
      ∙ ap₂ (λ (last polled : ℕ). with_parts last polled before.daemon.table.sources clock [] before.row before.book before.workers) (sends_of-unborn past life unborn) (polled_clock_of-unborn past life unborn)
      ∙ ap₂ (λ (sources : List SourceState) (workers : List Worker). with_parts 0 0 sources clock [] before.row before.book workers) sources_are workers_are
      ∙ ap₂ (λ (stamps : List ℕ) (book : List Entry). with_parts 0 0 (replicate config.sources unknown_source) clock [] (greatest_of stamps) book (replicate config.workers new_worker))
      (stamps_of-unborn config past life unborn) (book_of-unborn config past life unborn)

  -- what the machine is then
  own_life : life_at (happens at (Restart m clock) ∷ past) m ≡ life
  own_life = ap (λ (b : Bool). record { machine = m; number = cond b (life_of past m + 1) (life_of past m) }) (eq-eqb m m refl)

  pub restart_turn-machine_of : restart_turn m (machine_of config past (life_at past m)) clock
      ≡ record { state = machine_of config (happens at (Restart m clock) ∷ past) (life_at (happens at (Restart m clock) ∷ past) m); reply = replies.Restarted (life_of past m + 1) }
  restart_turn-machine_of =
      ap (λ (machine : MachineState). record { state = machine; reply = replies.Restarted (life_of past m + 1) })
      (sym (ap (machine_of config (happens at (Restart m clock) ∷ past)) own_life ∙ machine_of-restart))

  -- another machine, by whether this reading is of its clock
  abbrev kept : ℕ → Bool → MachineState
  kept j here = record (machine_of config past (life_at past j)) { clock = cond here clock (clock_of past (life_at past j)); publications = publications_of config past (life_at past j) ++ [] }

  pub machine_of-restart_other : (j : ℕ) → (j ≡ m → ⊥)
      → machine_of config past (life_at past j) ≡ machine_of config (happens at (Restart m clock) ∷ past) (life_at (happens at (Restart m clock) ∷ past) j)
  machine_of-restart_other j other =
      let not_same : eqb m j ≡ false = ne_eqb m j (λ same. other (sym same)) in
      let same_life_at : life_at (happens at (Restart m clock) ∷ past) j ≡ life_at past j =
      ap (λ (b : Bool). record { machine = j; number = cond b (life_of past j + 1) (life_of past j) }) not_same in
      let not_its_clock : same_life life (life_at past j) ≡ false = rw not_same refl in
      sym (ap (machine_of config (happens at (Restart m clock) ∷ past)) same_life_at
      ∙ ap (kept j) not_its_clock
      ∙ ap (λ (publications : List FusedSpan). record (machine_of config past (life_at past j)) { publications = publications }) (append-nil (publications_of config past (life_at past j))))
