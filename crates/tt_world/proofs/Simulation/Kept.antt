-- What is kept of each machine after one more event.
use Rattle.std.proofs.Common.{◌||◌, ◌≡◌, ℕ, ◌+◌, max, Bool, false, cond, eqb, ◌&&◌, not, List, [], ◌∷◌, ◌++◌, map, slice_get, is_some, Option, Some, None, Result, refl, ap, ◌∙◌, append-nil}
use Rattle.std.specs.List.{range_with_len}
use Rattle.std.specs.Option.{option_or, option_map}
use Rattle.tt_span.specs.Interval.{Interval}
use Rattle.tt_source.specs.Statement.{Statement}
use Rattle.tt_source.specs.Table.{Sending, SourceState}
use Rattle.tt_stamp.specs.declared.commits.Id.{Id}
use Rattle.tt_stamp.specs.declared.faults.StampFault.{StampFault}
use Rattle.tt_stamp.specs.declared.faults.BookFault.{BookFault}
use Rattle.tt_stamp.specs.Stamp.{greatest_of}
use Rattle.tt_stamp.specs.History.{with_receipts}
use Rattle.std.specs.Prelude.{unwrap_or}
use Rattle.tt_world.specs.Lease.{lease_of}
use Rattle.tt_world.specs.Life.{Life, life_at, is_of}
use Rattle.tt_world.specs.declared.events.Event.{Event}
use Rattle.tt_world.specs.declared.events.Action.TheVariants.{Send, Answer, Forge, Deliver, Fuse, Read, Arrive, Stamp, Queue, Lease, Release}
use Rattle.tt_world.specs.declared.packets.Packet.{Packet}
use Rattle.tt_publish.specs.declared.readings.FusedSpan.{FusedSpan}
use Rattle.tt_world.specs.declared.workers.Arrival.{Arrival}
use Rattle.tt_world.specs.declared.workers.Worker.{Worker}
use Rattle.tt_daemon.specs.Config.{Configuration}
use Rattle.tt_world.specs.Packet.{machine_of_packet}
use Rattle.tt_world.specs.Past.{sends_of, packets_of, clock_of, clock_after}
use Rattle.tt_world.specs.Sources.{outstanding_poll, stated_in, statement_of}
use Rattle.tt_world.specs.Publications.{publications_of, seen_of, published_at, publication_at}
use Rattle.tt_publish.specs.Reading.{reading_at}
use Rattle.tt_world.specs.Commits.{arrival_of, reading_of, reading_since, stamp_given, stamps_after, stamps_of, stamping_of, stamp_held, with_queued, released_with, book_of, queueing_of, is_queued, task_with}
use Rattle.tt_world.specs.Private.Machine.{MachineState, is_taken, polled_clock_of, source_of, worker_of, machine_of}
use Rattle.tt_world.proofs.Simulation.Ranges.{map-same}
use Rattle.tt_world.proofs.Simulation.Waiting.{happens, outstanding-send, outstanding-deliver}

-- a machine with another table, clock and publications
abbrev pub kept : MachineState → ℕ → ℕ → List SourceState → ℕ → List FusedSpan → MachineState
kept machine last polled sources clock publications = record machine {
  daemon = record machine.daemon { table = record machine.daemon.table { last = last; clock = polled; sources = sources } };
  clock = clock;
  publications = publications;
}

-- a source with another poll that waits
waiting_is : (w v : Option Sending) (s : Option Statement) → w ≡ v → ◌≡◌ {A = SourceState} (record { waiting = w; statement = s }) (record { waiting = v; statement = s })
waiting_is w v s same = ap (λ (o : Option Sending). record { waiting = o; statement = s }) same

module _ (config : Configuration) (past : List Event) where
  -- a machine that publishes nothing more
  same_publications : (machine : MachineState) (j : Life)
      → ◌≡◌ {A = MachineState} (record machine { publications = publications_of config past j ++ [] }) (record machine { publications = publications_of config past j })
  same_publications machine j = ap (λ (publications : List FusedSpan). record machine { publications = publications }) (append-nil (publications_of config past j))

  same_sources : (j : Life) (last polled : ℕ) (f g : ℕ → SourceState) (clock : ℕ) (publications : List FusedSpan) → ((i : ℕ) → f i ≡ g i)
      → kept (machine_of config past j) last polled (map f (range_with_len 0 config.sources)) clock publications
      ≡ kept (machine_of config past j) last polled (map g (range_with_len 0 config.sources)) clock publications
  same_sources j last polled f g clock publications same =
      ap (λ (s : List SourceState). kept (machine_of config past j) last polled s clock publications) (map-same f g config.sources same)

  pub machine_of-answer : (at k : ℕ) (span : Interval) (j : Life) → machine_of config (happens at (Answer k span) ∷ past) j ≡ machine_of config past j
  machine_of-answer at k span j = same_publications (machine_of config past j) j

  pub machine_of-forge : (at m s : ℕ) (payload : List ℕ) (j : Life) → machine_of config (happens at (Forge m s payload) ∷ past) j ≡ machine_of config past j
  machine_of-forge at m s payload j = same_publications (machine_of config past j) j

  -- machine j after a poll of source s, where here says whether it polls
  abbrev pub machine_if_sent : ℕ → ℕ → Life → Bool → MachineState
  machine_if_sent s clock j here =
      kept (machine_of config past j) (cond here (sends_of past j + 1) (sends_of past j)) (cond here clock (polled_clock_of past j))
      (map (λ i. record { waiting = cond (here && eqb s i) (Some (record { nonce = sends_of past j + 1; clock = clock })) (outstanding_poll past j i); statement = statement_of past j i }) (range_with_len 0 config.sources))
      (cond here clock (clock_of past j)) (publications_of config past j)

  pub machine_of-send : (at m s clock : ℕ) (j : Life) → machine_of config (happens at (Send m s clock) ∷ past) j ≡ machine_if_sent s clock j (is_of past j m)
  machine_of-send at m s clock j =
      same_publications (machine_of config (happens at (Send m s clock) ∷ past) j) j
      ∙ same_sources j _ _ (λ i. source_of (happens at (Send m s clock) ∷ past) j i) _ _ _
      (λ i. waiting_is (outstanding_poll (happens at (Send m s clock) ∷ past) j i) _ (statement_of past j i) (outstanding-send past at m s clock j i))

  -- a source after a delivery that states this for it
  abbrev pub after_delivery : Option Statement → SourceState → SourceState
  after_delivery stated source = record { waiting = cond (is_some stated) None source.waiting; statement = option_or stated source.statement }

  -- machine j after the delivery of a packet
  abbrev pub machine_if_delivered : ℕ → Life → Option Packet → MachineState
  machine_if_delivered clock j o =
      kept (machine_of config past j) (sends_of past j) (cond (is_taken past j (outstanding_poll past j) clock o) clock (polled_clock_of past j))
      (map (λ i. after_delivery (stated_in past j i (outstanding_poll past j i) clock o) (source_of past j i)) (range_with_len 0 config.sources))
      (clock_after j (option_map (λ p. record { life = life_at past (machine_of_packet p); clock = clock }) o) (clock_of past j))
      (publications_of config past j)

  pub machine_of-deliver : (at k clock : ℕ) (j : Life) → machine_of config (happens at (Deliver k clock) ∷ past) j ≡ machine_if_delivered clock j (slice_get (packets_of past) k)
  machine_of-deliver at k clock j =
      same_publications (machine_of config (happens at (Deliver k clock) ∷ past) j) j
      ∙ same_sources j _ _ (λ i. source_of (happens at (Deliver k clock) ∷ past) j i) _ _ _
      (λ i. waiting_is (outstanding_poll (happens at (Deliver k clock) ∷ past) j i) _
      (option_or (stated_in past j i (outstanding_poll past j i) clock (slice_get (packets_of past) k)) (statement_of past j i)) (outstanding-deliver past at k clock j i))

  -- machine j after a fusion, where here says whether it fuses
  abbrev pub machine_if_fused : ℕ → Life → Bool → MachineState
  machine_if_fused clock j here = record (machine_of config past j) {
    clock = cond here clock (clock_of past j);
    publications = publications_of config past j ++ published_at config past j (cond here (Some clock) None);
  }

  pub machine_of-fuse : (at m clock : ℕ) (j : Life) → machine_of config (happens at (Fuse m clock) ∷ past) j ≡ machine_if_fused clock j (is_of past j m)
  machine_of-fuse at m clock j = refl

  -- ---- a worker of a machine acts

  -- machine j with these workers
  abbrev pub with_workers : Life → (ℕ → Worker) → MachineState
  with_workers j f = record (machine_of config past j) { workers = map f (range_with_len 0 config.workers) }

  -- what a worker of machine j reads from publication k at a clock reading
  abbrev pub reading_from : Life → ℕ → ℕ → Interval
  reading_from j clock k = reading_at config.drift (publication_at (publications_of config past j) k) clock

  -- worker v of machine j after a reading from publication k, where reads says whether it takes it
  abbrev pub worker_if_reads : ℕ → Interval → Life → ℕ → Bool → Worker
  worker_if_reads k reading j v reads = record (worker_of config past j v) {
    seen = cond reads (max k (seen_of past j v)) (seen_of past j v);
    reading = option_or (cond reads (Some reading) None) (reading_of config past j v);
    since = option_or (cond reads (Some reading) None) (reading_since config past j v);
  }

  -- machine j after worker w has read from publication k, where here says whether it is a worker of machine j
  abbrev pub machine_if_read : ℕ → ℕ → ℕ → Life → Bool → MachineState
  machine_if_read w clock k j here = record (with_workers j (λ v. worker_if_reads k (reading_from j clock k) j v (here && eqb w v))) { clock = cond here clock (clock_of past j) }

  pub machine_of-read : (at m w clock k : ℕ) (j : Life) → machine_of config (happens at (Read m w clock k) ∷ past) j ≡ machine_if_read w clock k j (is_of past j m)
  machine_of-read at m w clock k j = same_publications (machine_if_read w clock k j (is_of past j m)) j

  -- worker v of machine j after a commit arrived, where asked says whether it is the worker's
  abbrev pub worker_if_asked : Arrival → Life → ℕ → Bool → Worker
  worker_if_asked arrival j v asked = record (worker_of config past j v) {
    task = cond (cond (is_some (cond asked (Some arrival) None)) false (is_queued config past j v)) None
        (task_with (option_or (cond asked (Some arrival) None) (arrival_of past j v)) (cond (is_some (cond asked (Some arrival) None)) None (stamp_held config past j v)));
    since = cond (is_some (cond asked (Some arrival) None)) None (reading_since config past j v);
  }

  -- machine j after a commit arrived at worker w, where here says whether it is a worker of machine j
  abbrev pub machine_if_asked : Arrival → ℕ → Life → Bool → MachineState
  machine_if_asked arrival w j here = with_workers j (λ v. worker_if_asked arrival j v (here && eqb w v))

  pub machine_of-arrive : (at m w : ℕ) (id : Id) (floor : ℕ) (j : Life)
      → machine_of config (happens at (Arrive m w id floor) ∷ past) j ≡ machine_if_asked (record { id = id; floor = floor }) w j (is_of past j m)
  machine_of-arrive at m w id floor j = same_publications (machine_if_asked (record { id = id; floor = floor }) w j (is_of past j m)) j

  pub machine_of-lease : (at m : ℕ) (lease : Interval) (j : Life)
      → machine_of config (happens at (Lease m lease) ∷ past) j ≡ record (machine_of config past j) { lease = unwrap_or (cond (eqb m j.machine) (Some lease) None) (lease_of past j.machine) }
  machine_of-lease at m lease j = same_publications (record (machine_of config past j) { lease = unwrap_or (cond (eqb m j.machine) (Some lease) None) (lease_of past j.machine) }) j

  -- worker v of machine j after a stamping that gave this, where its own says whether it is the worker's
  abbrev pub worker_if_stamped : Life → ℕ → Bool → Option (Result ℕ StampFault) → Worker
  worker_if_stamped j v own stamping = record (worker_of config past j v) {
    task = cond (is_queued config past j v) None
        (task_with (arrival_of past j v) (cond own (option_or (stamp_given stamping) (stamp_held config past j v)) (stamp_held config past j v)));
  }

  -- machine j after worker w was stamped for, where here says whether it is a worker of machine j
  abbrev pub machine_if_stamped : ℕ → Life → Bool → MachineState
  machine_if_stamped w j here = record (with_workers j (λ v. worker_if_stamped j v (here && eqb w v) (stamping_of config past j v))) {
    row = greatest_of (stamps_after config past j (stamps_of config past j) (cond here (Some w) None));
  }

  pub machine_of-stamp : (at m w : ℕ) (j : Life) → machine_of config (happens at (Stamp m w) ∷ past) j ≡ machine_if_stamped w j (is_of past j m)
  machine_of-stamp at m w j = same_publications (machine_if_stamped w j (is_of past j m)) j

  -- worker v of machine j after a queueing that this refused, where its own says whether it is the worker's
  abbrev pub worker_if_queued : Life → ℕ → Bool → Option BookFault → Worker
  worker_if_queued j v own fault = record (worker_of config past j v) {
    task = cond (cond own (not (is_some fault) || is_queued config past j v) (is_queued config past j v)) None (task_with (arrival_of past j v) (stamp_held config past j v));
  }

  -- machine j after worker w queued, where here says whether it is a worker of machine j
  abbrev pub machine_if_queued : ℕ → Life → Bool → MachineState
  machine_if_queued w j here = record (with_workers j (λ v. worker_if_queued j v (here && eqb w v) (queueing_of config past j v))) {
    book = cond here (with_queued (book_of config past j) (arrival_of past j w) (stamp_held config past j w)) (book_of config past j);
  }

  pub machine_of-queue : (at m w : ℕ) (j : Life) → machine_of config (happens at (Queue m w) ∷ past) j ≡ machine_if_queued w j (is_of past j m)
  machine_of-queue at m w j = same_publications (machine_if_queued w j (is_of past j m)) j

  -- machine j after worker w released, where here says whether it is a worker of machine j
  abbrev pub machine_if_released : ℕ → Life → Bool → MachineState
  machine_if_released w j here = record (machine_of config past j) {
    book = cond here (with_receipts (released_with (book_of config past j) (reading_of config past j w)) (book_of config past j)) (book_of config past j);
  }

  pub machine_of-release : (at m w : ℕ) (j : Life) → machine_of config (happens at (Release m w) ∷ past) j ≡ machine_if_released w j (is_of past j m)
  machine_of-release at m w j = same_publications (machine_if_released w j (is_of past j m)) j
