-- A machine whose worker queues or releases keeps what its past says.
use Rattle.std.proofs.Common.{◌||◌, ◌≡◌, ℕ, ◌<◌, Bool, true, false, cond, eqb, not, List, ◌∷◌, map, get_or, set, is_some, Option, Some, None, inl, inr, refl, sym, ap, ap₂, subst, ◌∙◌, eq-eqb, ne_eqb}
use Rattle.std.specs.List.{range_with_len}
use Rattle.std.proofs.lemmas.Bool.{cases_eq}
use Rattle.tt_span.specs.Interval.{Interval}
use Rattle.tt_stamp.specs.declared.commits.Entry.{Entry}
use Rattle.tt_stamp.specs.declared.commits.Entry.TheVariants as entries
use Rattle.tt_stamp.specs.declared.faults.BookFault.{BookFault}
use Rattle.tt_stamp.specs.History.{with_receipts, first_queue_fault}
use Rattle.tt_world.proofs.Simulation.Lives.{is_of-own, is_of-other}
use Rattle.tt_world.specs.Life.{Life, life_at}
use Rattle.tt_world.specs.declared.events.Event.{Event}
use Rattle.tt_world.specs.declared.events.Action.TheVariants.{Queue, Release}
use Rattle.tt_world.specs.declared.events.Reply.{Reply}
use Rattle.tt_world.specs.declared.events.Reply.TheVariants as replies
use Rattle.tt_world.specs.declared.workers.Arrival.{Arrival}
use Rattle.tt_world.specs.declared.workers.Task.{Task}
use Rattle.tt_world.specs.declared.workers.Worker.{Worker}
use Rattle.tt_daemon.specs.Config.{Configuration}
use Rattle.tt_world.specs.Commits.{arrival_of, reading_of, stamp_held, with_queued, released_with, book_of, queue_fault, queueing_of, is_queued, task_with}
use Rattle.tt_world.specs.Reply.{queueing_reply}
use Rattle.tt_world.specs.Private.Machine.{MachineState, worker_of, machine_of}
use Rattle.tt_world.specs.Private.Step.{Turn, new_worker, queue_turn, release_turn}
use Rattle.tt_world.proofs.Simulation.Ranges.{get_or-made, set-made, map-same}
use Rattle.tt_world.proofs.Simulation.Waiting.{happens}
use Rattle.tt_world.proofs.Simulation.Kept.{worker_if_queued, machine_of-queue, machine_if_queued, machine_of-release, machine_if_released}

module _ (config : Configuration) (past : List Event) (at m w : ℕ) where
  -- the life that the machine is in
  abbrev life : Life
  life = life_at past m

  -- ---- it queues

  module _ (a : Arrival) (s : ℕ) (there : w < config.workers) (asked : arrival_of past life w ≡ Some a) (held : stamp_held config past life w ≡ Some s) where
    -- the task of the worker by what refused it
    abbrev task_if : Bool → Option BookFault → Option Task
    task_if own fault =
        cond (cond own (not (is_some fault) || is_queued config past life w) (is_queued config past life w)) None (task_with (arrival_of past life w) (stamp_held config past life w))

    -- a worker with this task
    abbrev with_task : Option Task → Worker → Worker
    with_task task worker = record worker { task = task }

    module _ (fault : Option BookFault) (is : first_queue_fault (book_of config past life) a.id s ≡ fault) where
      queueing_is : queueing_of config past life w ≡ fault
      queueing_is = ap₂ (queue_fault (book_of config past life)) asked held ∙ is

      book_is : with_queued (book_of config past life) (arrival_of past life w) (stamp_held config past life w)
          ≡ cond (is_some fault) (book_of config past life) (entries.Queued a.id s ∷ book_of config past life)
      book_is =
          ap₂ (with_queued (book_of config past life)) asked held
          ∙ ap (λ (o : Option BookFault). cond (is_some o) (book_of config past life) (entries.Queued a.id s ∷ book_of config past life)) is

    workers_if_queued : first_queue_fault (book_of config past life) a.id s ≡ None
        → set (map (λ v. worker_of config past life v) (range_with_len 0 config.workers)) w
        (with_task None (get_or (map (λ v. worker_of config past life v) (range_with_len 0 config.workers)) w new_worker))
        ≡ map (λ v. worker_if_queued config past life v (eqb w v) (queueing_of config past life v)) (range_with_len 0 config.workers)
    workers_if_queued is =
        set-made (λ v. worker_of config past life v) (λ v. worker_if_queued config past life v (eqb w v) (queueing_of config past life v)) config.workers w _
        (ap (with_task None) (get_or-made (λ v. worker_of config past life v) config.workers w new_worker there)
        ∙ sym (ap (λ (task : Option Task). with_task task (worker_of config past life w))
        (ap₂ task_if (eq-eqb w w refl) (queueing_is None is))))
        (λ v other. sym (ap (λ (b : Bool). worker_if_queued config past life v b (queueing_of config past life v)) (ne_eqb w v (λ same. other (sym same)))))

    same_if_refused : (v : ℕ) (e : BookFault) (own : Bool) → worker_if_queued config past life v own (Some e) ≡ worker_of config past life v
    same_if_refused v e true = refl
    same_if_refused v e false = refl

    workers_if_refused : (e : BookFault) → first_queue_fault (book_of config past life) a.id s ≡ Some e
        → map (λ v. worker_of config past life v) (range_with_len 0 config.workers)
        ≡ map (λ v. worker_if_queued config past life v (eqb w v) (queueing_of config past life v)) (range_with_len 0 config.workers)
    workers_if_refused e is =
        map-same (λ v. worker_of config past life v) (λ v. worker_if_queued config past life v (eqb w v) (queueing_of config past life v)) config.workers
        (λ v. elim (cases_eq w v) [
          | inl same ↦
              subst (λ (j : ℕ). worker_of config past life j ≡ worker_if_queued config past life j (eqb w j) (queueing_of config past life j)) same
              (sym (ap (worker_if_queued config past life w (eqb w w)) (queueing_is (Some e) is) ∙ same_if_refused w e (eqb w w)))
          | inr other ↦ sym (ap (λ (b : Bool). worker_if_queued config past life v b (queueing_of config past life v)) (ne_eqb w v other))
        ])

    -- the machine with this book and these workers, and the reply
    abbrev replied : List Entry → List Worker → Reply → Turn MachineState
    replied book workers reply = record { state = record (machine_of config past life) { book = book; workers = workers }; reply = reply }

    queue_turn-by : (fault : Option BookFault) → first_queue_fault (book_of config past life) a.id s ≡ fault
        → queue_turn (machine_of config past life) w a.id s fault
        ≡ record { state = machine_if_queued config past w life true; reply = queueing_reply (queueing_of config past life w) }
    queue_turn-by None is =
        ap₂ (λ (book : List Entry) (workers : List Worker). replied book workers (queueing_reply None)) (sym (book_is None is)) (workers_if_queued is)
        ∙ ap (λ (reply : Reply). record { state = machine_if_queued config past w life true; reply = reply }) (sym (ap queueing_reply (queueing_is None is)))
    queue_turn-by (Some e) is =
        ap₂ (λ (book : List Entry) (workers : List Worker). replied book workers (queueing_reply (Some e))) (sym (book_is (Some e) is)) (workers_if_refused e is)
        ∙ ap (λ (reply : Reply). record { state = machine_if_queued config past w life true; reply = reply }) (sym (ap queueing_reply (queueing_is (Some e) is)))

    pub queue_turn-machine_of : queue_turn (machine_of config past life) w a.id s (first_queue_fault (book_of config past life) a.id s)
        ≡ record { state = machine_of config (happens at (Queue m w) ∷ past) life; reply = queueing_reply (queueing_of config past life w) }
    queue_turn-machine_of =
        queue_turn-by (first_queue_fault (book_of config past life) a.id s) refl
        ∙ ap (λ (machine : MachineState). record { state = machine; reply = queueing_reply (queueing_of config past life w) })
        (sym (machine_of-queue config past at m w life ∙ ap (machine_if_queued config past w life) (is_of-own past m)))

  pub machine_of-queue_other : (j : ℕ) → (j ≡ m → ⊥) → machine_of config past (life_at past j) ≡ machine_of config (happens at (Queue m w) ∷ past) (life_at past j)
  machine_of-queue_other j other =
      sym (machine_of-queue config past at m w (life_at past j) ∙ ap (machine_if_queued config past w (life_at past j)) (is_of-other past m j other))

  -- ---- it releases

  -- the machine after a release with a reading, if there is one, and the reply
  abbrev released : Option Interval → Turn MachineState
  released reading = record {
    state = record (machine_of config past life) { book = with_receipts (released_with (book_of config past life) reading) (book_of config past life) };
    reply = replies.Released (released_with (book_of config past life) reading);
  }

  pub release_turn-machine_of : (reading : Interval) → reading_of config past life w ≡ Some reading
      → release_turn (machine_of config past life) reading
      ≡ record { state = machine_of config (happens at (Release m w) ∷ past) life; reply = replies.Released (released_with (book_of config past life) (reading_of config past life w)) }
  release_turn-machine_of reading is =
      sym (ap released is)
      ∙ ap (λ (machine : MachineState). record { state = machine; reply = replies.Released (released_with (book_of config past life) (reading_of config past life w)) })
      (sym (machine_of-release config past at m w life ∙ ap (machine_if_released config past w life) (is_of-own past m)))

  pub machine_of-release_other : (j : ℕ) → (j ≡ m → ⊥) → machine_of config past (life_at past j) ≡ machine_of config (happens at (Release m w) ∷ past) (life_at past j)
  machine_of-release_other j other =
      sym (machine_of-release config past at m w (life_at past j) ∙ ap (machine_if_released config past w (life_at past j)) (is_of-other past m j other))
