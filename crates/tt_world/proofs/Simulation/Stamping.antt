-- A machine that stamps keeps what its past says.
use Rattle.std.proofs.Common.{◌≡◌, ℕ, ◌<◌, Bool, true, false, cond, eqb, List, ◌∷◌, map, get_or, set, Option, Some, None, Result, Ok, Err, inl, inr, refl, sym, ap, ap₂, subst, ◌∙◌, eq-eqb, ne_eqb, arith}
use Rattle.std.specs.List.{range_with_len}
use Rattle.std.specs.Option.{option_or}
use Rattle.std.proofs.lemmas.Bool.{cases_eq}
use Rattle.tt_span.specs.Interval.{Interval}
use Rattle.tt_stamp.specs.declared.faults.StampFault.{StampFault}
use Rattle.tt_stamp.specs.Stamp.{stamp_of, greatest_of}
use Rattle.tt_world.specs.Lease.{lease_of}
use Rattle.tt_world.proofs.Simulation.Lives.{is_of-own, is_of-other}
use Rattle.tt_world.specs.Life.{Life, life_at}
use Rattle.tt_world.specs.declared.events.Event.{Event}
use Rattle.tt_world.specs.declared.events.Action.TheVariants.{Stamp}
use Rattle.tt_world.specs.declared.events.Reply.{Reply}
use Rattle.tt_world.specs.declared.events.Reply.TheVariants as replies
use Rattle.tt_world.specs.declared.workers.Arrival.{Arrival}
use Rattle.tt_world.specs.declared.workers.Task.{Task}
use Rattle.tt_world.specs.declared.workers.Task.TheVariants.{Stamped}
use Rattle.tt_world.specs.declared.workers.Worker.{Worker}
use Rattle.tt_daemon.specs.Config.{Configuration}
use Rattle.tt_world.specs.Commits.{arrival_of, reading_since, stamping_after, stamp_given, with_stamp, stamps_after, stamps_of, stamping_of, stamp_held, is_queued, task_with}
use Rattle.tt_world.specs.Reply.{stamping_reply}
use Rattle.tt_world.specs.Private.Machine.{MachineState, worker_of, machine_of}
use Rattle.tt_world.specs.Private.Step.{Turn, new_worker, given_in, stamp_turn}
use Rattle.tt_world.proofs.Simulation.Ranges.{get_or-made, set-made, map-same}
use Rattle.tt_world.proofs.Simulation.Waiting.{happens}
use Rattle.tt_world.proofs.Simulation.Kept.{worker_if_stamped, machine_of-stamp, machine_if_stamped}
use Rattle.tt_stamp.proofs.Laws.{stamp_of-same_greatest, greatest_of-given}

greatest_of-given_in : (o : Option ℕ) → greatest_of (given_in o) ≡ o
greatest_of-given_in None = refl
greatest_of-given_in (Some s) = ap (λ (n : ℕ). Some n) (omega arith)

module _ (config : Configuration) (past : List Event) (at m w : ℕ) where
  -- the life that the machine is in
  abbrev life : Life
  life = life_at past m

  module _ (a : Arrival) (reading : Interval) (there : w < config.workers)
      (unqueued : is_queued config past life w ≡ false) (asked : arrival_of past life w ≡ Some a) (since : reading_since config past life w ≡ Some reading) where
    -- the task of the worker by what is known of it
    abbrev task_if : Bool → Option Arrival → Bool → Option (Result ℕ StampFault) → Option Task
    task_if queued arrival own stamping =
        cond queued None (task_with arrival (cond own (option_or (stamp_given stamping) (stamp_held config past life w)) (stamp_held config past life w)))

    -- a worker with this task
    abbrev with_task : Option Task → Worker → Worker
    with_task task worker = record worker { task = task }

    module _ (made : Result ℕ StampFault) (is : stamp_of (stamps_of config past life) reading.hi a.floor (lease_of past m) ≡ made) where
      stamping_is : stamping_of config past life w ≡ Some made
      stamping_is = ap₂ (stamping_after (stamps_of config past life) (lease_of past m)) asked since ∙ ap (λ (r : Result ℕ StampFault). Some r) is

      row_is : stamps_after config past life (stamps_of config past life) (Some w) ≡ with_stamp (stamps_of config past life) (stamp_given (Some made))
      row_is = ap (λ (o : Option (Result ℕ StampFault)). with_stamp (stamps_of config past life) (stamp_given o)) stamping_is

      task_is : task_if (is_queued config past life w) (arrival_of past life w) (eqb w w) (stamping_of config past life w) ≡ task_if false (Some a) true (Some made)
      task_is =
          ap (λ (q : Bool). task_if q (arrival_of past life w) (eqb w w) (stamping_of config past life w)) unqueued
          ∙ ap (λ (o : Option Arrival). task_if false o (eqb w w) (stamping_of config past life w)) asked
          ∙ ap (λ (b : Bool). task_if false (Some a) b (stamping_of config past life w)) (eq-eqb w w refl)
          ∙ ap (task_if false (Some a) true) stamping_is

    workers_if_given : (s : ℕ) → stamp_of (stamps_of config past life) reading.hi a.floor (lease_of past m) ≡ Ok s
        → set (map (λ v. worker_of config past life v) (range_with_len 0 config.workers)) w
        (with_task (Some (Stamped a.id s)) (get_or (map (λ v. worker_of config past life v) (range_with_len 0 config.workers)) w new_worker))
        ≡ map (λ v. worker_if_stamped config past life v (eqb w v) (stamping_of config past life v)) (range_with_len 0 config.workers)
    workers_if_given s is =
        set-made (λ v. worker_of config past life v) (λ v. worker_if_stamped config past life v (eqb w v) (stamping_of config past life v)) config.workers w _
        (ap (with_task (Some (Stamped a.id s))) (get_or-made (λ v. worker_of config past life v) config.workers w new_worker there)
        ∙ sym (ap (λ (task : Option Task). with_task task (worker_of config past life w)) (task_is (Ok s) is)))
        (λ v other. sym (ap (λ (b : Bool). worker_if_stamped config past life v b (stamping_of config past life v)) (ne_eqb w v (λ same. other (sym same)))))

    same_if_refused : (v : ℕ) (e : StampFault) (own : Bool) → worker_if_stamped config past life v own (Some (Err e)) ≡ worker_of config past life v
    same_if_refused v e true = refl
    same_if_refused v e false = refl

    workers_if_refused : (e : StampFault) → stamp_of (stamps_of config past life) reading.hi a.floor (lease_of past m) ≡ Err e
        → map (λ v. worker_of config past life v) (range_with_len 0 config.workers)
        ≡ map (λ v. worker_if_stamped config past life v (eqb w v) (stamping_of config past life v)) (range_with_len 0 config.workers)
    workers_if_refused e is =
        map-same (λ v. worker_of config past life v) (λ v. worker_if_stamped config past life v (eqb w v) (stamping_of config past life v)) config.workers
        (λ v. elim (cases_eq w v) [
          | inl same ↦
              subst (λ (j : ℕ). worker_of config past life j ≡ worker_if_stamped config past life j (eqb w j) (stamping_of config past life j)) same
              (sym (ap (worker_if_stamped config past life w (eqb w w)) (stamping_is (Err e) is) ∙ same_if_refused w e (eqb w w)))
          | inr other ↦ sym (ap (λ (b : Bool). worker_if_stamped config past life v b (stamping_of config past life v)) (ne_eqb w v other))
        ])

    -- the machine with this row and these workers, and the reply
    abbrev replied : Option ℕ → List Worker → Reply → Turn MachineState
    replied row workers reply = record { state = record (machine_of config past life) { row = row; workers = workers }; reply = reply }

    stamp_turn-by : (made : Result ℕ StampFault) → stamp_of (stamps_of config past life) reading.hi a.floor (lease_of past m) ≡ made
        → stamp_turn (machine_of config past life) w a.id made
        ≡ record { state = machine_if_stamped config past w life true; reply = stamping_reply (stamping_of config past life w) }
    stamp_turn-by (Ok s) is =
        ap₂ (λ (row : Option ℕ) (workers : List Worker). replied row workers (replies.Stamped s))
        (sym (ap greatest_of (row_is (Ok s) is) ∙ greatest_of-given (stamps_of config past life) reading.hi a.floor (lease_of past m) s is)) (workers_if_given s is)
        ∙ ap (λ (reply : Reply). record { state = machine_if_stamped config past w life true; reply = reply }) (sym (ap stamping_reply (stamping_is (Ok s) is)))
    stamp_turn-by (Err e) is =
        ap₂ (λ (row : Option ℕ) (workers : List Worker). replied row workers (stamping_reply (Some (Err e))))
        (sym (ap greatest_of (row_is (Err e) is))) (workers_if_refused e is)
        ∙ ap (λ (reply : Reply). record { state = machine_if_stamped config past w life true; reply = reply }) (sym (ap stamping_reply (stamping_is (Err e) is)))

    pub stamp_turn-machine_of : stamp_turn (machine_of config past life) w a.id (stamp_of (given_in (greatest_of (stamps_of config past life))) reading.hi a.floor (lease_of past m))
        ≡ record { state = machine_of config (happens at (Stamp m w) ∷ past) life; reply = stamping_reply (stamping_of config past life w) }
    stamp_turn-machine_of =
        ap (stamp_turn (machine_of config past life) w a.id) (stamp_of-same_greatest (given_in (greatest_of (stamps_of config past life))) (stamps_of config past life) reading.hi a.floor (lease_of past m) (greatest_of-given_in (greatest_of (stamps_of config past life))))
        ∙ stamp_turn-by (stamp_of (stamps_of config past life) reading.hi a.floor (lease_of past m)) refl
        ∙ ap (λ (machine : MachineState). record { state = machine; reply = stamping_reply (stamping_of config past life w) })
        (sym (machine_of-stamp config past at m w life ∙ ap (machine_if_stamped config past w life) (is_of-own past m)))

  pub machine_of-stamp_other : (j : ℕ) → (j ≡ m → ⊥) → machine_of config past (life_at past j) ≡ machine_of config (happens at (Stamp m w) ∷ past) (life_at past j)
  machine_of-stamp_other j other =
      sym (machine_of-stamp config past at m w (life_at past j) ∙ ap (machine_if_stamped config past w (life_at past j)) (is_of-other past m j other))
