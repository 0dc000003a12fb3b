-- A machine whose worker is asked for a commit keeps what its past says.
use Rattle.std.proofs.Common.{◌≡◌, ℕ, ◌<◌, eqb, List, ◌∷◌, map, get_or, set, Some, None, refl, sym, ap, ◌∙◌, eq-eqb, ne_eqb}
use Rattle.std.specs.List.{range_with_len}
use Rattle.tt_stamp.specs.declared.commits.Id.{Id}
use Rattle.tt_world.proofs.Simulation.Lives.{is_of-own, is_of-other}
use Rattle.tt_world.specs.Life.{Life, life_at}
use Rattle.tt_world.specs.declared.events.Event.{Event}
use Rattle.tt_world.specs.declared.events.Action.TheVariants.{Arrive}
use Rattle.tt_world.specs.declared.events.Reply.TheVariants as replies
use Rattle.tt_world.specs.declared.workers.Arrival.{Arrival}
use Rattle.tt_world.specs.declared.workers.Task.TheVariants.{Arrived}
use Rattle.tt_world.specs.declared.workers.Worker.{Worker}
use Rattle.tt_daemon.specs.Config.{Configuration}
use Rattle.tt_world.specs.Private.Machine.{MachineState, worker_of, machine_of}
use Rattle.tt_world.specs.Private.Step.{new_worker, arrive_turn}
use Rattle.tt_world.proofs.Simulation.Ranges.{get_or-made, set-made}
use Rattle.tt_world.proofs.Simulation.Waiting.{happens}
use Rattle.tt_world.proofs.Simulation.Kept.{worker_if_asked, machine_of-arrive, machine_if_asked}

module _ (config : Configuration) (past : List Event) (at m w : ℕ) (id : Id) (floor : ℕ) where
  -- the life that the machine is in
  abbrev life : Life
  life = life_at past m

  -- the commit that the worker is asked for
  abbrev arrival : Arrival
  arrival = record { id = id; floor = floor }

  -- a worker that is asked for it
  abbrev that_is_asked : Worker → Worker
  that_is_asked worker = record worker { task = Some (Arrived arrival); since = None }

  workers_after : w < config.workers
      → set (map (λ v. worker_of config past life v) (range_with_len 0 config.workers)) w
      (that_is_asked (get_or (map (λ v. worker_of config past life v) (range_with_len 0 config.workers)) w new_worker))
      ≡ map (λ v. worker_if_asked config past arrival life v (eqb w v)) (range_with_len 0 config.workers)
  workers_after there =
      set-made (λ v. worker_of config past life v) (λ v. worker_if_asked config past arrival life v (eqb w v)) config.workers w _
      (ap that_is_asked (get_or-made (λ v. worker_of config past life v) config.workers w new_worker there)
      ∙ sym (ap (worker_if_asked config past arrival life w) (eq-eqb w w refl)))
      (λ v other. sym (ap (worker_if_asked config past arrival life v) (ne_eqb w v (λ same. other (sym same)))))

  pub arrive_turn-machine_of : w < config.workers
      → arrive_turn (machine_of config past life) w (record { id = id; floor = floor })
      ≡ record { state = machine_of config (happens at (Arrive m w id floor) ∷ past) life; reply = replies.Arrived }
  arrive_turn-machine_of there =
      ap (λ (machine : MachineState). record { state = machine; reply = replies.Arrived })
      (ap (λ (workers : List Worker). record (machine_of config past life) { workers = workers }) (workers_after there)
      ∙ sym (machine_of-arrive config past at m w id floor life ∙ ap (machine_if_asked config past arrival w life) (is_of-own past m)))

  pub machine_of-arrive_other : (j : ℕ) → (j ≡ m → ⊥) → machine_of config past (life_at past j) ≡ machine_of config (happens at (Arrive m w id floor) ∷ past) (life_at past j)
  machine_of-arrive_other j other =
      sym (machine_of-arrive config past at m w id floor (life_at past j) ∙ ap (machine_if_asked config past arrival w (life_at past j)) (is_of-other past m j other))
