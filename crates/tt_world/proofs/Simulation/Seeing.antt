-- A machine whose worker reads keeps what its past says.
use Rattle.std.proofs.Common.{◌≡◌, ℕ, ◌<◌, ◌≤◌, max, eqb, List, ◌∷◌, map, get_or, set, Some, refl, sym, ap, ◌∙◌, arith, eq-eqb, ne_eqb}
use Rattle.std.specs.List.{range_with_len}
use Rattle.tt_span.specs.Interval.{Interval}
use Rattle.tt_world.proofs.Simulation.Lives.{is_of-own, is_of-other}
use Rattle.tt_world.specs.Life.{Life, life_at}
use Rattle.tt_world.specs.declared.events.Event.{Event}
use Rattle.tt_world.specs.declared.events.Action.TheVariants.{Read}
use Rattle.tt_world.specs.declared.events.Reply.TheVariants as replies
use Rattle.tt_world.specs.declared.workers.Worker.{Worker}
use Rattle.tt_daemon.specs.Config.{Configuration}
use Rattle.tt_world.specs.Publications.{publications_of, seen_of, publication_at}
use Rattle.tt_world.specs.Private.Machine.{MachineState, worker_of, machine_of}
use Rattle.tt_world.specs.Private.Step.{new_worker, read_turn}
use Rattle.tt_world.proofs.Simulation.Ranges.{get_or-made, set-made}
use Rattle.tt_world.proofs.Simulation.Waiting.{happens}
use Rattle.tt_world.proofs.Simulation.Kept.{reading_from, worker_if_reads, machine_of-read, machine_if_read}

module _ (config : Configuration) (past : List Event) (at m w clock k : ℕ) where
  -- the life that the machine is in
  abbrev life : Life
  life = life_at past m

  -- the reading
  abbrev reading : Interval
  reading = reading_from config past life clock k

  -- a worker that has read it from a publication of this number
  abbrev that_read : ℕ → Worker → Worker
  that_read seen worker = record worker { seen = seen; reading = Some reading; since = Some reading }

  workers_after : seen_of past life w ≤ k → w < config.workers
      → set (map (λ v. worker_of config past life v) (range_with_len 0 config.workers)) w
      (that_read k (get_or (map (λ v. worker_of config past life v) (range_with_len 0 config.workers)) w new_worker))
      ≡ map (λ v. worker_if_reads config past k reading life v (eqb w v)) (range_with_len 0 config.workers)
  workers_after newer there =
      let greater : k ≡ max k (seen_of past life w) = omega arith in
      set-made (λ v. worker_of config past life v) (λ v. worker_if_reads config past k reading life v (eqb w v)) config.workers w _
      (ap (that_read k) (get_or-made (λ v. worker_of config past life v) config.workers w new_worker there)
      ∙ ap (λ (seen : ℕ). that_read seen (worker_of config past life w)) greater
      ∙ sym (ap (worker_if_reads config past k reading life w) (eq-eqb w w refl)))
      (λ v other. sym (ap (worker_if_reads config past k reading life v) (ne_eqb w v (λ same. other (sym same)))))

  pub read_turn-machine_of : seen_of past life w ≤ k → w < config.workers
      → read_turn (machine_of config past life) w clock k (publication_at (publications_of config past life) k)
      ≡ record { state = machine_of config (happens at (Read m w clock k) ∷ past) life; reply = replies.Read reading }
  read_turn-machine_of newer there =
      ap (λ (machine : MachineState). record { state = machine; reply = replies.Read reading })
      (ap (λ (workers : List Worker). record (machine_of config past life) { clock = clock; workers = workers }) (workers_after newer there)
      ∙ sym (machine_of-read config past at m w clock k life ∙ ap (machine_if_read config past w clock k life) (is_of-own past m)))

  pub machine_of-read_other : (j : ℕ) → (j ≡ m → ⊥) → machine_of config past (life_at past j) ≡ machine_of config (happens at (Read m w clock k) ∷ past) (life_at past j)
  machine_of-read_other j other =
      sym (machine_of-read config past at m w clock k (life_at past j) ∙ ap (machine_if_read config past w clock k (life_at past j)) (is_of-other past m j other))
