-- A machine that is granted a lease keeps what its past says.
use Rattle.std.proofs.Common.{◌≡◌, refl, ℕ, Bool, List, ◌∷◌, cond, Some, None, sym, ap, ◌∙◌, eq-eqb, ne_eqb}
use Rattle.std.specs.Prelude.{unwrap_or}
use Rattle.tt_span.specs.Interval.{Interval}
use Rattle.tt_world.specs.declared.events.Event.{Event}
use Rattle.tt_world.specs.declared.events.Action.TheVariants.{Lease}
use Rattle.tt_world.specs.declared.events.Reply.TheVariants as replies
use Rattle.tt_daemon.specs.Config.{Configuration}
use Rattle.tt_world.specs.Life.{life_at}
use Rattle.tt_world.specs.Lease.{lease_of}
use Rattle.tt_world.specs.Private.Machine.{MachineState, machine_of}
use Rattle.tt_world.specs.Private.Step.{lease_turn}
use Rattle.tt_world.proofs.Simulation.Waiting.{happens}
use Rattle.tt_world.proofs.Simulation.Kept.{machine_of-lease}

module _ (config : Configuration) (past : List Event) (at m : ℕ) (lease : Interval) where
  -- machine j with the lease that it is granted here, or the one that it had
  abbrev leased : ℕ → Bool → MachineState
  leased j here = record (machine_of config past (life_at past j)) { lease = unwrap_or (cond here (Some lease) None) (lease_of past j) }

  pub lease_turn-machine_of : lease_turn (machine_of config past (life_at past m)) lease
      ≡ record { state = machine_of config (happens at (Lease m lease) ∷ past) (life_at past m); reply = replies.Leased }
  lease_turn-machine_of =
      ap (λ (machine : MachineState). record { state = machine; reply = replies.Leased })
      (sym (machine_of-lease config past at m lease (life_at past m) ∙ ap (leased m) (eq-eqb m m refl)))

  pub machine_of-lease_other : (j : ℕ) → (j ≡ m → ⊥) → machine_of config past (life_at past j) ≡ machine_of config (happens at (Lease m lease) ∷ past) (life_at past j)
  machine_of-lease_other j other =
      sym (machine_of-lease config past at m lease (life_at past j) ∙ ap (leased j) (ne_eqb m j (λ same. other (sym same))))
