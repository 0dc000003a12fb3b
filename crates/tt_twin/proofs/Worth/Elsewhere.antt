-- A twin reads no clock but that of its machine.
use Rattle.std.proofs.Common.{◌≡◌, ℕ, zero, suc, ◌≤◌, Bool, false, cond, eqb, ◌&&◌, List, [], ◌∷◌, ◌++◌, Option, Some, refl, ap, ◌∙◌, arith, ne_eqb}
use Rattle.std.specs.Option.{option_map}
use Rattle.tt_span.specs.Interval.{Interval}
use Rattle.tt_span.specs.Drift.{max_drift, Moment}
use Rattle.tt_daemon.specs.Config.{Configuration}
use Rattle.tt_world.specs.Config.{config_at}
use Rattle.tt_world.specs.Life.{Life, life_of, life_at}
use Rattle.tt_world.specs.declared.events.Event.{Event}
use Rattle.tt_world.specs.declared.packets.Packet.{Packet}
use Rattle.tt_world.specs.Packet.{machine_of_packet}
use Rattle.tt_world.specs.Past.{moment_at, moments_of}
use Rattle.tt_twin.specs.declared.twins.Side.{Side}
use Rattle.tt_twin.specs.Looks.{Look}
use Rattle.tt_twin.proofs.Worth.Planning.{Plan, polled, answered, delivered}
use Rattle.tt_twin.proofs.Worth.Delivering.{delivered-there}
use Rattle.tt_twin.proofs.Worth.Merging.{IsPlanFor}
use Rattle.tt_twin.proofs.Worth.Beginning.{fused}
use Rattle.tt_twin.proofs.Worth.Looking.{reads}

-- a reading of the clock of this machine is no moment of another's
no_moment : (p : Plan) (past : List Event) (life : Life) (at clock : ℕ) → (p.machine ≡ life.machine → ⊥) → moment_at life at (Some (record { life = life_at past p.machine; clock = clock })) ≡ []
no_moment p past life at clock other =
    let differ : eqb p.machine life.machine ≡ false = ne_eqb p.machine life.machine other in
    ap (λ (b : Bool). cond (b && eqb (life_of past p.machine) life.number) (record { clock = clock; time = at } ∷ []) []) differ

module _ (p : Plan) (life : Life) (other : p.machine ≡ life.machine → ⊥) where
  polled-elsewhere : (j : ℕ) → moments_of (polled p j) life ≡ []
  polled-elsewhere zero = refl
  polled-elsewhere (suc j) = ap (λ (l : List Moment). l ++ moments_of (polled p j) life) (no_moment p (polled p j) life p.time p.clock other) ∙ polled-elsewhere j

  answered-elsewhere : (j : ℕ) → moments_of (answered p j) life ≡ []
  answered-elsewhere zero = polled-elsewhere p.count
  answered-elsewhere (suc j) = answered-elsewhere j

  delivered-elsewhere : (j : ℕ) → j ≤ p.count → moments_of (delivered p j) life ≡ []
  delivered-elsewhere zero few = answered-elsewhere p.count
  delivered-elsewhere (suc j) few =
      ap (λ (o : Option Packet). moment_at life p.time (option_map (λ q. record { life = life_at (delivered p j) (machine_of_packet q); clock = p.clock }) o) ++ moments_of (delivered p j) life) (delivered-there p j j (omega arith))
      ∙ ap (λ (l : List Moment). l ++ moments_of (delivered p j) life) (no_moment p (delivered p j) life p.time p.clock other) ∙ delivered-elsewhere j (omega arith)

  fused-elsewhere : moments_of (fused p) life ≡ []
  fused-elsewhere = ap (λ (l : List Moment). l ++ moments_of (delivered p p.count) life) (no_moment p (delivered p p.count) life p.time p.clock other) ∙ delivered-elsewhere p.count (omega arith)

-- nor is any moment of the whole twin
pub reads-elsewhere : (configs : List Configuration) (p : Plan) (side : Side) (spans : List Interval) (knew : ℕ → Bool) (fusion : Interval) (h : IsPlanFor configs p side spans knew fusion) (few : (config_at configs p.machine).drift ≤ max_drift) (life : Life) →
    (p.machine ≡ life.machine → ⊥) → (looks : List Look) → moments_of (reads configs p side spans knew fusion h few looks) life ≡ []
reads-elsewhere configs p side spans knew fusion h few life other [] = fused-elsewhere p life other
reads-elsewhere configs p side spans knew fusion h few life other (look ∷ looks) =
    ap (λ (l : List Moment). l ++ moments_of (reads configs p side spans knew fusion h few looks) life) (no_moment p (reads configs p side spans knew fusion h few looks) life _ look.clock other)
    ∙ reads-elsewhere configs p side spans knew fusion h few life other looks
