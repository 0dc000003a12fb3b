-- The assumptions hold exactly where no event breaks one.
use Rattle.std.proofs.Common.{◌≡◌, ◌↔◌, ℕ, ◌<◌, Bool, true, false, cond, List, [], ◌∷◌, ◌++◌, length, slice_get, is_some, Option, Some, None, refl, subst, ap, ltb-true}
use Rattle.std.specs.Prelude.{nat_le}
use Rattle.std.specs.List.{AllByRecursion}
use Rattle.std.specs.Option.{option_or, option_map}
use Rattle.std.proofs.lemmas.Option.{same_Some}
use Rattle.std.proofs.lemmas.Bool.{and_parts, not-false, leb-true, le-leb}
use Rattle.tt_span.specs.Drift.{Moment, AgreesWith, KeepsDrift, distance, widening}
use Rattle.tt_world.proofs.Simulation.Lives.{same_life-true, same_life-own}
use Rattle.tt_world.specs.Life.{Life, life_at, same_life}
use Rattle.tt_world.specs.declared.breaches.Breach.{Breach}
use Rattle.tt_world.specs.declared.events.Event.{Event}
use Rattle.tt_world.specs.declared.events.Action.{Action}
use Rattle.tt_world.specs.declared.events.Action.TheVariants.{Send, Deliver, Fuse, Read, Restart}
use Rattle.tt_world.specs.declared.faults.WorldFault.{WorldFault}
use Rattle.tt_world.specs.declared.packets.Packet.{Packet}
use Rattle.tt_daemon.specs.Config.{Configuration}
use Rattle.tt_world.specs.Config.{config_at}
use Rattle.tt_world.specs.Packet.{machine_of_packet}
use Rattle.tt_world.specs.Past.{packets_of, ClockReading, clock_reading, moment_at, moments_of}
use Rattle.tt_world.specs.Bad.{has_source, has_worker, has_machine, names_unknown, first_bad, accepted}
use Rattle.tt_world.specs.Assumptions.{false_count, HasFewFalse, FewLie, ClocksKeepDrift, MeetsAssumptions, agrees_with_all, drift_breach, falsity_breach, NoBreach}
use Rattle.tt_world.proofs.Histories.Judging.{good_of}
use Rattle.tt_world.proofs.Histories.Lasting.{HasItsSource, All-slice_get, Lasts, Lasts-accepted}

-- ---- the drift bound

agrees-true : (ppm : ℕ) (moment : Moment) (others : List Moment) → agrees_with_all ppm moment others ≡ true → AllByRecursion (AgreesWith ppm moment) others
agrees-true ppm moment [] h = tt
agrees-true ppm moment (other ∷ others) h =
    let parts = and_parts _ _ h in
    (leb-true _ _ parts.0, agrees-true ppm moment others parts.1)

true-agrees : (ppm : ℕ) (moment : Moment) (others : List Moment) → AllByRecursion (AgreesWith ppm moment) others → agrees_with_all ppm moment others ≡ true
true-agrees ppm moment [] h = refl
true-agrees ppm moment (other ∷ others) h =
    let here : nat_le (distance (distance moment.clock other.clock) (distance moment.time other.time)) (widening ppm (distance moment.clock other.clock)) ≡ true = le-leb _ _ h.0 in
    rw (here, true-agrees ppm moment others h.1) refl

passes : (b : Bool) (breach : Breach) → cond b None (Some breach) ≡ None → b ≡ true
passes true breach h = refl
passes false breach h = absurd cc

module _ (configs : List Configuration) (past : List Event) (at : ℕ) where
  abbrev Before : Life → Type 0
  Before life = KeepsDrift (config_at configs life.machine).drift (moments_of past life)

  abbrev After : Option ClockReading → Life → Type 0
  After reading life = KeepsDrift (config_at configs life.machine).drift (moment_at life at reading ++ moments_of past life)

  -- what is known of the reading in a life, whose clock this is or is not
  before_one : (reading : ClockReading) (life : Life) (b : Bool) → KeepsDrift (config_at configs life.machine).drift (cond b (record { clock = reading.clock; time = at } ∷ []) [] ++ moments_of past life) → Before life
  before_one reading life true h = h.1
  before_one reading life false h = h

  after_one : (reading : ClockReading) (life : Life) (b : Bool) → same_life reading.life life ≡ b
      → AllByRecursion (AgreesWith (config_at configs reading.life.machine).drift (record { clock = reading.clock; time = at })) (moments_of past reading.life) → Before life
      → KeepsDrift (config_at configs life.machine).drift (cond b (record { clock = reading.clock; time = at } ∷ []) [] ++ moments_of past life)
  after_one reading life true same agrees before =
      let e : reading.life ≡ life = same_life-true _ _ same in
      (subst (λ (k : Life). AllByRecursion (AgreesWith (config_at configs k.machine).drift (record { clock = reading.clock; time = at })) (moments_of past k)) e agrees, before)
  after_one reading life false same agrees before = before

  drift_part : (reading : Option ClockReading) → ((r : ClockReading) → reading ≡ Some r → r.life.machine < length configs)
      → ((life : Life) → life.machine < length configs → After reading life) ↔ (((life : Life) → life.machine < length configs → Before life) × (drift_breach configs past at reading ≡ None))
  drift_part None there = (λ h. (h, refl), λ h. h.0)
  drift_part (Some reading) there = (
    λ h.
        let own = subst (λ (b : Bool). KeepsDrift (config_at configs reading.life.machine).drift (cond b (record { clock = reading.clock; time = at } ∷ []) [] ++ moments_of past reading.life)) (same_life-own reading.life) (h reading.life (there reading refl)) in
        let agrees : agrees_with_all (config_at configs reading.life.machine).drift (record { clock = reading.clock; time = at }) (moments_of past reading.life) ≡ true = true-agrees _ _ _ own.0 in
        (λ life inside. before_one reading life (same_life reading.life life) (h life inside), rw agrees refl),
    λ h life inside. after_one reading life (same_life reading.life life) refl (agrees-true _ _ _ (passes _ _ h.1)) (h.0 life inside),
  )

  -- ---- false statements

  falsity_part : (action : Action) → HasFewFalse configs past action ↔ (falsity_breach configs past action ≡ None)
  falsity_part (Fuse m clock) = (
    λ h. let few : nat_le (false_count (config_at configs m) past (life_at past m)) (config_at configs m).faulty ≡ true = le-leb _ _ h in rw few refl,
    λ h. leb-true _ _ (passes _ _ h),
  )
  falsity_part _ = (λ h. refl, λ h. tt)

-- ---- one event

both_none : (a b : Option Breach) → option_or a b ≡ None → (a ≡ None) × (b ≡ None)
both_none None b h = (refl, h)
both_none (Some breach) b h = absurd cc

none_both : (a b : Option Breach) → a ≡ None → b ≡ None → option_or a b ≡ None
none_both a b h k = rw (h, k) refl

same_reading : (a b : ClockReading) → Some a ≡ Some b → a.life.machine ≡ b.life.machine
same_reading a b h = ap (λ (r : ClockReading). r.life.machine) (same_Some a b h)

module _ (configs : List Configuration) (past : List Event) (lasts : Lasts configs past) (at : ℕ) where
  -- the machine whose clock an event reads is there
  known_delivered : (clock : ℕ) (o : Option Packet) (k : ℕ) → slice_get (packets_of past) k ≡ o
      → (r : ClockReading) → option_map (λ p. record { life = life_at past (machine_of_packet p); clock = clock }) o ≡ Some r → r.life.machine < length configs
  known_delivered clock None k e r h = absurd cc
  known_delivered clock (Some packet) k e r h =
      let named = and_parts _ _ (All-slice_get (HasItsSource configs) (packets_of past) k packet lasts.known e) in
      let there : machine_of_packet packet < length configs = ltb-true _ _ named.0 in
      subst (λ (m : ℕ). m < length configs) (same_reading _ r h) there

  known_clock : (action : Action) → names_unknown configs action ≡ false → (r : ClockReading) → clock_reading past action ≡ Some r → r.life.machine < length configs
  known_clock (Send m s clock) named r h =
      let parts = and_parts _ _ (not-false (has_source configs m s) named) in
      subst (λ (k : ℕ). k < length configs) (same_reading _ r h) (ltb-true m _ parts.0)
  known_clock (Deliver k clock) named r h = known_delivered clock _ k refl r h
  known_clock (Fuse m clock) named r h = subst (λ (k : ℕ). k < length configs) (same_reading _ r h) (ltb-true m _ (not-false (has_machine configs m) named))
  known_clock (Restart m clock) named r h = subst (λ (k : ℕ). k < length configs) (same_reading _ r h) (ltb-true m _ (not-false (has_machine configs m) named))
  known_clock (Read m w clock k) named r h =
      let parts = and_parts _ _ (not-false (has_worker configs m w) named) in
      subst (λ (k : ℕ). k < length configs) (same_reading _ r h) (ltb-true m _ parts.0)
  known_clock _ named r h = absurd cc

module _ (configs : List Configuration) (past : List Event) (event : Event) where
  abbrev Holds : List Event → Type 0
  Holds events = ClocksKeepDrift configs events × FewLie configs events

  one_more : (o : Option WorldFault) → first_bad configs (accepted configs past) event ≡ o
      → Holds (cond (is_some o) (accepted configs past) (event ∷ accepted configs past))
      ↔ (Holds (accepted configs past) × (cond (is_some o) None
      (option_or (drift_breach configs (accepted configs past) event.at (clock_reading (accepted configs past) event.action)) (falsity_breach configs (accepted configs past) event.action)) ≡ None))
  one_more (Some fault) is = (λ h. (h, refl), λ h. h.0)
  one_more None is =
      let before : List Event = accepted configs past in
      let good = good_of configs before event is in
      let drift = drift_part configs before event.at (clock_reading before event.action) (known_clock configs before (Lasts-accepted configs past) event.at event.action good.named) in
      let falsity = falsity_part configs before event.at event.action in (
        λ h. let d = drift.0 h.0 in ((d.0, h.1.1), none_both _ _ d.1 (falsity.0 h.1.0)),
        λ h. let b = both_none _ _ h.1 in (drift.1 (h.0.0, b.0), (falsity.1 b.1, h.0.1)),
      )

pub meets-no_breach : (configs : List Configuration) (past : List Event) → MeetsAssumptions configs past ↔ NoBreach configs past
meets-no_breach configs [] = (λ h. tt, λ h. record { clocks = λ m there. tt; sources = tt })
meets-no_breach configs (event ∷ past) =
    let before = meets-no_breach configs past in
    let one = one_more configs past event (first_bad configs (accepted configs past) event) refl in (
      λ h. let parts = one.0 (h.clocks, h.sources) in (parts.1, before.0 (record { clocks = parts.0.0; sources = parts.0.1 })),
      λ h. let kept = before.1 h.1 in let all = one.1 ((kept.clocks, kept.sources), h.0) in record { clocks = all.0; sources = all.1 },
    )
