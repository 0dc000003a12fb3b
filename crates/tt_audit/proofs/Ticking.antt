-- What is kept of the clocks is what is defined of their moments.
use Rattle.std.proofs.Common.{◌≡◌, ℕ, ◌+◌, ◌<◌, ◌≤◌, Bool, true, false, not, cond, eqb, ◌&&◌, List, [], ◌∷◌, ◌++◌, length, set, slice_get, Option, Some, None, IfSome, inl, inr, refl, ap, ap₂, ◌∙◌, sym, arith, eq-eqb, ne_eqb, length-set}
use Rattle.std.specs.Option.{option_map}
use Rattle.std.specs.List.{AllByRecursion}
use Rattle.std.proofs.lemmas.Bool.{cases_eq, eqb-true, or_parts, ltb-false}
use Rattle.std.proofs.lemmas.List.{get_or-set_other}
use Rattle.std.proofs.lemmas.Grind.{get_or-set_at}
use Rattle.tt_span.specs.Time.{max_time}
use Rattle.tt_span.specs.Drift.{Moment}
use Rattle.tt_daemon.specs.Config.{Configuration}
use Rattle.tt_world.specs.Config.{config_at}
use Rattle.tt_world.specs.declared.breaches.Breach.TheVariants.{Drift}
use Rattle.tt_world.specs.declared.events.Event.{Event}
use Rattle.tt_world.specs.declared.events.Action.{Action}
use Rattle.tt_world.specs.declared.events.Action.TheVariants.{Send, Deliver, Fuse, Read, Restart}
use Rattle.tt_world.specs.declared.packets.Packet.{Packet}
use Rattle.tt_world.specs.Life.{Life, restarts, life_of, next_life, life_at, same_life}
use Rattle.tt_world.specs.Packet.{machine_of_packet}
use Rattle.tt_world.specs.Past.{time_of, packets_of, ClockReading, clock_reading, clock_after, clock_of, moment_at, moments_of}
use Rattle.tt_world.specs.Bad.{can_be_delivered, lacks_packet, goes_back}
use Rattle.tt_world.specs.Assumptions.{drift_breach}
use Rattle.tt_world.proofs.Simulation.Lives.{life_of-on, is_of-unborn}
use Rattle.tt_world.proofs.Histories.Judging.{AreGood}
use Rattle.tt_world.proofs.Histories.Clocks.{clock_on}
use Rattle.tt_audit.specs.declared.packets.Carried.{Carried}
use Rattle.tt_audit.specs.declared.packets.Tick.{Tick}
use Rattle.tt_audit.specs.declared.paces.Pace.{Pace}
use Rattle.tt_audit.specs.Pace.{pace_after, pace_of, is_in_pace}
use Rattle.tt_audit.specs.Watch.{carried_of, tick_for, tick_of, no_moment, pace_at, paces_begun, paces_after, drift_seen}
use Rattle.tt_audit.proofs.Pacing.{IsAfter, agrees-in_pace}
use Rattle.tt_audit.proofs.Carrying.{carried-at}

-- ---- a tick is a reading of the clock

-- the reading of a clock that a tick is, in the life that its machine is in after an event
abbrev pub reading_of_tick : List Event → Tick → ClockReading
reading_of_tick past tick = record { life = life_at past tick.machine; clock = tick.clock }

module _ (past : List Event) where
  delivered_tick : (p clock : ℕ) (o : Option Packet) → slice_get (packets_of past) p ≡ o → not (can_be_delivered o) ≡ false
      → option_map (λ packet. record { life = life_at past (machine_of_packet packet); clock = clock }) o
      ≡ option_map (reading_of_tick past) (tick_for clock (slice_get (carried_of past) p))
  delivered_tick p clock None e there = absurd cc
  delivered_tick p clock (Some packet) e there =
      ap (λ (o : Option Carried). option_map (reading_of_tick past) (tick_for clock o)) (sym (carried-at past p packet e))

  restarted : (machine clock at : ℕ) → next_life past machine ≡ life_at (record { at = at; action = Restart machine clock } ∷ past) machine
  restarted machine clock at =
      ap (λ (b : Bool). record { machine = machine; number = cond b (life_of past machine + 1) (life_of past machine) }) (sym (eq-eqb machine machine refl))

  pub clock_reading-tick : (at : ℕ) (action : Action) → lacks_packet (packets_of past) action ≡ false
      → clock_reading past action ≡ option_map (reading_of_tick (record { at = at; action = action } ∷ past)) (tick_of (carried_of past) action)
  clock_reading-tick at (Send machine source clock) there = refl
  clock_reading-tick at (Deliver p clock) there = delivered_tick p clock (slice_get (packets_of past) p) refl there
  clock_reading-tick at (Fuse machine clock) there = refl
  clock_reading-tick at (Read machine worker clock publication) there = refl
  clock_reading-tick at (Restart machine clock) there = ap (λ (life : Life). Some (record { life = life; clock = clock })) (restarted machine clock at)
  clock_reading-tick at _ there = refl

-- ---- moments of a life that has not begun

abbrev pub IsUnborn : List Event → Life → Type 0
IsUnborn past life = life_of past life.machine < life.number

-- a restart that begins another life than this
other_restart : (past : List Event) (machine : ℕ) (life : Life) (b : Bool) → eqb machine life.machine ≡ b → cond b (life_of past life.machine + 1) (life_of past life.machine) < life.number
    → b && eqb (life_of past machine + 1) life.number ≡ false
other_restart past machine life true e unborn =
    let same : machine ≡ life.machine = eqb-true machine life.machine e in
    let here : life_of past machine ≡ life_of past life.machine = ap (life_of past) same in
    ne_eqb (life_of past machine + 1) life.number (λ f. omega arith)
other_restart past machine life false e unborn = refl

module _ (past : List Event) (life : Life) (at : ℕ) (unborn : IsUnborn past life) where
  no_moment_of : (machine clock : ℕ) → moment_at life at (Some (record { life = life_at past machine; clock = clock })) ≡ []
  no_moment_of machine clock = ap (λ (b : Bool). cond b (record { clock = clock; time = at } ∷ []) []) (is_of-unborn past life machine unborn)

  no_moment_by_packet : (clock : ℕ) (o : Option Packet) → moment_at life at (option_map (λ p. record { life = life_at past (machine_of_packet p); clock = clock }) o) ≡ []
  no_moment_by_packet clock None = refl
  no_moment_by_packet clock (Some packet) = no_moment_of (machine_of_packet packet) clock

  no_moment_by : (action : Action) → cond (restarts life.machine action) (life_of past life.machine + 1) (life_of past life.machine) < life.number → moment_at life at (clock_reading past action) ≡ []
  no_moment_by (Send machine source clock) now = no_moment_of machine clock
  no_moment_by (Deliver packet clock) now = no_moment_by_packet clock (slice_get (packets_of past) packet)
  no_moment_by (Fuse machine clock) now = no_moment_of machine clock
  no_moment_by (Read machine worker clock publication) now = no_moment_of machine clock
  no_moment_by (Restart machine clock) now =
      ap (λ (b : Bool). cond b (record { clock = clock; time = at } ∷ []) []) (other_restart past machine life (eqb machine life.machine) refl now)
  no_moment_by _ now = refl

pub moments_of-unborn : (past : List Event) (life : Life) → IsUnborn past life → moments_of past life ≡ []
moments_of-unborn [] life unborn = refl
moments_of-unborn (event ∷ past) life unborn =
    let before : IsUnborn past life = omega (arith, life_of-on past event life.machine) in
    ap₂ (λ (a b : List Moment). a ++ b) (no_moment_by past life event.at before event.action unborn) (moments_of-unborn past life before)

-- ---- moments come one after the other

-- a moment that is no later than the clock and the true time now
abbrev IsPassed : List Event → Life → Moment → Type 0
IsPassed past life moment = (moment.clock ≤ clock_of past life) × (moment.time ≤ time_of past)

passed_on : (past : List Event) (event : Event) (life : Life) → clock_of past life ≤ clock_of (event ∷ past) life → time_of past ≤ event.at
    → (moments : List Moment) → AllByRecursion (IsPassed past life) moments → AllByRecursion (IsPassed (event ∷ past) life) moments
passed_on past event life clock time [] h = tt
passed_on past event life clock time (moment ∷ moments) h = ((omega (arith, h.0.0), omega (arith, h.0.1)), passed_on past event life clock time moments h.1)

passed_more : (past : List Event) (event : Event) (life : Life) (reading : Option ClockReading) → clock_reading past event.action ≡ reading → (moments : List Moment)
    → AllByRecursion (IsPassed (event ∷ past) life) moments → AllByRecursion (IsPassed (event ∷ past) life) (moment_at life event.at reading ++ moments)
passed_more past event life None e moments h = h
passed_more past event life (Some reading) e moments h = by_test (same_life reading.life life) refl
  where
    by_test : (b : Bool) → same_life reading.life life ≡ b
        → AllByRecursion (IsPassed (event ∷ past) life) (cond b (record { clock = reading.clock; time = event.at } ∷ []) [] ++ moments)
    by_test false f = h
    by_test true f =
        let shows : clock_of (event ∷ past) life ≡ reading.clock =
        ap (λ (r : Option ClockReading). clock_after life r (clock_of past life)) e ∙ ap (λ (b : Bool). cond b reading.clock (clock_of past life)) f in
        ((omega (arith, shows), omega arith), h)

pub moments-passed : (configs : List Configuration) (past : List Event) (life : Life) → AreGood configs past → AllByRecursion (IsPassed past life) (moments_of past life)
moments-passed configs [] life good = tt
moments-passed configs (event ∷ past) life good =
    passed_more past event life (clock_reading past event.action) refl (moments_of past life)
    (passed_on past event life (clock_on configs past event life good.0) good.0.not_before (moments_of past life) (moments-passed configs past life good.1))

-- a moment that is now comes after them all
after_passed : (past : List Event) (life : Life) (now : Moment) → clock_of past life ≤ now.clock → time_of past ≤ now.time → now.clock ≤ max_time → now.time ≤ max_time
    → (moments : List Moment) → AllByRecursion (IsPassed past life) moments → AllByRecursion (IsAfter now) moments
after_passed past life now clock time clock_in time_in [] h = tt
after_passed past life now clock time clock_in time_in (moment ∷ moments) h = (
  record { clock = omega (arith, h.0.0); time = omega (arith, h.0.1); clock_in = clock_in; time_in = time_in },
  after_passed past life now clock time clock_in time_in moments h.1,
)

-- ---- what is kept

-- what is kept is of the moments of each machine in its life after an event
abbrev pub KeepsPaces : List Configuration → List Event → List Event → List Pace → Type 0
KeepsPaces configs lives past paces = (m : ℕ) → m < 8 → pace_at paces m ≡ pace_of (config_at configs m).drift (moments_of past (life_at lives m))

-- one machine restarts
restarted-paces : (paces : List Pace) (machine m : ℕ) → length paces ≡ 8 → machine < 8 → (pace : Pace)
    → (machine ≡ m → pace ≡ no_moment) → ((machine ≡ m → ⊥) → pace ≡ pace_at paces m) → pace_at (set paces machine no_moment) m ≡ pace
restarted-paces paces machine m long here pace same other = elim (cases_eq machine m) [
  | inl e ↦ get_or-set_at paces machine m no_moment no_moment (sym e) (omega (arith, long)) ∙ sym (same e)
  | inr d ↦ get_or-set_other paces machine m no_moment no_moment (λ e. d (sym e)) ∙ sym (other d)
]

module _ (configs : List Configuration) (past : List Event) (at : ℕ) where
  abbrev Now : Action → List Event
  Now action = record { at = at; action = action } ∷ past

  begun-restart : (paces : List Pace) (machine clock : ℕ) → machine < 8 → length paces ≡ 8 → KeepsPaces configs past past paces → KeepsPaces configs (Now (Restart machine clock)) past (set paces machine no_moment)
  begun-restart paces machine clock here long keeps m inside =
      restarted-paces paces machine m long here (pace_of (config_at configs m).drift (moments_of past (life_at (Now (Restart machine clock)) m)))
      (λ same.
      let next : life_of (Now (Restart machine clock)) m ≡ life_of past m + 1 = ap (λ (b : Bool). cond b (life_of past m + 1) (life_of past m)) (eq-eqb machine m same) in
      ap (λ (ms : List Moment). pace_of (config_at configs m).drift ms) (moments_of-unborn past (life_at (Now (Restart machine clock)) m) (omega (arith, next))))
      (λ other.
      let stays : life_of (Now (Restart machine clock)) m ≡ life_of past m = ap (λ (b : Bool). cond b (life_of past m + 1) (life_of past m)) (ne_eqb machine m other) in
      ap (λ (n : ℕ). pace_of (config_at configs m).drift (moments_of past (record { machine = m; number = n }))) stays ∙ sym (keeps m inside))

  pub paces-begun : (paces : List Pace) (action : Action) → ((machine clock : ℕ) → action ≡ Restart machine clock → machine < 8) → length paces ≡ 8 → KeepsPaces configs past past paces
      → KeepsPaces configs (Now action) past (paces_begun paces action)
  paces-begun paces (Restart machine clock) there long keeps = begun-restart paces machine clock (there machine clock refl) long keeps
  paces-begun paces _ there long keeps = keeps

pub length-paces_begun : (paces : List Pace) (action : Action) → length (paces_begun paces action) ≡ length paces
length-paces_begun paces (Restart machine clock) = length-set paces machine no_moment
length-paces_begun paces _ = refl

pub length-ticked : (configs : List Configuration) (at : ℕ) (paces : List Pace) (tick : Option Tick) → length (paces_after configs at paces tick) ≡ length paces
length-ticked configs at paces None = refl
length-ticked configs at paces (Some tick) = length-set paces tick.machine _

-- whether a tick is of a machine, by its life
pub tick_is : (lives : List Event) (machine m : ℕ) → same_life (life_at lives machine) (life_at lives m) ≡ eqb machine m
tick_is lives machine m = elim (cases_eq machine m) [
  | inl same ↦
      let number : eqb (life_of lives machine) (life_of lives m) ≡ true = eq-eqb _ _ (ap (life_of lives) same) in
      ap₂ (λ (a b : Bool). a && b) (eq-eqb machine m same) number ∙ sym (eq-eqb machine m same)
  | inr other ↦ ap (λ (b : Bool). b && eqb (life_of lives machine) (life_of lives m)) (ne_eqb machine m other) ∙ sym (ne_eqb machine m other)
]

module _ (configs : List Configuration) (past lives : List Event) (at : ℕ) (paces : List Pace) (long : length paces ≡ 8) (keeps : KeepsPaces configs lives past paces) where
  -- what is kept of one machine more moment
  ticked-some : (tick : Tick) → tick.machine < 8 → (m : ℕ) → m < 8
      → pace_at (paces_after configs at paces (Some tick)) m
      ≡ pace_of (config_at configs m).drift (moment_at (life_at lives m) at (Some (reading_of_tick lives tick)) ++ moments_of past (life_at lives m))
  ticked-some tick there m inside =
      let now : Moment = record { clock = tick.clock; time = at } in
      let new : Pace = pace_after (config_at configs tick.machine).drift (pace_at paces tick.machine) now in
      elim (cases_eq tick.machine m) [
        | inl same ↦
            get_or-set_at paces tick.machine m new no_moment (sym same) (omega (arith, long))
            ∙ ap (λ (k : ℕ). pace_after (config_at configs k).drift (pace_at paces k) now) same
            ∙ ap (λ (pace : Pace). pace_after (config_at configs m).drift pace now) (keeps m inside)
            ∙ sym (ap (λ (b : Bool). pace_of (config_at configs m).drift (cond b (now ∷ []) [] ++ moments_of past (life_at lives m))) (tick_is lives tick.machine m ∙ eq-eqb tick.machine m same))
        | inr other ↦
            get_or-set_other paces tick.machine m new no_moment (λ e. other (sym e))
            ∙ keeps m inside
            ∙ sym (ap (λ (b : Bool). pace_of (config_at configs m).drift (cond b (now ∷ []) [] ++ moments_of past (life_at lives m))) (tick_is lives tick.machine m ∙ ne_eqb tick.machine m other))
      ]

  pub ticked-moments : (tick : Option Tick) → IfSome tick (λ t. t.machine < 8) → (m : ℕ) → m < 8
      → pace_at (paces_after configs at paces tick) m
      ≡ pace_of (config_at configs m).drift (moment_at (life_at lives m) at (option_map (reading_of_tick lives) tick) ++ moments_of past (life_at lives m))
  ticked-moments None there m inside = keeps m inside
  ticked-moments (Some tick) there m inside = ticked-some tick there m inside

  -- the breach that is seen is the breach that is defined
  pub drift-seen : (tick : Option Tick) → IfSome tick (λ t. t.machine < 8) → ((m : ℕ) → m < 8 → (config_at configs m).drift ≤ 1000000)
      → AreGood configs past → time_of past ≤ at → at ≤ max_time → goes_back (clock_of past) (option_map (reading_of_tick lives) tick) ≡ false
      → drift_seen configs at paces tick ≡ drift_breach configs past at (option_map (reading_of_tick lives) tick)
  drift-seen None there drifts good time time_in forward = refl
  drift-seen (Some tick) there drifts good time time_in forward =
      let life : Life = life_at lives tick.machine in
      let ppm : ℕ = (config_at configs tick.machine).drift in
      let now : Moment = record { clock = tick.clock; time = at } in
      let parts = or_parts _ _ forward in
      let after : AllByRecursion (IsAfter now) (moments_of past life) =
      after_passed past life now (ltb-false tick.clock (clock_of past life) parts.0) time (ltb-false max_time tick.clock parts.1) time_in (moments_of past life) (moments-passed configs past life good) in
      ap (λ (pace : Pace). cond (is_in_pace ppm pace now) None (Some (Drift tick.machine))) (keeps tick.machine there)
      ∙ ap (λ (b : Bool). cond b None (Some (Drift tick.machine))) (sym (agrees-in_pace ppm now (moments_of past life) (drifts tick.machine there) after))
