-- Events that only poll, answer and deliver, all at one true time and one clock reading.
use Rattle.std.proofs.Common.{◌≡◌, ℕ, ◌≤◌, Bool, true, false, cond, List, [], ◌∷◌, Option, Some, None, refl, ap, subst, sym, arith}
use Rattle.std.specs.Prelude.{slice_get}
use Rattle.std.specs.List.{AllByRecursion}
use Rattle.std.specs.Option.{option_map}
use Rattle.tt_span.specs.Drift.{Moment}
use Rattle.tt_daemon.specs.Config.{Configuration}
use Rattle.tt_world.specs.Life.{Life, life_of, life_at, same_life}
use Rattle.tt_world.specs.declared.events.Event.{Event}
use Rattle.tt_world.specs.declared.events.Action.{Action}
use Rattle.tt_world.specs.declared.events.Action.TheVariants.{Send, Answer, Deliver}
use Rattle.tt_world.specs.declared.packets.Packet.{Packet}
use Rattle.tt_world.specs.Packet.{machine_of_packet}
use Rattle.tt_world.specs.Past.{time_of, packets_of, ClockReading, clock_reading, clock_after, clock_of, moment_at, moments_of}
use Rattle.tt_world.specs.Publications.{publications_of, seen_of}
use Rattle.tt_world.specs.Assumptions.{FewLie}
use Rattle.tt_world.proofs.Histories.Places.{all_append}

-- an action that polls, answers or delivers, at this clock reading
abbrev pub IsQuiet : ℕ → Action → Type 0
IsQuiet c (Send machine source clock) = clock ≡ c
IsQuiet c (Answer packet span) = Unit {0}
IsQuiet c (Deliver packet clock) = clock ≡ c
IsQuiet c _ = ⊥

-- an event at this true time with such an action
abbrev pub IsStill : ℕ → ℕ → Event → Type 0
IsStill c x event = (event.at ≡ x) × IsQuiet c event.action

-- such events alone
abbrev pub AreStill : ℕ → ℕ → List Event → Type 0
AreStill c x events = AllByRecursion (IsStill c x) events

-- ---- each action

quiet_life : (c at : ℕ) (action : Action) (past : List Event) (m : ℕ) → IsQuiet c action → life_of past m ≡ 1 → life_of (record { at = at; action = action } ∷ past) m ≡ 1
quiet_life c at (Send machine source clock) past m q h = h
quiet_life c at (Answer packet span) past m q h = h
quiet_life c at (Deliver packet clock) past m q h = h
quiet_life c at _ past m q h = absurd q

quiet_publications : (c at : ℕ) (action : Action) (config : Configuration) (past : List Event) (life : Life) → IsQuiet c action → publications_of config past life ≡ [] → publications_of config (record { at = at; action = action } ∷ past) life ≡ []
quiet_publications c at (Send machine source clock) config past life q h = rw h refl
quiet_publications c at (Answer packet span) config past life q h = rw h refl
quiet_publications c at (Deliver packet clock) config past life q h = rw h refl
quiet_publications c at _ config past life q h = absurd q

quiet_seen : (c at : ℕ) (action : Action) (past : List Event) (life : Life) (w : ℕ) → IsQuiet c action → seen_of past life w ≡ 0 → seen_of (record { at = at; action = action } ∷ past) life w ≡ 0
quiet_seen c at (Send machine source clock) past life w q h = h
quiet_seen c at (Answer packet span) past life w q h = h
quiet_seen c at (Deliver packet clock) past life w q h = h
quiet_seen c at _ past life w q h = absurd q

quiet_few : (c at : ℕ) (action : Action) (configs : List Configuration) (past : List Event) → IsQuiet c action → FewLie configs past → FewLie configs (record { at = at; action = action } ∷ past)
quiet_few c at (Send machine source clock) configs past q h = (tt, h)
quiet_few c at (Answer packet span) configs past q h = (tt, h)
quiet_few c at (Deliver packet clock) configs past q h = (tt, h)
quiet_few c at _ configs past q h = absurd q

-- the clock reading of a quiet action
IsReadingAt : ℕ → Option ClockReading → Type 0
IsReadingAt c None = Unit {0}
IsReadingAt c (Some reading) = reading.clock ≡ c

of_packet : (c : ℕ) (past : List Event) (packet : Option Packet) → IsReadingAt c (option_map (λ p. record { life = life_at past (machine_of_packet p); clock = c }) packet)
unfolding IsReadingAt
of_packet c past None = tt
of_packet c past (Some packet) = refl

quiet_reading : (c : ℕ) (action : Action) (past : List Event) → IsQuiet c action → IsReadingAt c (clock_reading past action)
unfolding IsReadingAt
quiet_reading c (Send machine source clock) past q = q
quiet_reading c (Answer packet span) past q = tt
quiet_reading c (Deliver packet clock) past q = subst (λ (k : ℕ). IsReadingAt c (clock_reading past (Deliver packet k))) (sym q) (of_packet c past (slice_get (packets_of past) packet))
quiet_reading c _ past q = absurd q

clock_to : (c : ℕ) (life : Life) (reading : Option ClockReading) (before : ℕ) → IsReadingAt c reading → before ≤ c → clock_after life reading before ≤ c
unfolding IsReadingAt
clock_to c life None before q h = h
clock_to c life (Some reading) before q h = one (same_life reading.life life)
  where
    one : (b : Bool) → cond b reading.clock before ≤ c
    one true = omega arith
    one false = h

moment_of : (c x : ℕ) (life : Life) (reading : Option ClockReading) → IsReadingAt c reading → AllByRecursion (λ (moment : Moment). moment ≡ record { clock = c; time = x }) (moment_at life x reading)
unfolding IsReadingAt
moment_of c x life None q = tt
moment_of c x life (Some reading) q = one (same_life reading.life life)
  where
    one : (b : Bool) → AllByRecursion (λ (moment : Moment). moment ≡ record { clock = c; time = x }) (cond b (record { clock = reading.clock; time = x } ∷ []) [])
    one true = (ap (λ (k : ℕ). record { clock = k; time = x }) q, tt)
    one false = tt

-- ---- all of them

pub still-life : (c x : ℕ) (past : List Event) (m : ℕ) → AreStill c x past → life_of past m ≡ 1
still-life c x [] m h = refl
still-life c x (event ∷ past) m h = quiet_life c event.at event.action past m h.0.1 (still-life c x past m h.1)

pub still-publications : (c x : ℕ) (config : Configuration) (past : List Event) (life : Life) → AreStill c x past → publications_of config past life ≡ []
still-publications c x config [] life h = refl
still-publications c x config (event ∷ past) life h = quiet_publications c event.at event.action config past life h.0.1 (still-publications c x config past life h.1)

pub still-seen : (c x : ℕ) (past : List Event) (life : Life) (w : ℕ) → AreStill c x past → seen_of past life w ≡ 0
still-seen c x [] life w h = refl
still-seen c x (event ∷ past) life w h = quiet_seen c event.at event.action past life w h.0.1 (still-seen c x past life w h.1)

pub still-few : (c x : ℕ) (configs : List Configuration) (past : List Event) → AreStill c x past → FewLie configs past
still-few c x configs [] h = tt
still-few c x configs (event ∷ past) h = quiet_few c event.at event.action configs past h.0.1 (still-few c x configs past h.1)

pub still-clock : (c x : ℕ) (past : List Event) (life : Life) → AreStill c x past → clock_of past life ≤ c
still-clock c x [] life h = omega arith
still-clock c x (event ∷ past) life h = clock_to c life (clock_reading past event.action) (clock_of past life) (quiet_reading c event.action past h.0.1) (still-clock c x past life h.1)

pub still-time : (c x : ℕ) (past : List Event) → AreStill c x past → time_of past ≤ x
still-time c x [] h = omega arith
still-time c x (event ∷ past) h = omega (arith, h.0.0)

pub still-moments : (c x : ℕ) (past : List Event) (life : Life) → AreStill c x past → AllByRecursion (λ (moment : Moment). moment ≡ record { clock = c; time = x }) (moments_of past life)
still-moments c x [] life h = tt
still-moments c x (event ∷ past) life h =
    all_append (λ (moment : Moment). moment ≡ record { clock = c; time = x }) (moment_at life event.at (clock_reading past event.action)) (moments_of past life)
    (subst (λ (at : ℕ). AllByRecursion (λ (moment : Moment). moment ≡ record { clock = c; time = x }) (moment_at life at (clock_reading past event.action))) (sym h.0.0) (moment_of c x life (clock_reading past event.action) (quiet_reading c event.action past h.0.1)))
    (still-moments c x past life h.1)
