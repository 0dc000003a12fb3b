-- The last reading of a worker: it is not ahead of the true time, and one since the last commit that was asked for does not end before that.
use Rattle.std.proofs.Common.{◌≡◌, ℕ, ◌≤◌, Bool, true, false, cond, eqb, ◌&&◌, List, [], ◌∷◌, ◌++◌, Option, Some, None, refl, sym, subst, ◌∙◌, arith}
use Rattle.std.specs.Prelude.{is_some}
use Rattle.std.specs.Option.{option_or}
use Rattle.std.proofs.lemmas.Bool.{and_parts, and_from, eqb-true, eq-eqb}
use Rattle.std.proofs.lemmas.Option.{same_Some}
use Rattle.tt_span.specs.Interval.{Interval, Holds}
use Rattle.tt_world.proofs.Simulation.Unborn.{reading_since-unborn}
use Rattle.tt_world.proofs.Simulation.Lives.{same_life-true, not_mine-unborn, life_of-on}
use Rattle.tt_world.specs.Life.{Life, life_of, life_at, is_of}
use Rattle.tt_world.specs.declared.events.Event.{Event}
use Rattle.tt_world.specs.declared.events.Action.{Action}
use Rattle.tt_world.specs.declared.events.Action.TheVariants.{Read, Arrive}
use Rattle.tt_stamp.specs.declared.commits.Id.{Id}
use Rattle.tt_world.specs.declared.workers.Arrival.{Arrival}
use Rattle.tt_daemon.specs.Config.{Configuration}
use Rattle.tt_world.specs.Config.{config_at}
use Rattle.tt_world.specs.Past.{time_of}
use Rattle.tt_world.specs.Publications.{publications_of, publication_at}
use Rattle.tt_publish.specs.Reading.{reading_at}
use Rattle.tt_world.specs.Commits.{arrived_by, read_by, reading_of, reading_since}
use Rattle.tt_world.specs.Headline.{AreConfigurations}
use Rattle.tt_world.proofs.Histories.Judging.{AreGood}
use Rattle.tt_world.proofs.Histories.FusionTimes.{publications_right}
use Rattle.tt_world.proofs.Headline.Promises.{machine_of_worker, read_holds}
use Rattle.tt_world.proofs.Histories.Sound.{IsSound, sound_before}

-- ---- a reading when it is taken

some_if : (b : Bool) (r s : Interval) → cond b (Some r) None ≡ Some s → (b ≡ true) × (r ≡ s)
some_if true r s h = (refl, same_Some r s h)
some_if false r s h = absurd cc

taken_holds : (configs : List Configuration) → AreConfigurations configs → (past : List Event) (at m w clock k : ℕ) → IsSound configs (record { at = at; action = Read m w clock k } ∷ past) →
    Holds (reading_at (config_at configs m).drift (publication_at (publications_of (config_at configs m) past (life_at past m)) k) clock) at
taken_holds configs configurations past at m w clock k sound =
    let event : Event = record { at = at; action = Read m w clock k } in
    let there = machine_of_worker configs m w sound.good.0.named in
    let drift = sound.clocks (life_at past m) there in
    let before = sound_before configs past event sound in
    read_holds configs past at m w clock k there sound.good.0 drift
    (publications_right configs past (life_at past m) (configurations m there) before.good before.valid (before.clocks (life_at past m) there) before.few)

read_by_holds : (configs : List Configuration) → AreConfigurations configs → (past : List Event) (at : ℕ) (action : Action) (life : Life) (w : ℕ) (r : Interval) → IsSound configs (record { at = at; action = action } ∷ past) →
    read_by (config_at configs life.machine) past life w action ≡ Some r → Holds r at
read_by_holds configs configurations past at (Read machine worker clock k) life w r sound h =
    let parts = some_if (is_of past life machine && eqb worker w) (reading_at (config_at configs life.machine).drift (publication_at (publications_of (config_at configs life.machine) past life) k) clock) r h in
    let here = and_parts (is_of past life machine) (eqb worker w) parts.0 in
    subst (λ (i : Interval). Holds i at) parts.1
    (subst (λ (j : Life). Holds (reading_at (config_at configs j.machine).drift (publication_at (publications_of (config_at configs j.machine) past j) k) clock) at) (same_life-true (life_at past machine) life here.0)
    (taken_holds configs configurations past at machine worker clock k sound))
read_by_holds configs configurations past at _ life w r sound h = absurd cc

-- ---- the last reading

lo_after : (before at : ℕ) (new old : Option Interval) (r : Interval) → before ≤ at → ((s : Interval) → new ≡ Some s → Holds s at) → ((s : Interval) → old ≡ Some s → s.lo ≤ before) → option_or new old ≡ Some r → r.lo ≤ at
lo_after before at None old r on taken kept e =
    let was : r.lo ≤ before = kept r e in
    omega arith
lo_after before at (Some s) old r on taken kept e = (taken r e).0

-- the last reading of a worker does not begin after the true time
pub reading_not_ahead : (configs : List Configuration) → AreConfigurations configs → (past : List Event) (life : Life) (w : ℕ) (r : Interval) → IsSound configs past →
    reading_of (config_at configs life.machine) past life w ≡ Some r → r.lo ≤ time_of past
reading_not_ahead configs configurations [] life w r sound e = absurd cc
reading_not_ahead configs configurations (event ∷ past) life w r sound e =
    lo_after (time_of past) event.at (read_by (config_at configs life.machine) past life w event.action) (reading_of (config_at configs life.machine) past life w) r sound.good.0.not_before
    (λ s h. read_by_holds configs configurations past event.at event.action life w s sound h)
    (λ s h. reading_not_ahead configs configurations past life w s (sound_before configs past event sound) h) e

-- ---- the last commit that was asked for

-- whether an event asks worker w of machine m for a commit
abbrev asked_by : ℕ → ℕ → Action → Bool
asked_by m w (Arrive machine worker id floor) = eqb machine m && eqb worker w
asked_by m w _ = false

-- the true time when worker w of machine m was last asked for a commit, in whatever life, 0 before the first
abbrev pub arrival_time_of : List Event → ℕ → ℕ → ℕ
arrival_time_of [] m w = 0
arrival_time_of (event ∷ past) m w = cond (asked_by m w event.action) event.at (arrival_time_of past m w)

time_if : (b : Bool) (before at arrival : ℕ) → arrival ≤ before → before ≤ at → cond b at arrival ≤ at
time_if true before at arrival h k = omega arith
time_if false before at arrival h k = omega arith

arrived_by_now : (configs : List Configuration) (past : List Event) (m w : ℕ) → AreGood configs past → arrival_time_of past m w ≤ time_of past
arrived_by_now configs [] m w good = omega arith
arrived_by_now configs (event ∷ past) m w good =
    time_if (asked_by m w event.action) (time_of past) event.at (arrival_time_of past m w) (arrived_by_now configs past m w good.1) good.0.not_before

later_if : (b : Bool) (first before at arrival : ℕ) → first ≤ arrival → arrival ≤ before → before ≤ at → first ≤ cond b at arrival
later_if true first before at arrival h k l = omega arith
later_if false first before at arrival h k l = h

-- later commits are asked for later
pub arrival_on : (configs : List Configuration) (later past : List Event) (m w : ℕ) → AreGood configs (later ++ past) → arrival_time_of past m w ≤ arrival_time_of (later ++ past) m w
arrival_on configs [] past m w good = omega arith
arrival_on configs (event ∷ later) past m w good =
    later_if (asked_by m w event.action) (arrival_time_of past m w) (time_of (later ++ past)) event.at (arrival_time_of (later ++ past) m w)
    (arrival_on configs later past m w good.1) (arrived_by_now configs (later ++ past) m w good.1) good.0.not_before

-- an event that asks for a commit
pub arrival-here : (past : List Event) (at m w : ℕ) (id : Id) (floor : ℕ) → arrival_time_of (record { at = at; action = Arrive m w id floor } ∷ past) m w ≡ at
arrival-here past at m w id floor = rw (and_from (eqb m m) (eqb w w) (eq-eqb m m refl) (eq-eqb w w refl)) refl

-- where a worker was asked for a commit, though not in this life, this life has not begun
not_asked_here : (past : List Event) (life : Life) (w : ℕ) (action : Action) → asked_by life.machine w action ≡ true → is_some (arrived_by past life w action) ≡ false → is_of past life life.machine ≡ false
not_asked_here past life w (Arrive machine worker id floor) asked h =
    let parts = and_parts (eqb machine life.machine) (eqb worker w) asked in
    subst (λ (m : ℕ). is_of past life m ≡ false) (eqb-true machine life.machine parts.0) (left_false (is_of past life machine) (eqb worker w) parts.1 h)
  where
    left_false : (a b : Bool) → b ≡ true → is_some {T = Arrival} (cond (a && b) (Some (record { id = id; floor = floor })) None) ≡ false → a ≡ false
    left_false true true e h = absurd cc
    left_false true false e h = absurd cc
    left_false false b e h = refl
not_asked_here past life w _ asked h = absurd cc

hi_since : (arrived asked : Bool) (before at arrival : ℕ) (new old : Option Interval) (r : Interval) → arrival ≤ before → before ≤ at → ((s : Interval) → new ≡ Some s → Holds s at) →
    ((s : Interval) → old ≡ Some s → (asked ≡ true → arrived ≡ false → ⊥) × (arrival ≤ s.hi)) →
    cond arrived None (option_or new old) ≡ Some r → cond asked at arrival ≤ r.hi
hi_since true asked before at arrival new old r by on taken kept e = absurd cc
hi_since false true before at arrival None old r by on taken kept e = absurd ((kept r e).0 refl refl)
hi_since false false before at arrival None old r by on taken kept e = (kept r e).1
hi_since false asked before at arrival (Some s) old r by on taken kept e =
    let held : at ≤ r.hi = (taken r e).1 in
    let asked_by_then : cond asked at arrival ≤ at = time_if asked before at arrival by on in
    omega arith

-- a reading since a worker was last asked for a commit does not end before that
pub reading_since_holds : (configs : List Configuration) → AreConfigurations configs → (past : List Event) (life : Life) (w : ℕ) (r : Interval) → IsSound configs past → life_of past life.machine ≤ life.number →
    reading_since (config_at configs life.machine) past life w ≡ Some r → arrival_time_of past life.machine w ≤ r.hi
reading_since_holds configs configurations [] life w r sound begun e = absurd cc
reading_since_holds configs configurations (event ∷ past) life w r sound begun e =
    let before : life_of past life.machine ≤ life.number = omega (arith, life_of-on past event life.machine) in
    hi_since (is_some (arrived_by past life w event.action)) (asked_by life.machine w event.action) (time_of past) event.at (arrival_time_of past life.machine w)
    (read_by (config_at configs life.machine) past life w event.action) (reading_since (config_at configs life.machine) past life w) r
    (arrived_by_now configs past life.machine w sound.good.1) sound.good.0.not_before
    (λ s h. read_by_holds configs configurations past event.at event.action life w s sound h)
    (λ s h. (
      λ asked missed.
          let unborn = not_mine-unborn past life before (not_asked_here past life w event.action asked missed) in
          some-none s (sym h ∙ reading_since-unborn (config_at configs life.machine) past life w unborn),
      reading_since_holds configs configurations past life w s (sound_before configs past event sound) before h,
    )) e
  where
    some-none : (s : Interval) → Some s ≡ None → ⊥
    some-none s h = cc
