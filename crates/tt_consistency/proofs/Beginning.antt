-- A machine that has restarted so many times is a new daemon in the next life.
use Rattle.std.proofs.Common.{◌||◌, ◌≡◌, ℕ, zero, suc, ◌+◌, ◌-◌, ◌^◌, ◌<◌, ◌≤◌, Bool, true, false, cond, ltb, eqb, List, [], ◌∷◌, ◌++◌, length, None, refl, sym, ap, ◌∙◌, arith, eq-eqb, ne_eqb, lt-ltb, le-ltb}
use Rattle.std.specs.List.{AllByRecursion}
use Rattle.std.proofs.lemmas.Bool.{or_from}
use Rattle.tt_span.specs.Time.{max_time}
use Rattle.tt_span.specs.Drift.{Moment}
use Rattle.tt_daemon.specs.Config.{Configuration}
use Rattle.tt_world.specs.Assumptions.{FewLie}
use Rattle.tt_world.specs.Bad.{first_bad, accepted}
use Rattle.tt_world.specs.Config.{config_at}
use Rattle.tt_world.specs.Life.{Life, life_of, life_at, next_life, same_life}
use Rattle.tt_world.specs.Past.{time_of, clock_of, moments_of, sends_of}
use Rattle.tt_world.specs.declared.events.Event.{Event}
use Rattle.tt_world.specs.declared.events.Action.TheVariants.{Restart}
use Rattle.tt_world.proofs.Simulation.Fresh.{machine_in-first}
use Rattle.tt_world.proofs.Simulation.Unborn.{clock_of-unborn}
use Rattle.tt_world.proofs.Simulation.Waiting.{happens}
use Rattle.tt_consistency.specs.Steps.{kept_of, kept_at, new_kept}
use Rattle.tt_consistency.specs.Timeline.{restarts_of, BeginsLife}
use Rattle.tt_consistency.proofs.LivingRounds.{restarted}
use Rattle.tt_consistency.proofs.Running.{kept_good}

-- what is known after so many restarts
record HasBegun (configs : List Configuration) (m at clock n : ℕ) (past : List Event) : Type 0 where
  good : accepted configs past ≡ past
  number : life_of past m ≡ n + 1
  kept : kept_at configs past m ≡ new_kept (config_at configs m) m (n + 1)
  by_time : time_of past ≤ at

-- in any life
clock_shown : (b : Bool) (clock before : ℕ) → before ≤ clock → cond b clock before ≤ clock
clock_shown true clock before h = omega arith
clock_shown false clock before h = h

shown-by : (m at clock n : ℕ) (life : Life) → clock_of (restarts_of m at clock n) life ≤ clock
shown-by m at clock zero life = omega arith
shown-by m at clock (suc n) life =
    clock_shown (same_life (next_life (restarts_of m at clock n) m) life) clock (clock_of (restarts_of m at clock n) life) (shown-by m at clock n life)

-- the moments are this one
abbrev AreOne : Moment → List Moment → Type 0
AreOne one moments = AllByRecursion (λ (moment : Moment). moment ≡ one) moments

one_more : (one : Moment) (b : Bool) (moments : List Moment) → AreOne one moments → AreOne one (cond b (one ∷ []) [] ++ moments)
one_more one true moments h = (refl, h)
one_more one false moments h = h

one-moment : (m at clock n : ℕ) (life : Life) → AreOne (record { clock = clock; time = at }) (moments_of (restarts_of m at clock n) life)
one-moment m at clock zero life = tt
one-moment m at clock (suc n) life =
    one_more (record { clock = clock; time = at }) (same_life (next_life (restarts_of m at clock n) m) life) (moments_of (restarts_of m at clock n) life) (one-moment m at clock n life)

none-polled : (m at clock n : ℕ) (life : Life) → sends_of (restarts_of m at clock n) life ≡ 0
none-polled m at clock zero life = refl
none-polled m at clock (suc n) life = none-polled m at clock n life

few-lie : (configs : List Configuration) (m at clock n : ℕ) → FewLie configs (restarts_of m at clock n)
few-lie configs m at clock zero = tt
few-lie configs m at clock (suc n) = (tt, few-lie configs m at clock n)

module _ (configs : List Configuration) (m at clock : ℕ) (there : m < length configs) (in_time : at ≤ max_time) (fits : clock ≤ max_time) where
  goes-restart : (past : List Event) → time_of past ≤ at → life_of past m < 2 ^ 64 - 1 → first_bad configs past (happens at (Restart m clock)) ≡ None
  goes-restart past later left =
      let t : (ltb at (time_of past) || ltb max_time at) ≡ false = or_from _ _ (le-ltb at (time_of past) later) (le-ltb max_time at in_time) in
      let h = lt-ltb m (length configs) there in
      let unborn : clock_of past (next_life past m) ≡ 0 = clock_of-unborn past (next_life past m) (omega arith) in
      let c : (ltb clock (clock_of past (next_life past m)) || ltb max_time clock) ≡ false = or_from _ _ (le-ltb clock _ (omega (arith, unborn))) (le-ltb max_time clock fits) in
      let l : eqb (life_of past m) (2 ^ 64 - 1) ≡ false = ne_eqb _ _ (λ same. omega arith) in
      rw (t, h, c, l) refl

  begun : (n : ℕ) → n < 2 ^ 64 - 1 → HasBegun configs m at clock n (restarts_of m at clock n)
  begun zero few = record { good = refl; number = refl; kept = ap kept_of (sym (machine_in-first (config_at configs m) m)); by_time = omega arith }
  begun (suc n) few =
      let past = restarts_of m at clock n in
      let before = begun n (omega arith) in
      let number : life_of (happens at (Restart m clock) ∷ past) m ≡ suc n + 1 =
      ap (λ (b : Bool). cond b (life_of past m + 1) (life_of past m)) (eq-eqb m m refl) ∙ omega (arith, before.number) in
      record {
        good = kept_good configs m there [] past (happens at (Restart m clock)) before.good (goes-restart past before.by_time (omega (arith, before.number)));
        number = number;
        kept = restarted configs past at (Restart m clock) m (eq-eqb m m refl) ∙ ap (new_kept (config_at configs m) m) number;
        by_time = omega arith;
      }

pub begins-life : (configs : List Configuration) (m at clock lives : ℕ) → m < length configs → at ≤ max_time → clock ≤ max_time → lives < 2 ^ 64 - 1
    → BeginsLife configs m (lives + 1) at clock (restarts_of m at clock lives)
begins-life configs m at clock lives there in_time fits few =
    let base = restarts_of m at clock lives in
    let has = begun configs m at clock there in_time fits lives few in
    record {
      good = has.good;
      as_new = has.kept;
      by_time = has.by_time;
      by_clock = shown-by m at clock lives (life_at base m);
      one_moment = one-moment m at clock lives (life_at base m);
      none_polled = none-polled m at clock lives (life_at base m);
      few_lie = few-lie configs m at clock lives;
    }
