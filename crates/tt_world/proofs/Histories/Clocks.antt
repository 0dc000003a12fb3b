-- What the clocks showed: they never go back, and each reading is a moment.
use Rattle.std.proofs.Common.{◌≡◌, ℕ, ◌≤◌, Bool, true, false, cond, List, [], ◌∷◌, ◌++◌, Option, Some, None, refl, ap, subst, ◌∙◌, arith}
use Rattle.std.proofs.lemmas.Bool.{or_parts, ltb-false}
use Rattle.tt_span.specs.Time.{max_time}
use Rattle.tt_span.specs.Drift.{Moment}
use Rattle.tt_world.proofs.Simulation.Lives.{same_life-true, same_life-own}
use Rattle.tt_world.specs.Life.{Life, same_life}
use Rattle.tt_world.specs.declared.events.Event.{Event}
use Rattle.tt_daemon.specs.Config.{Configuration}
use Rattle.tt_world.specs.Past.{ClockReading, clock_reading, clock_after, clock_of, moment_at, moments_of}
use Rattle.tt_world.specs.Bad.{goes_back}
use Rattle.tt_world.proofs.Histories.Places.{IsIn, in_back}
use Rattle.tt_world.proofs.Histories.Judging.{IsGood}

-- a reading, and the machine whose clock it is
abbrev pub reading_on : Life → ℕ → Option ClockReading
reading_on life c = Some (record { life = life; clock = c })

after_reading : (clocks : Life → ℕ) (life read : Life) (clock : ℕ) (b : Bool) → same_life read life ≡ b → clocks read ≤ clock → clocks life ≤ cond b clock (clocks life)
after_reading clocks life read clock true e h = subst (λ (k : Life). clocks k ≤ clock) (same_life-true read life e) h
after_reading clocks life read clock false e h = omega arith

clock_after_on : (clocks : Life → ℕ) (life : Life) (reading : Option ClockReading) → goes_back clocks reading ≡ false → clocks life ≤ clock_after life reading (clocks life)
clock_after_on clocks life None h = omega arith
clock_after_on clocks life (Some reading) h =
    let parts = or_parts _ _ h in
    after_reading clocks life reading.life reading.clock (same_life reading.life life) refl (ltb-false reading.clock (clocks reading.life) parts.0)

-- no clock goes back
pub clock_on : (configs : List Configuration) (past : List Event) (event : Event) (life : Life) → IsGood configs past event → clock_of past life ≤ clock_of (event ∷ past) life
clock_on configs past event life good = clock_after_on (clock_of past) life (clock_reading past event.action) good.clock_on

-- what is known where an event reads the clock in this life
pub record IsReading (past : List Event) (event : Event) (life : Life) (c : ℕ) : Type 0 where
  pub moment : moments_of (event ∷ past) life ≡ record { clock = c; time = event.at } ∷ moments_of past life
  pub shows : clock_of (event ∷ past) life ≡ c
  pub not_before : clock_of past life ≤ c
  pub in_time : c ≤ max_time

moment_of_reading : (life : Life) (c at : ℕ) → moment_at life at (reading_on life c) ≡ record { clock = c; time = at } ∷ []
moment_of_reading life c at = let same : same_life life life ≡ true = same_life-own life in rw same refl

shown_by_reading : (life : Life) (c before : ℕ) → clock_after life (reading_on life c) before ≡ c
shown_by_reading life c before = let same : same_life life life ≡ true = same_life-own life in rw same refl

reading_in_time : (clocks : Life → ℕ) (life : Life) (c : ℕ) → goes_back clocks (reading_on life c) ≡ false → (clocks life ≤ c) × (c ≤ max_time)
reading_in_time clocks life c h =
    let parts = or_parts _ _ h in
    (ltb-false c (clocks life) parts.0, ltb-false max_time c parts.1)

pub reading_of : (configs : List Configuration) (past : List Event) (event : Event) (life : Life) (c : ℕ) → IsGood configs past event → clock_reading past event.action ≡ reading_on life c → IsReading past event life c
reading_of configs past event life c good e =
    let bounds = reading_in_time (clock_of past) life c (subst (λ (r : Option ClockReading). goes_back (clock_of past) r ≡ false) e good.clock_on) in
    record {
      moment = ap (λ (r : Option ClockReading). moment_at life event.at r ++ moments_of past life) e ∙ ap (λ (ms : List Moment). ms ++ moments_of past life) (moment_of_reading life c event.at);
      shows = ap (λ (r : Option ClockReading). clock_after life r (clock_of past life)) e ∙ shown_by_reading life c (clock_of past life);
      not_before = bounds.0;
      in_time = bounds.1;
    }

-- moments stay
pub moment_stays : (past : List Event) (event : Event) (life : Life) (moment : Moment) → IsIn moment (moments_of past life) → IsIn moment (moments_of (event ∷ past) life)
moment_stays past event life moment i = in_back moment (moment_at life event.at (clock_reading past event.action)) (moments_of past life) i
