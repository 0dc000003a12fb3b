-- What a machine publishes meets what it published before in the same life.
use Rattle.std.proofs.Common.{◌≡◌, ℕ, zero, suc, ◌<◌, ◌≤◌, List, [], ◌∷◌, ◌++◌, Option, Some, None, Result, Ok, Err, inl, inr, refl, subst, arith}
use Rattle.std.specs.Prelude.{◌⊎◌, slice_get}
use Rattle.std.specs.List.{AllByRecursion}
use Rattle.std.proofs.lemmas.Bool.{cases_lt}
use Rattle.std.proofs.lemmas.Option.{same_Some}
use Rattle.tt_span.specs.Drift.{Moment, distance, widening, AgreesWith, KeepsDrift}
use Rattle.tt_publish.specs.declared.readings.FusedSpan.{FusedSpan}
use Rattle.tt_daemon.specs.Config.{Configuration, IsConfiguration}
use Rattle.tt_world.specs.Config.{config_at}
use Rattle.tt_world.specs.Life.{Life}
use Rattle.tt_world.specs.Past.{moments_of}
use Rattle.tt_world.specs.Publications.{fusion_of, one_if_made, fuses_at, published_at, publications_of}
use Rattle.tt_world.specs.Meeting.{MeetsAged, AllMeet, HasUnmet}
use Rattle.tt_world.specs.declared.events.Event.{Event}
use Rattle.tt_world.proofs.Histories.Places.{holds_in, all_append, all_weaker}
use Rattle.tt_world.proofs.Histories.Ageing.{aged_holds}
use Rattle.tt_world.proofs.Histories.Judging.{IsGood}
use Rattle.tt_world.proofs.Histories.FusionTimes.{WasRight, IsKept, kept_before, IsMadeNow, made_now, were_right}

-- ---- pairs of a list

-- each element is related to every one after it
abbrev AllPairs : {X : Type 0} → (X → X → Type 0) → List X → Type 0
AllPairs R [] = Unit {0}
AllPairs R (x ∷ xs) = AllByRecursion (R x) xs × AllPairs R xs

pairs_append : {X : Type 0} (R : X → X → Type 0) (xs ys : List X) → AllPairs R xs → AllPairs R ys → AllByRecursion (λ x. AllByRecursion (R x) ys) xs → AllPairs R (xs ++ ys)
pairs_append R [] ys h k across = k
pairs_append R (x ∷ xs) ys h k across = (all_append (R x) xs ys h.0 across.0, pairs_append R xs ys h.1 k across.1)

all_at : {X : Type 0} (P : X → Type 0) (xs : List X) (k : ℕ) (y : X) → AllByRecursion P xs → slice_get xs k ≡ Some y → P y
all_at P [] k y h e = absurd cc
all_at P (x ∷ xs) zero y h e = subst P (same_Some x y e) h.0
all_at P (x ∷ xs) (suc k) y h e = all_at P xs k y h.1 e

pairs_at : {X : Type 0} (R : X → X → Type 0) (xs : List X) (i k : ℕ) (x y : X) → AllPairs R xs → i < k → slice_get xs i ≡ Some x → slice_get xs k ≡ Some y → R x y
pairs_at R [] i k x y h less e f = absurd cc
pairs_at R (z ∷ xs) zero zero x y h less e f = absurd (omega arith)
pairs_at R (z ∷ xs) zero (suc k) x y h less e f = subst (λ w. R w y) (same_Some z x e) (all_at (R z) xs k y h.0 f)
pairs_at R (z ∷ xs) (suc i) zero x y h less e f = absurd (omega arith)
pairs_at R (z ∷ xs) (suc i) (suc k) x y h less e f = pairs_at R xs i k x y h.1 (omega arith) e f

-- ---- publications

-- both hold the true time of the later fusion
pub meets_now : (configs : List Configuration) (past : List Event) (event : Event) (life : Life) (earlier later : FusedSpan) (ppm : ℕ) → IsGood configs past event → KeepsDrift ppm (moments_of (event ∷ past) life) →
    WasRight past life earlier → IsMadeNow past event life later → MeetsAged ppm earlier later
meets_now configs past event life earlier later ppm good drift was now =
    let agree : AllByRecursion (AgreesWith ppm (record { clock = later.clock; time = event.at })) (moments_of past life) =
    (subst (λ (ms : List Moment). KeepsDrift ppm ms) now.reading.moment drift).0 in
    let clock_by : earlier.clock ≤ later.clock = omega (arith, was.clock_by_now, now.reading.not_before) in
    let on : was.fused_at ≤ event.at = omega (arith, was.by_now, good.not_before) in
    record {
      readable = (clock_by, now.reading.in_time);
      meets = (
        event.at,
        aged_holds ppm earlier.span later.clock event.at earlier.clock was.fused_at clock_by on good.in_time
            (holds_in (AgreesWith ppm (record { clock = later.clock; time = event.at })) (record { clock = earlier.clock; time = was.fused_at }) (moments_of past life) agree was.moment) was.held,
        now.held,
      );
    }

module _ (configs : List Configuration) (life : Life) (configuration : IsConfiguration (config_at configs life.machine)) where
  -- the later meets the earlier
  abbrev Related : FusedSpan → FusedSpan → Type 0
  Related = MeetsAged (config_at configs life.machine).drift

  one_pairs : (made : Result FusedSpan ℕ) → AllPairs Related (one_if_made made)
  one_pairs (Ok publication) = (tt, tt)
  one_pairs (Err number) = tt

  pairs_now : (past : List Event) (fuses : Option ℕ) → AllPairs Related (published_at (config_at configs life.machine) past life fuses)
  pairs_now past None = tt
  pairs_now past (Some clock) = one_pairs (fusion_of (config_at configs life.machine) past life clock)

  meets_if_made : (past : List Event) (event : Event) (clock : ℕ) (made : Result FusedSpan ℕ) (earlier : FusedSpan) → IsKept configs (event ∷ past) life → WasRight past life earlier →
      fuses_at past life event.action ≡ Some clock → fusion_of (config_at configs life.machine) past life clock ≡ made → AllByRecursion (Related earlier) (one_if_made made)
  meets_if_made past event clock (Err number) earlier kept was fuses h = tt
  meets_if_made past event clock (Ok later) earlier kept was fuses h =
      (meets_now configs past event life earlier later (config_at configs life.machine).drift kept.good.0 kept.drift was (made_now configs past event life clock later configuration kept fuses h), tt)

  meets_if_fused : (past : List Event) (event : Event) (fuses : Option ℕ) (earlier : FusedSpan) → IsKept configs (event ∷ past) life → WasRight past life earlier →
      fuses_at past life event.action ≡ fuses → AllByRecursion (Related earlier) (published_at (config_at configs life.machine) past life fuses)
  meets_if_fused past event None earlier kept was h = tt
  meets_if_fused past event (Some clock) earlier kept was h =
      meets_if_made past event clock (fusion_of (config_at configs life.machine) past life clock) earlier kept was h refl

  all_pairs : (past : List Event) → IsKept configs past life → AllPairs Related (publications_of (config_at configs life.machine) past life)
  all_pairs [] kept = tt
  all_pairs (event ∷ past) kept =
      let before = kept_before configs past event life kept in
      let made : List FusedSpan = published_at (config_at configs life.machine) past life (fuses_at past life event.action) in
      pairs_append Related (publications_of (config_at configs life.machine) past life) made (all_pairs past before) (pairs_now past (fuses_at past life event.action))
      (all_weaker (λ (p : FusedSpan). WasRight past life p) (λ (p : FusedSpan). AllByRecursion (Related p) made) (λ p was. meets_if_fused past event (fuses_at past life event.action) p kept was refl)
      (publications_of (config_at configs life.machine) past life) (were_right configs past life configuration before))

  pub publications_meet : (past : List Event) → IsKept configs past life → AllMeet (config_at configs life.machine).drift (publications_of (config_at configs life.machine) past life)
  publications_meet past kept i k earlier later less first second =
      pairs_at Related (publications_of (config_at configs life.machine) past life) i k earlier later (all_pairs past kept) less first second

-- ---- what breaks where two do not meet

both_or_not : {A B : Type 0} → A ⊎ (¬ A) → B ⊎ (¬ B) → (A × B) ⊎ (¬ (A × B))
both_or_not (inl a) (inl b) = inl (a, b)
both_or_not (inl a) (inr none) = inr (λ h. none h.1)
both_or_not (inr none) other = inr (λ h. none h.0)

at_most_or_not : (a b : ℕ) → (a ≤ b) ⊎ (¬ (a ≤ b))
at_most_or_not a b = from (cases_lt b a)
  where
    from : (b < a) ⊎ (a ≤ b) → (a ≤ b) ⊎ (¬ (a ≤ b))
    from (inl above) = inr (λ h. omega (arith, above, h))
    from (inr within) = inl within

agree_or_not : (ppm : ℕ) (moment : Moment) (others : List Moment) → AllByRecursion (AgreesWith ppm moment) others ⊎ (¬ AllByRecursion (AgreesWith ppm moment) others)
agree_or_not ppm moment [] = inl tt
agree_or_not ppm moment (other ∷ others) =
    both_or_not (at_most_or_not (distance (distance moment.clock other.clock) (distance moment.time other.time)) (widening ppm (distance moment.clock other.clock))) (agree_or_not ppm moment others)

-- a clock keeps its drift bound over some moments, or breaks it
pub keeps_or_not : (ppm : ℕ) (moments : List Moment) → KeepsDrift ppm moments ⊎ (¬ KeepsDrift ppm moments)
keeps_or_not ppm [] = inl tt
keeps_or_not ppm (moment ∷ moments) = both_or_not (agree_or_not ppm moment moments) (keeps_or_not ppm moments)

-- where two assumptions would make all meet, and some do not, one of the two is broken, and the first can be tested
pub one_broken : {Drift Few : Type 0} (ppm : ℕ) (publications : List FusedSpan) → Drift ⊎ (¬ Drift) → (Drift → Few → AllMeet ppm publications) → HasUnmet ppm publications → (¬ Drift) ⊎ (¬ Few)
one_broken ppm publications (inl drift) law unmet = inr (λ few. unmet.apart (law drift few unmet.i unmet.k unmet.earlier unmet.later unmet.in_order unmet.first unmet.second).meets)
one_broken ppm publications (inr broken) law unmet = inl broken
