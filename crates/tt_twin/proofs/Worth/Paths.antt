-- The path of the true time that goes as far as the clock's drift allows keeps the drift bound.
use Rattle.std.proofs.Common.{◌≡◌, ℕ, ◌+◌, ◌-◌, ◌≤◌, List, [], ◌∷◌, inl, inr, subst, sym, arith}
use Rattle.std.specs.List.{AllByRecursion}
use Rattle.std.proofs.lemmas.Bool.{cases_lt}
use Rattle.tt_span.specs.Drift.{widening, max_drift, distance, Moment, AgreesWith, KeepsDrift}
use Rattle.tt_span.proofs.Widening.{zero-widening, rises-widening, subadditive-widening, bound-widening}
use Rattle.tt_twin.specs.declared.twins.Side.{Side}
use Rattle.tt_twin.specs.declared.twins.Side.TheVariants.{Low, High}
use Rattle.tt_twin.specs.Twin.{end_after}

-- the moment at which the clock has gone on by d
abbrev pub moment_after : Side → ℕ → ℕ → ℕ → ℕ → Moment
moment_after side ppm c x d = record { clock = c + d; time = end_after side ppm x d }

-- numbers: w, v and u are what the clock may be wrong by after d, after d + g and after g
low_near : (x d g w v u : ℕ) → w ≤ v → v ≤ w + u → w ≤ d → v ≤ d + g → u ≤ g → distance g (distance (x + d - w) (x + (d + g) - v)) ≤ u
low_near x d g w v u a b e f h = omega arith

high_near : (x d g w v u : ℕ) → w ≤ v → v ≤ w + u → distance g (distance (x + d + w) (x + (d + g) + v)) ≤ u
high_near x d g w v u a b = omega arith

low_far : (x d g w v u : ℕ) → w ≤ v → v ≤ w + u → w ≤ d → v ≤ d + g → u ≤ g → distance g (distance (x + (d + g) - v) (x + d - w)) ≤ u
low_far x d g w v u a b e f h = omega arith

high_far : (x d g w v u : ℕ) → w ≤ v → v ≤ w + u → distance g (distance (x + (d + g) + v) (x + d + w)) ≤ u
high_far x d g w v u a b = omega arith

near : (side : Side) (ppm x d g : ℕ) → ppm ≤ max_drift → distance g (distance (end_after side ppm x d) (end_after side ppm x (d + g))) ≤ widening ppm g
near Low ppm x d g few = low_near x d g (widening ppm d) (widening ppm (d + g)) (widening ppm g) (rises-widening ppm d (d + g) (omega arith)) (subadditive-widening ppm d g) (bound-widening ppm d few) (bound-widening ppm (d + g) few) (bound-widening ppm g few)
near High ppm x d g few = high_near x d g (widening ppm d) (widening ppm (d + g)) (widening ppm g) (rises-widening ppm d (d + g) (omega arith)) (subadditive-widening ppm d g)

far : (side : Side) (ppm x d g : ℕ) → ppm ≤ max_drift → distance g (distance (end_after side ppm x (d + g)) (end_after side ppm x d)) ≤ widening ppm g
far Low ppm x d g few = low_far x d g (widening ppm d) (widening ppm (d + g)) (widening ppm g) (rises-widening ppm d (d + g) (omega arith)) (subadditive-widening ppm d g) (bound-widening ppm d few) (bound-widening ppm (d + g) few) (bound-widening ppm g few)
far High ppm x d g few = high_far x d g (widening ppm d) (widening ppm (d + g)) (widening ppm g) (rises-widening ppm d (d + g) (omega arith)) (subadditive-widening ppm d g)

-- any two moments of the path agree
on_path : (side : Side) (ppm c x d e : ℕ) → ppm ≤ max_drift → AgreesWith ppm (moment_after side ppm c x d) (moment_after side ppm c x e)
on_path side ppm c x d e few =
    elim (cases_lt d e) [
      | inl lt ↦
          let g = e - d in
          let gap : distance (c + d) (c + e) ≡ g = omega arith in
          let there : d + g ≡ e = omega arith in
          let P : ℕ → Type 0 = λ k. distance k (distance (end_after side ppm x d) (end_after side ppm x e)) ≤ widening ppm k in
          let Q : ℕ → Type 0 = λ k. distance g (distance (end_after side ppm x d) (end_after side ppm x k)) ≤ widening ppm g in
          subst P (sym gap) (subst Q there (near side ppm x d g few))
      | inr ge ↦
          let g = d - e in
          let gap : distance (c + d) (c + e) ≡ g = omega arith in
          let there : e + g ≡ d = omega arith in
          let P : ℕ → Type 0 = λ k. distance k (distance (end_after side ppm x d) (end_after side ppm x e)) ≤ widening ppm k in
          let Q : ℕ → Type 0 = λ k. distance g (distance (end_after side ppm x k) (end_after side ppm x e)) ≤ widening ppm g in
          subst P (sym gap) (subst Q there (far side ppm x e g few))
    ]

-- the moment is on the path
abbrev pub IsOnPath : Side → ℕ → ℕ → ℕ → Moment → Type 0
IsOnPath side ppm c x moment = (d : ℕ) × (moment ≡ moment_after side ppm c x d)

agree_all : (side : Side) (ppm c x : ℕ) → ppm ≤ max_drift → (moment : Moment) → IsOnPath side ppm c x moment → (moments : List Moment) → AllByRecursion (IsOnPath side ppm c x) moments → AllByRecursion (AgreesWith ppm moment) moments
agree_all side ppm c x few moment on [] all = tt
agree_all side ppm c x few moment on (other ∷ moments) all = (
  subst (λ (a : Moment). AgreesWith ppm a other) (sym on.1) (subst (λ (b : Moment). AgreesWith ppm (moment_after side ppm c x on.0) b) (sym all.0.1) (on_path side ppm c x on.0 all.0.0 few)),
  agree_all side ppm c x few moment on moments all.1,
)

-- moments on the path keep the drift bound
pub path-keeps : (side : Side) (ppm c x : ℕ) → ppm ≤ max_drift → (moments : List Moment) → AllByRecursion (IsOnPath side ppm c x) moments → KeepsDrift ppm moments
path-keeps side ppm c x few [] all = tt
path-keeps side ppm c x few (moment ∷ moments) all = (agree_all side ppm c x few moment all.0 moments all.1, path-keeps side ppm c x few moments all.1)

low_rises : (x d g w v u : ℕ) → v ≤ w + u → u ≤ g → w ≤ d → x + d - w ≤ x + (d + g) - v
low_rises x d g w v u a b e = omega arith

rises_by : (side : Side) (ppm x d g : ℕ) → ppm ≤ max_drift → end_after side ppm x d ≤ end_after side ppm x (d + g)
rises_by Low ppm x d g few = low_rises x d g (widening ppm d) (widening ppm (d + g)) (widening ppm g) (subadditive-widening ppm d g) (bound-widening ppm g few) (bound-widening ppm d few)
rises_by High ppm x d g few = let h : widening ppm d ≤ widening ppm (d + g) = rises-widening ppm d (d + g) (omega arith) in omega arith

-- the path does not fall
pub end_after-rises : (side : Side) (ppm x d e : ℕ) → ppm ≤ max_drift → d ≤ e → end_after side ppm x d ≤ end_after side ppm x e
end_after-rises side ppm x d e few h =
    let there : d + (e - d) ≡ e = omega arith in
    let P : ℕ → Type 0 = λ k. end_after side ppm x d ≤ end_after side ppm x k in
    subst P there (rises_by side ppm x d (e - d) few)

-- it begins at x
pub end_after-zero : (side : Side) (ppm x : ℕ) → end_after side ppm x 0 ≡ x
end_after-zero Low ppm x = let h : widening ppm 0 ≡ 0 = zero-widening ppm in omega arith
end_after-zero High ppm x = let h : widening ppm 0 ≡ 0 = zero-widening ppm in omega arith
