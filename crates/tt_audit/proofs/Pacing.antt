-- A moment keeps the drift bound with all those before it exactly where it is in pace with them.
use Rattle.std.proofs.Common.{◌≡◌, ℕ, ◌+◌, ◌-◌, ◌*◌, ◌<◌, ◌≤◌, Bool, true, false, ◌&&◌, nat_le, max, List, [], ◌∷◌, refl, ap, ap₂, subst, ◌∙◌, sym, arith}
use Rattle.std.proofs.Common.{subst₂, Decides}
use Rattle.std.specs.Prelude.{nat_lt, ◌↔◌}
use Rattle.std.specs.List.{AllByRecursion}
use Rattle.std.proofs.lemmas.Bool.{lt-ltb, leb-true, le-leb}
use Rattle.std.proofs.lemmas.Bool.Decides.{same_from_decides, Decides-like, Decides-and, Decides-ltb}
use Rattle.tt_span.specs.Time.{max_time}
use Rattle.tt_span.specs.Drift.{Moment, distance, widening}
use Rattle.tt_world.specs.Assumptions.{agrees_with_all}
use Rattle.tt_audit.specs.declared.paces.Pace.{Pace}
use Rattle.tt_audit.specs.Pace.{slow_mark, fast_mark, pace_of, is_in_pace}

-- a moment that comes no earlier than another, by the clock and by the time, both within all of time
pub record IsAfter (later earlier : Moment) : Type 0 where
  pub clock : earlier.clock ≤ later.clock
  pub time : earlier.time ≤ later.time
  pub clock_in : later.clock ≤ max_time
  pub time_in : later.time ≤ max_time

-- a clock that went on by d while the time went on by e keeps the bound where neither is too far ahead
within-plain : (ppm d e : ℕ) → 1000000 * e < 1000000 * d + ppm * d + 1000000 → 1000000 * d < 1000000 * e + ppm * d + 1000000
    → distance d e ≤ widening ppm d
unfolding widening
within-plain ppm d e slow fast = omega arith

slow-plain : (ppm d e : ℕ) → distance d e ≤ widening ppm d → 1000000 * e < 1000000 * d + ppm * d + 1000000
unfolding widening
slow-plain ppm d e h = omega arith

fast-plain : (ppm d e : ℕ) → distance d e ≤ widening ppm d → 1000000 * d < 1000000 * e + ppm * d + 1000000
unfolding widening
fast-plain ppm d e h = omega arith

-- the marks of two moments, of which the later is d after the other by its clock and e after it by the time
slow_iff : (ppm c d e z : ℕ) → (1000000 * e < 1000000 * d + ppm * d + 1000000) ↔ ((1000000 + ppm) * c + 1000000 * (z + e) < (1000000 + ppm) * (c + d) + 1000000 * z + 1000000)
slow_iff ppm c d e z = (λ h. omega arith, λ h. omega arith)

fast_iff : (ppm t d e y k : ℕ) → k + ppm ≡ 1000000 → (1000000 * d < 1000000 * e + ppm * d + 1000000) ↔ (1000000 * t + k * (y + d) < 1000000 * (t + e) + k * y + 1000000)
fast_iff ppm t d e y k rest =
    let split : k * d + ppm * d ≡ 1000000 * d = omega (arith, ap (λ (n : ℕ). n * d) rest) in
    (λ h. omega (arith, split), λ h. omega (arith, split))

marked-slow : (ppm : ℕ) (other now : Moment) (d e z : ℕ) → now.clock ≡ other.clock + d → max_time - other.time ≡ z + e → z ≡ max_time - now.time
    → (1000000 * e < 1000000 * d + ppm * d + 1000000) ↔ (slow_mark ppm other < slow_mark ppm now + 1000000)
marked-slow ppm other now d e z clock_is z_is z_now =
    subst₂ (λ (c r : ℕ). (1000000 * e < 1000000 * d + ppm * d + 1000000) ↔ ((1000000 + ppm) * other.clock + 1000000 * r < (1000000 + ppm) * c + 1000000 * (max_time - now.time) + 1000000)) (sym clock_is) (sym z_is)
    (subst (λ (n : ℕ). (1000000 * e < 1000000 * d + ppm * d + 1000000) ↔ ((1000000 + ppm) * other.clock + 1000000 * (z + e) < (1000000 + ppm) * (other.clock + d) + 1000000 * n + 1000000)) z_now (slow_iff ppm other.clock d e z))

marked-fast : (ppm : ℕ) (other now : Moment) (d e y k : ℕ) → k + ppm ≡ 1000000 → k ≡ 1000000 - ppm → now.time ≡ other.time + e → max_time - other.clock ≡ y + d → y ≡ max_time - now.clock
    → (1000000 * d < 1000000 * e + ppm * d + 1000000) ↔ (fast_mark ppm other < fast_mark ppm now + 1000000)
marked-fast ppm other now d e y k rest k_is time_is y_is y_now =
    subst₂ (λ (t r : ℕ). (1000000 * d < 1000000 * e + ppm * d + 1000000) ↔ (1000000 * other.time + (1000000 - ppm) * r < 1000000 * t + (1000000 - ppm) * (max_time - now.clock) + 1000000)) (sym time_is) (sym y_is)
    (subst₂ (λ (n j : ℕ). (1000000 * d < 1000000 * e + ppm * d + 1000000) ↔ (1000000 * other.time + j * (n + d) < 1000000 * (other.time + e) + j * (max_time - now.clock) + 1000000)) (sym y_now) k_is
    (fast_iff ppm other.time d e (max_time - now.clock) k rest))

Decides-leb : (a b : ℕ) → Decides (nat_le a b) (a ≤ b)
Decides-leb a b = (leb-true a b, le-leb a b)

-- whether two moments agree, by their marks
agrees-marks : (ppm : ℕ) (now other : Moment) → ppm ≤ 1000000 → IsAfter now other
    → nat_le (distance (distance now.clock other.clock) (distance now.time other.time)) (widening ppm (distance now.clock other.clock))
    ≡ (nat_lt (slow_mark ppm other) (slow_mark ppm now + 1000000) && nat_lt (fast_mark ppm other) (fast_mark ppm now + 1000000))
agrees-marks ppm now other drift after =
    let d : ℕ = now.clock - other.clock in
    let e : ℕ = now.time - other.time in
    let y : ℕ = max_time - now.clock in
    let z : ℕ = max_time - now.time in
    let k : ℕ = 1000000 - ppm in
    let clock_is : now.clock ≡ other.clock + d = omega (arith, after.clock) in
    let time_is : now.time ≡ other.time + e = omega (arith, after.time) in
    let y_is : max_time - other.clock ≡ y + d = omega (arith, after.clock, after.clock_in) in
    let z_is : max_time - other.time ≡ z + e = omega (arith, after.time, after.time_in) in
    let rest : k + ppm ≡ 1000000 = omega (arith, drift) in
    let clocks : distance now.clock other.clock ≡ d = omega (arith, after.clock) in
    let times : distance now.time other.time ≡ e = omega (arith, after.time) in
    let slow : (1000000 * e < 1000000 * d + ppm * d + 1000000) ↔ (slow_mark ppm other < slow_mark ppm now + 1000000) =
    marked-slow ppm other now d e z clock_is z_is refl in
    let fast : (1000000 * d < 1000000 * e + ppm * d + 1000000) ↔ (fast_mark ppm other < fast_mark ppm now + 1000000) =
    marked-fast ppm other now d e y k rest refl time_is y_is refl in
    ap₂ (λ (m n : ℕ). nat_le (distance m n) (widening ppm m)) clocks times
    ∙ same_from_decides (nat_le (distance d e) (widening ppm d)) _
    (Decides-like _ (λ h. (slow.0 (slow-plain ppm d e h), fast.0 (fast-plain ppm d e h))) (λ h. within-plain ppm d e (slow.1 h.0) (fast.1 h.1)) (Decides-leb (distance d e) (widening ppm d)))
    (Decides-and _ _ (Decides-ltb (slow_mark ppm other) (slow_mark ppm now + 1000000)) (Decides-ltb (fast_mark ppm other) (fast_mark ppm now + 1000000)))

-- a number is above the greater of two exactly where it is above both
ltb-max : (a b n : ℕ) → nat_lt (max a b) n ≡ (nat_lt a n && nat_lt b n)
ltb-max a b n = same_from_decides (nat_lt (max a b) n) _ (Decides-like _ (λ (h : max a b < n). (omega arith, omega arith)) (λ h. omega (arith, h.0, h.1)) (Decides-ltb (max a b) n)) (Decides-and _ _ (Decides-ltb a n) (Decides-ltb b n))

four-tests : (a b c d : Bool) → ((a && b) && (c && d)) ≡ ((a && c) && (b && d))
four-tests false b c d = refl
four-tests true false false d = refl
four-tests true false true d = refl
four-tests true true c d = refl

-- a moment agrees with all those before it exactly where it is in pace with them
pub agrees-in_pace : (ppm : ℕ) (now : Moment) (others : List Moment) → ppm ≤ 1000000 → AllByRecursion (IsAfter now) others
    → agrees_with_all ppm now others ≡ is_in_pace ppm (pace_of ppm others) now
agrees-in_pace ppm now [] drift after =
    sym (ap₂ (λ (a b : Bool). a && b) (lt-ltb 0 (slow_mark ppm now + 1000000) (omega arith)) (lt-ltb 0 (fast_mark ppm now + 1000000) (omega arith)))
agrees-in_pace ppm now (other ∷ others) drift after =
    let s : ℕ = slow_mark ppm now + 1000000 in
    let f : ℕ = fast_mark ppm now + 1000000 in
    let kept : Pace = pace_of ppm others in
    ap₂ (λ (a b : Bool). a && b) (agrees-marks ppm now other drift after.0) (agrees-in_pace ppm now others drift after.1)
    ∙ four-tests (nat_lt (slow_mark ppm other) s) (nat_lt (fast_mark ppm other) f) (nat_lt kept.slow s) (nat_lt kept.fast f)
    ∙ sym (ap₂ (λ (a b : Bool). a && b) (ltb-max (slow_mark ppm other) kept.slow s) (ltb-max (fast_mark ppm other) kept.fast f))
