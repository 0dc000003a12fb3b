-- The laws of which rates of a clock a drift covers.
use Rattle.std.proofs.Common.{◌≡◌, ℕ, ◌+◌, ◌-◌, ◌*◌, ◌/◌, ◌<◌, ◌≤◌, ap, arith}
use Rattle.std.proofs.Math.Nat.{le_of_mul-le-mul_right, lt_of_mul-lt-mul_right, mul-le-mul_left, mul-le-mul_right, div-mul-le_self}
use Rattle.tt_span.specs.Drift.{widening, max_drift}
use Rattle.tt_outline.specs.Rate.{LosesAtMost, GainsAtMost, loss_covered, gain_covered}

-- what is at most a part of d is at most a greater part of it
by_part : (x d p s m k : ℕ) → 0 < m → x * m ≤ d * s → s * k ≤ p * m → x * k ≤ d * p
by_part x d p s m k some small part =
    let first : x * m * k ≤ d * s * k = mul-le-mul_right k small in
    let second : d * (s * k) ≤ d * (p * m) = mul-le-mul_left d part in
    let both : x * k * m ≤ d * p * m = omega (arith, first, second) in
    le_of_mul-le-mul_right both some

-- a whole number of nanoseconds that is at most the drift's part of d is at most the widening of d
within : (p d x : ℕ) → x * 1000000 ≤ d * p → x ≤ widening p d
unfolding widening
within p d x h = omega (arith, h)

-- a clock that loses s of a billion parts loses s of m parts of what it shows
loss_of : (p d e x s m : ℕ) → d + x ≡ e → s + m ≡ 1000000000 → 0 < m → s * (1000000 + p) ≤ p * 1000000000 →
    e * 1000000000 ≤ d * 1000000000 + e * s → x ≤ widening p d
loss_of p d e x s m apart parts some most lost =
    let times_x : x * (s + m) ≡ x * 1000000000 = ap (λ n. x * n) parts in
    let times_p : p * (s + m) ≡ p * 1000000000 = ap (λ n. p * n) parts in
    let times_s : (d + x) * s ≡ e * s = ap (λ n. n * s) apart in
    let small : x * m ≤ d * s = omega (arith, lost, apart, times_x, times_s) in
    let part : s * 1000000 ≤ p * m = omega (arith, most, times_p) in
    within p d x (by_part x d p s m 1000000 some small part)

pub loss_covers : (p d e : ℕ) → d ≤ e → LosesAtMost (loss_covered p) d e → e - d ≤ widening p d
loss_covers p d e h lost =
    let s : ℕ = loss_covered p in
    let most : s * (1000000 + p) ≤ p * 1000000000 = div-mul-le_self (p * 1000000000) (1000000 + p) in
    let below : s * (1000000 + p) < 1000000000 * (1000000 + p) = omega (arith, most) in
    let few : s < 1000000000 = lt_of_mul-lt-mul_right (1000000 + p) below in
    loss_of p d e (e - d) s (1000000000 - s) (omega (arith, h)) (omega (arith, few)) (omega (arith, few)) most lost

-- a clock that gains g of a billion parts gains g of g parts and a billion of what it shows
gain_of : (p q d e x g : ℕ) → e + x ≡ d → p + q ≡ 1000000 → g * q ≤ p * 1000000000 → d * 1000000000 ≤ e * 1000000000 + e * g → x ≤ widening p d
gain_of p q d e x g apart parts most gained =
    let times_g : g * (p + q) ≡ g * 1000000 = ap (λ n. g * n) parts in
    let times_d : (e + x) * g ≡ d * g = ap (λ n. n * g) apart in
    let small : x * (1000000000 + g) ≤ d * g = omega (arith, gained, apart, times_d) in
    let part : g * 1000000 ≤ p * (1000000000 + g) = omega (arith, most, times_g) in
    within p d x (by_part x d p g (1000000000 + g) 1000000 (omega arith) small part)

pub gain_covers : (p d e : ℕ) → p ≤ max_drift → e ≤ d → GainsAtMost (gain_covered p) d e → d - e ≤ widening p d
gain_covers p d e in_range h gained =
    let most : gain_covered p * (1000000 - p) ≤ p * 1000000000 = div-mul-le_self (p * 1000000000) (1000000 - p) in
    gain_of p (1000000 - p) d e (d - e) (gain_covered p) (omega (arith, h)) (omega (arith, in_range)) most gained
