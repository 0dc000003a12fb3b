-- The laws of what a clock may go wrong by.
use Rattle.std.proofs.Common.{◌≡◌, ℕ, ◌+◌, ◌*◌, ◌/◌, ◌%◌, ◌≤◌, ap, ◌∙◌, arith}
use Rattle.std.specs.Int.{div_ceil}
use Rattle.std.proofs.Math.Nat.{mul-le-mul_left}
use Rattle.tt_span.specs.Drift.{widening, IsWidening, max_drift}

-- the quotient rounded up is the least number that is enough
pub least-widening : (ppm d : ℕ) → IsWidening ppm d (widening ppm d)
unfolding widening
least-widening ppm d = record { enough = omega arith; least = λ v h. omega arith }

pub zero-widening : (ppm : ℕ) → widening ppm 0 ≡ 0
unfolding widening
zero-widening ppm = omega arith

pub rises-widening : (ppm c d : ℕ) → c ≤ d → widening ppm c ≤ widening ppm d
unfolding widening
rises-widening ppm c d h = omega (arith, mul-le-mul_left ppm h)

pub subadditive-widening : (ppm c d : ℕ) → widening ppm (c + d) ≤ widening ppm c + widening ppm d
unfolding widening
subadditive-widening ppm c d = omega arith

pub bound-widening : (ppm d : ℕ) → ppm ≤ max_drift → widening ppm d ≤ d
unfolding widening
bound-widening ppm d h = omega (arith, mul-le-mul_left d h)

-- by whole millions and a rest
pub split-widening : (ppm q r : ℕ) → q * ppm + (r * ppm + 999999) / 1000000 ≡ widening ppm (q * 1000000 + r)
unfolding widening
split-widening ppm q r = omega arith

-- the quotient rounded up, in the two ways that it is written
ceil_of : (x : ℕ) → div_ceil x 1000000 ≡ (x + 999999) / 1000000
ceil_of x = omega arith

-- the same, as it is computed
pub parts-widening : (ppm d : ℕ) → d / 1000000 * ppm + div_ceil (d % 1000000 * ppm) 1000000 ≡ widening ppm d
parts-widening ppm d =
    let whole : d / 1000000 * 1000000 + d % 1000000 ≡ d = omega arith in
    ap (λ n. d / 1000000 * ppm + n) (ceil_of (d % 1000000 * ppm)) ∙ split-widening ppm (d / 1000000) (d % 1000000) ∙ ap (widening ppm) whole
