-- A rate holds for the time between its two samples.
use Rattle.std.proofs.Common.{◌≡◌, ℕ, ◌+◌, ◌-◌, ◌*◌, ◌/◌, ◌%◌, ◌<◌, ◌≤◌, Bool, true, false, refl, sym, subst, ap, arith, mod-lt}
use Rattle.std.specs.Prelude.{nat_lt}
use Rattle.std.proofs.lemmas.Bool.Decides.{nat_tests}
use Rattle.std.proofs.lemmas.Nat.{div-add-mod'}
use Rattle.tt_span.specs.Drift.{distance}
use Rattle.tt_span.specs.Interval.{Interval, Holds}
use Rattle.tt_health.specs.Rate.{IsRateOf, billion, ends_of, parts_of, rate_between, width_of}
use Rattle.tt_health.specs.declared.rates.Rate.{Rate}
use Rattle.tt_health.specs.declared.rates.Sample.{Sample}

-- q is an amount in parts of 2 * d, rounded down
pub record IsPart (x d q : ℕ) : Type 0 where
  pub least : 2 * (d * q) ≤ x
  pub most : x < 2 * (d * q) + 2 * d

part : (x d : ℕ) → 0 < d → IsPart x d (x / (2 * d))
part x d positive =
    let twice : 0 < 2 * d = omega (arith, positive) in
    let whole : x / (2 * d) * (2 * d) + x % (2 * d) ≡ x = div-add-mod' x (2 * d) in
    let rest : x % (2 * d) < 2 * d = mod-lt x twice in
    record { least = omega (arith, whole); most = omega (arith, whole, rest) }

faster : (fl fh ll lh d from to x s q e : ℕ) → fl ≤ from → from ≤ fh → ll ≤ to → to ≤ lh → x + (fl + fh + 2 * d) ≡ ll + lh → s + ll + fl ≡ lh + fh
    → IsPart (x * billion) d q → IsPart (s * billion) d e → IsRateOf (record { below = false; size = q; error = e + 2 }) d from to
faster fl fh ll lh d from to x s q e a b c f is wide size error = record {
  least = omega (arith, a, b, c, f, is, wide, size.least, error.most);
  most = omega (arith, a, b, c, f, is, wide, size.most, error.most);
}

slower : (fl fh ll lh d from to x s q e : ℕ) → fl ≤ from → from ≤ fh → ll ≤ to → to ≤ lh → x + (ll + lh) ≡ fl + fh + 2 * d → s + ll + fl ≡ lh + fh
    → IsPart (x * billion) d q → IsPart (s * billion) d e → IsRateOf (record { below = true; size = q; error = e + 2 }) d from to
slower fl fh ll lh d from to x s q e a b c f is wide size error = record {
  least = omega (arith, a, b, c, f, is, wide, size.most, error.most);
  most = omega (arith, a, b, c, f, is, wide, size.least, error.most);
}

rate_by : (first last : Interval) (d from to : ℕ) (b : Bool) → nat_lt (ends_of last) (ends_of first + 2 * d) ≡ b → 0 < d → Holds first from → Holds last to
    → IsRateOf (record { below = b; size = parts_of (distance (ends_of last) (ends_of first + 2 * d)) (2 * d); error = parts_of (width_of last + width_of first) (2 * d) + 2 }) d from to
rate_by first last d from to true is positive in_first in_last =
    let less : ends_of last < ends_of first + 2 * d = grind (arith, nat_tests) in
    slower first.lo first.hi last.lo last.hi d from to (distance (ends_of last) (ends_of first + 2 * d)) (width_of last + width_of first) _ _ in_first.0 in_first.1 in_last.0 in_last.1
    (omega (arith, less)) (omega (arith, in_first.0, in_first.1, in_last.0, in_last.1)) (part _ d positive) (part _ d positive)
rate_by first last d from to false is positive in_first in_last =
    let more : ends_of first + 2 * d ≤ ends_of last = grind (arith, nat_tests) in
    faster first.lo first.hi last.lo last.hi d from to (distance (ends_of last) (ends_of first + 2 * d)) (width_of last + width_of first) _ _ in_first.0 in_first.1 in_last.0 in_last.1
    (omega (arith, more)) (omega (arith, in_first.0, in_first.1, in_last.0, in_last.1)) (part _ d positive) (part _ d positive)

-- the time of a source that lies in both spans went on by the rate between them
pub rate_holds : (first last : Interval) (d from to : ℕ) → 0 < d → Holds first from → Holds last to → IsRateOf (rate_between first last d) d from to
rate_holds first last d from to positive in_first in_last = rate_by first last d from to (nat_lt (ends_of last) (ends_of first + 2 * d)) refl positive in_first in_last

-- the same of the samples of a track
pub samples_hold : (a b first last : Sample) (d from to : ℕ) (rate : Rate) → a ≡ first → b ≡ last → d ≡ b.clock - a.clock → rate ≡ rate_between a.span b.span d → 0 < d
    → Holds first.span from → Holds last.span to → IsRateOf rate (last.clock - first.clock) from to
samples_hold a b first last d from to rate same_a same_b is_d is positive in_first in_last =
    let in_a : Holds a.span from = subst (λ (s : Sample). Holds s.span from) (sym same_a) in_first in
    let in_b : Holds b.span to = subst (λ (s : Sample). Holds s.span to) (sym same_b) in_last in
    let length : d ≡ last.clock - first.clock = omega (arith, is_d, ap (λ (s : Sample). s.clock) same_a, ap (λ (s : Sample). s.clock) same_b) in
    subst (λ (r : Rate). IsRateOf r (last.clock - first.clock) from to) (sym is)
    (subst (λ (n : ℕ). IsRateOf (rate_between a.span b.span d) n from to) length (rate_holds a.span b.span d from to positive in_a in_b))
