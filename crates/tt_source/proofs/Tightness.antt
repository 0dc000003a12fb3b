-- Each end of an aged statement is the true time of some run, so no narrower answer is right.
use Rattle.std.proofs.Common.{◌≡◌, ℕ, ◌+◌, ◌-◌, ◌≤◌, subst, sym, arith}
use Rattle.tt_span.specs.Time.{max_time}
use Rattle.tt_span.specs.Drift.{widening, distance, AgreesWith}
use Rattle.tt_source.specs.Statement.{Statement, IsPossibleNow, uncut_low, uncut_high}

-- what the two proofs need of the widening, where the receipt lies d back
pub record Laws (ppm d : ℕ) : Type 0 where
  pub rises : (b c : ℕ) → b ≤ c → widening ppm b ≤ widening ppm c
  pub subadditive : (b c : ℕ) → widening ppm (b + c) ≤ widening ppm b + widening ppm c
  pub bound : widening ppm d ≤ d

distance-up : (a b : ℕ) → a ≤ b → distance a b ≡ b - a
distance-up a b h = omega arith

-- two moments of which the second is not earlier
agrees-up : (ppm a b s t : ℕ) → a ≤ b → s ≤ t → distance (b - a) (t - s) ≤ widening ppm (b - a) → AgreesWith ppm (record { clock = a; time = s }) (record { clock = b; time = t })
agrees-up ppm a b s t h k e =
    subst (λ (d : ℕ). distance d (distance s t) ≤ widening ppm d) (sym (distance-up a b h))
    (subst (λ (u : ℕ). distance (b - a) u ≤ widening ppm (b - a)) (sym (distance-up s t k)) e)

pub low-is-possible : (ppm : ℕ) (s : Statement) (c : ℕ) → Laws ppm (c - s.got) → s.span.lo ≤ s.span.hi → s.sent ≤ s.got → s.got ≤ c → s.got - s.sent ≤ s.span.lo →
    uncut_low ppm s c ≤ max_time → IsPossibleNow ppm s c (uncut_low ppm s c)
low-is-possible ppm s c laws valid ordered later fits in_time =
    let bound : widening ppm (c - s.got) ≤ c - s.got = laws.bound in
    let rises : widening ppm (c - s.got) ≤ widening ppm (c - s.sent) = laws.rises (c - s.got) (c - s.sent) (omega arith) in
    let earlier : s.sent ≤ c = omega arith in
    record {
      sending = s.span.lo - (s.got - s.sent);
      giving = s.span.lo;
      receipt = s.span.lo;
      given_after_sending = omega arith;
      received_after_giving = omega arith;
      now_after_receipt = omega arith;
      in_time = in_time;
      true_when_given = (omega arith, omega arith);
      keeps = (
        (
          agrees-up ppm s.sent s.got (s.span.lo - (s.got - s.sent)) s.span.lo ordered (omega arith) (omega arith),
          (agrees-up ppm s.sent c (s.span.lo - (s.got - s.sent)) (uncut_low ppm s c) earlier (omega arith) (omega arith), tt),
        ),
        ((agrees-up ppm s.got c s.span.lo (uncut_low ppm s c) later (omega arith) (omega arith), tt), (tt, tt)),
      );
    }

pub high-is-possible : (ppm : ℕ) (s : Statement) (c : ℕ) → Laws ppm (c - s.got) → s.span.lo ≤ s.span.hi → s.sent ≤ s.got → s.got ≤ c →
    uncut_high ppm s c ≤ max_time → IsPossibleNow ppm s c (uncut_high ppm s c)
high-is-possible ppm s c laws valid ordered later in_time =
    let rises : widening ppm (s.got - s.sent) ≤ widening ppm (c - s.sent) = laws.rises (s.got - s.sent) (c - s.sent) (omega arith) in
    let parts : (s.got - s.sent) + (c - s.got) ≡ c - s.sent = omega arith in
    let sub : widening ppm (c - s.sent) ≤ widening ppm (s.got - s.sent) + widening ppm (c - s.got) =
    subst (λ (d : ℕ). widening ppm d ≤ widening ppm (s.got - s.sent) + widening ppm (c - s.got)) parts (laws.subadditive (s.got - s.sent) (c - s.got)) in
    let earlier : s.sent ≤ c = omega arith in
    record {
      sending = s.span.hi;
      giving = s.span.hi;
      receipt = s.span.hi + (s.got - s.sent) + widening ppm (s.got - s.sent);
      given_after_sending = omega arith;
      received_after_giving = omega arith;
      now_after_receipt = omega arith;
      in_time = in_time;
      true_when_given = (omega arith, omega arith);
      keeps = (
        (
          agrees-up ppm s.sent s.got s.span.hi (s.span.hi + (s.got - s.sent) + widening ppm (s.got - s.sent)) ordered (omega arith) (omega arith),
          (agrees-up ppm s.sent c s.span.hi (uncut_high ppm s c) earlier (omega arith) (omega arith), tt),
        ),
        ((agrees-up ppm s.got c (s.span.hi + (s.got - s.sent) + widening ppm (s.got - s.sent)) (uncut_high ppm s c) later (omega arith) (omega arith), tt), (tt, tt)),
      );
    }
