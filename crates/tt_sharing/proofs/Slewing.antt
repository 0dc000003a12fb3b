-- What the second base says holds the true time.
use Rattle.std.proofs.Common.{◌≡◌, ◌≢◌, ℕ, ◌+◌, ◌-◌, ◌*◌, ◌^◌, ◌<◌, ◌≤◌, min, cond, not, eqb, leb, ◌&&◌, Bool, true, false, List, [], ◌∷◌, inl, inr, Option, Some, None, refl, sym, ap, ◌∙◌, subst, arith, mul-le-mul_right}
use Rattle.std.specs.Prelude.{unwrap_or}
use Rattle.std.proofs.Math.Nat.{mul-le-mul_left}
use Rattle.std.proofs.lemmas.Bool.{and_parts, eqb-false, leb-true, not-true}
use Rattle.tt_span.specs.Time.{max_time, cut}
use Rattle.tt_span.specs.Interval.{Interval, IsInterval, Holds}
use Rattle.tt_span.specs.Drift.{AgreesWith, KeepsDrift, Moment, aged, distance, max_drift, widening}
use Rattle.tt_span.proofs.Widening.{bound-widening, least-widening, rises-widening, subadditive-widening}
use Rattle.tt_publish.specs.Reading.{CanBeReadAt, reading_at}
use Rattle.tt_publish.specs.declared.readings.FusedSpan.{FusedSpan}
use Rattle.tt_shared.specs.declared.bases.SlewedBase.{SlewedBase}
use Rattle.tt_shared.specs.declared.slots.SharedSpan.{SharedSpan}
use Rattle.tt_shared.specs.Looking.{word_of}
use Rattle.tt_shared.specs.Seeing.{IsSeen}
use Rattle.tt_shared.specs.Slot.{IsShared, IsSlewed, IsSlotOf, no_base}
use Rattle.tt_shared.proofs.Finding.{found as copied}
use Rattle.tt_consistency.specs.Reads.{IsNoEarlier}
use Rattle.tt_consistency.specs.Timeline.{HeldTrueTime, IsAmong}
use Rattle.tt_consistency.proofs.Reading.{reading-holds}
use Rattle.tt_host.specs.Slew.{KeepsSlew}
use Rattle.tt_host.specs.declared.slews.SlewLook.{SlewLook}
use Rattle.tt_sharing.specs.Share.{usable_until}
use Rattle.tt_sharing.specs.Slewed.{BothClocks, IsAtLook, base_by, base_with, by_raw, by_slewed, gives_base, is_forward, slewed_drift, span_over, with_slewed}
use Rattle.tt_sharing.proofs.Finding.{cut_fits, usable_fits, within}

-- ---- the ends of a reading do not go back

low_grows : (x d e w v : ℕ) → d ≤ e → v ≤ w + (e - d) → cut (x + d - w) ≤ cut (x + e - v)
low_grows x d e w v le more = omega arith

high_grows : (x d e w v : ℕ) → d ≤ e → w ≤ v → cut (x + d + w) ≤ cut (x + e + v)
high_grows x d e w v le more = omega arith

apart : (lo hi d e w v : ℕ) → lo ≤ hi → d ≤ e → cut (lo + d - w) ≤ cut (hi + e + v)
apart lo hi d e w v le later = omega arith

rest_is : (d e : ℕ) → d ≤ e → d + (e - d) ≡ e
rest_is d e le = omega arith

-- a widening grows by no more than the distance
grows_by : (ppm d e : ℕ) → ppm ≤ max_drift → d ≤ e → widening ppm e ≤ widening ppm d + (e - d)
grows_by ppm d e drift_in le =
    let parts : widening ppm (d + (e - d)) ≤ widening ppm d + widening ppm (e - d) = subadditive-widening ppm d (e - d) in
    let small : widening ppm (e - d) ≤ e - d = bound-widening ppm (e - d) drift_in in
    subst (λ (n : ℕ). widening ppm n ≤ widening ppm d + (e - d)) (rest_is d e le) (omega (arith, parts, small))

-- what holds a time between two readings lies between their ends
spans : (ppm a b c time : ℕ) (i : Interval) → ppm ≤ max_drift → a ≤ b → b ≤ c → Holds (aged ppm i b) time → Holds (record { lo = (aged ppm i a).lo; hi = (aged ppm i c).hi }) time
spans ppm a b c time i drift_in ab bc held =
    let low : (aged ppm i a).lo ≤ (aged ppm i b).lo = low_grows i.lo a b (widening ppm a) (widening ppm b) ab (grows_by ppm a b drift_in ab) in
    let high : (aged ppm i b).hi ≤ (aged ppm i c).hi = high_grows i.hi b c (widening ppm b) (widening ppm c) bc (rises-widening ppm b c bc) in
    (omega (arith, low, held.0), omega (arith, high, held.1))

since : (clock a b : ℕ) → a ≤ b → a - clock ≤ b - clock
since clock a b le = omega arith

pub in_order : (p : SharedSpan) (look : SlewLook) → IsInterval p.fused.span → look.before ≤ look.after → (span_over p look).lo ≤ (span_over p look).hi
in_order p look valid le =
    apart p.fused.span.lo p.fused.span.hi (look.before - p.fused.clock) (look.after - p.fused.clock) (widening p.drift (look.before - p.fused.clock)) (widening p.drift (look.after - p.fused.clock))
    valid.ordered (since p.fused.clock look.before look.after le)

-- ---- a look that gives a second base

record IsGiven (p : SharedSpan) (look : SlewLook) (slew most : ℕ) (base : SlewedBase) : Type 0 where
  pub drift_in : slewed_drift p.drift slew ≤ max_drift
  pub after_it : p.fused.clock ≤ look.before
  pub onward : look.before ≤ look.after
  pub in_time : look.after ≤ max_time
  pub shown_in : look.slewed ≤ max_time
  pub usable : usable_until look.slewed (span_over p look) (slewed_drift p.drift slew) most ≢ 0
  pub is : base_with p look (slewed_drift p.drift slew) most ≡ base

chosen : {A : Type 0} (b : Bool) (x y : A) → cond b (Some x) None ≡ Some y → (b ≡ true) × (x ≡ y)
chosen true x y e = (refl, cc)
chosen false x y e = absurd cc

some_number : (n : ℕ) → not (eqb n 0) ≡ true → n ≢ 0
some_number n e = eqb-false n 0 (not-true (eqb n 0) e)

forward : (p : SharedSpan) (look : SlewLook) → is_forward p look ≡ true → (p.fused.clock ≤ look.before) × (look.before ≤ look.after) × (look.after ≤ max_time) × (look.slewed ≤ max_time)
forward p look e =
    let outer = and_parts ((leb p.fused.clock look.before && leb look.before look.after) && leb look.after max_time) (leb look.slewed max_time) e in
    let inner = and_parts (leb p.fused.clock look.before && leb look.before look.after) (leb look.after max_time) outer.0 in
    let first = and_parts (leb p.fused.clock look.before) (leb look.before look.after) inner.0 in
    (leb-true _ _ first.0, leb-true _ _ first.1, leb-true _ _ inner.1, leb-true _ _ outer.1)

given : (p : SharedSpan) (look : SlewLook) (slew most : ℕ) (base : SlewedBase) → base_by p look slew most ≡ Some base → IsGiven p look slew most base
unfolding base_by
given p look slew most base e =
    let one = chosen (gives_base p look slew most) (base_with p look (slewed_drift p.drift slew) most) base e in
    let outer = and_parts (leb (slewed_drift p.drift slew) max_drift && is_forward p look) (not (eqb (usable_until look.slewed (span_over p look) (slewed_drift p.drift slew) most) 0)) one.0 in
    let inner = and_parts (leb (slewed_drift p.drift slew) max_drift) (is_forward p look) outer.0 in
    let on = forward p look inner.1 in
    record {
      drift_in = leb-true _ _ inner.0;
      after_it = on.0;
      onward = on.1;
      in_time = on.2;
      shown_in = on.3;
      usable = some_number _ outer.1;
      is = one.1;
    }

-- ---- it can be written and read

cut_in_time : (x : ℕ) → min x max_time ≤ max_time
cut_in_time x = omega arith

base_in : (p : SharedSpan) (look : SlewLook) (slew most : ℕ) (base : SlewedBase) → IsShared p → IsGiven p look slew most base → IsSlewed base
base_in p look slew most base shared h =
    subst IsSlewed h.is (record {
      clock_in = h.shown_in;
      span_in = record { ordered = in_order p look shared.span_in h.onward; in_time = cut_in_time _ };
      drift_in = h.drift_in;
      valid_fits = cut_fits _;
      usable_fits = usable_fits look.slewed (span_over p look) (slewed_drift p.drift slew) most h.shown_in;
    })

either_in : (o : Option SlewedBase) (before : SlewedBase) → IsSlewed before → ((b : SlewedBase) → o ≡ Some b → IsSlewed b) → IsSlewed (unwrap_or o before)
either_in None before h some = h
either_in (Some b) before h some = some b refl

pub in_range : (p : SharedSpan) (look : SlewLook) (slew most : ℕ) → IsShared p → IsShared (with_slewed p look slew most)
in_range p look slew most h = record {
  clock_in = h.clock_in;
  span_in = h.span_in;
  valid_fits = h.valid_fits;
  usable_fits = h.usable_fits;
  epoch_fits = h.epoch_fits;
  number_fits = h.number_fits;
  drift_in = h.drift_in;
  slewed_in = either_in (base_by p look slew most) p.slewed h.slewed_in (λ b e. base_in p look slew most b h (given p look slew most b e));
}

-- ---- it is the one that a reader finds

one_of : (o : Option SlewedBase) (before seen : SlewedBase) → seen ≡ unwrap_or o before → before ≡ no_base → seen.usable_until ≢ 0 → o ≡ Some seen
one_of None before seen e none some = absurd (some (ap (λ (b : SlewedBase). b.usable_until) (e ∙ none)))
one_of (Some b) before seen e none some = ap Some (sym e)

pub found : (published : ℕ → SharedSpan) (n : ℕ) (index bytes : List ℕ) (slot p : SharedSpan) (look : SlewLook) (slew most : ℕ) →
    IsSeen published n index bytes index → published n ≡ with_slewed p look slew most → p.slewed ≡ no_base → IsShared (published n) → IsSlotOf (word_of index) slot bytes → slot.slewed.usable_until ≢ 0 →
    base_by p look slew most ≡ Some slot.slewed
found published n index bytes slot p look slew most seen is none in_range spelled some =
    one_of (base_by p look slew most) p.slewed slot.slewed (ap (λ (s : SharedSpan). s.slewed) (copied published n index bytes slot seen in_range spelled ∙ is)) none some

-- ---- its span held the true time

pub holds_then : (p : SharedSpan) (look : SlewLook) (slew most : ℕ) (base : SlewedBase) (at : BothClocks) (moments : List Moment) →
    IsShared p → base_by p look slew most ≡ Some base → IsAtLook look at → HeldTrueTime moments p.fused → KeepsDrift p.drift (by_raw at ∷ moments) → IsNoEarlier moments p.fused at.time → at.time ≤ max_time →
    Holds base.fused.span at.time
holds_then p look slew most base at moments shared gives looked held keeps no_earlier in_time =
    let h = given p look slew most base gives in
    let can : CanBeReadAt p.fused at.raw = (omega (arith, h.after_it, looked.since), omega (arith, looked.until, h.in_time)) in
    let truly : Holds (reading_at p.drift p.fused at.raw) at.time = reading-holds p.drift moments p.fused at.raw at.time held keeps no_earlier in_time can in
    let over : Holds (span_over p look) at.time =
    spans p.drift (look.before - p.fused.clock) (at.raw - p.fused.clock) (look.after - p.fused.clock) at.time p.fused.span shared.drift_in
    (since p.fused.clock look.before at.raw looked.since) (since p.fused.clock at.raw look.after looked.until) truly in
    subst (λ (b : SlewedBase). Holds b.fused.span at.time) h.is over

-- ---- it ages by its own drift

below : (raw slewed : ℕ) → raw ≤ slewed + distance raw slewed
below raw slewed = omega arith

-- e is how far the clocks are apart, w what the raw one may be wrong by, k the drift of the one over the other, and all the widening of the whole
room : (raw slewed e d s k all : ℕ) → raw ≤ slewed + e → e * 1000000 ≤ s * slewed → s * d ≤ k * 1000000 → slewed * (d + s + k) ≤ all * 1000000 → (e ≤ all) × (raw * d ≤ (all - e) * 1000000)
room raw slewed e d s k all le near enough whole =
    let over : slewed * (s * d) ≤ slewed * (k * 1000000) = mul-le-mul_left slewed enough in
    let times : e * 1000000 * d ≤ s * slewed * d = mul-le-mul_right d near in
    let both : e * d ≤ slewed * k = omega (arith, over, times) in
    let more : raw * d ≤ (slewed + e) * d = mul-le-mul_right d le in
    let fits : e ≤ all = omega (arith, near, whole) in
    (fits, omega (arith, both, more, near, whole, fits))

sum_of : (raw slewed time e w all : ℕ) → e ≡ distance raw slewed → distance raw time ≤ w → e ≤ all → w ≤ all - e → distance slewed time ≤ all
sum_of raw slewed time e w all is near fits small = omega arith

wrong_by : (d s raw slewed time : ℕ) → distance raw time ≤ widening d raw → distance raw slewed * 1000000 ≤ s * slewed → distance slewed time ≤ widening (slewed_drift d s) slewed
wrong_by d s raw slewed time near apart_by =
    let e = distance raw slewed in
    let all = widening (slewed_drift d s) slewed in
    let has = room raw slewed e d s (widening d s) all (below raw slewed) apart_by (least-widening d s).enough (least-widening (slewed_drift d s) slewed).enough in
    sum_of raw slewed time e (widening d raw) all refl near has.0 ((least-widening d raw).least (all - e) has.1)

pub drift : (d s : ℕ) (a b : BothClocks) → AgreesWith d (by_raw a) (by_raw b) → KeepsSlew s (distance a.raw b.raw) (distance a.slewed b.slewed) → AgreesWith (slewed_drift d s) (by_slewed a) (by_slewed b)
drift d s a b agrees keeps = wrong_by d s (distance a.raw b.raw) (distance a.slewed b.slewed) (distance a.time b.time) agrees keeps

-- no time from a moment on is earlier than what was made then
from_then : (at : Moment) (fused : FusedSpan) (time made : ℕ) → at.time ≤ time → IsAmong (record { clock = fused.clock; time = made }) (at ∷ []) → made ≤ time
from_then at fused time made later (inl same) = subst (λ (m : Moment). m.time ≤ time) same later
from_then at fused time made later (inr none) = absurd none

pub holds : (p : SharedSpan) (look : SlewLook) (slew most : ℕ) (base : SlewedBase) (at now : BothClocks) (moments : List Moment) →
    IsShared p → base_by p look slew most ≡ Some base → IsAtLook look at → HeldTrueTime moments p.fused → KeepsDrift p.drift (by_raw now ∷ by_raw at ∷ moments) → KeepsSlew slew (distance now.raw at.raw) (distance now.slewed at.slewed) →
    IsNoEarlier moments p.fused at.time → at.time ≤ now.time → now.time ≤ max_time → CanBeReadAt base.fused now.slewed →
    Holds (reading_at base.drift base.fused now.slewed) now.time
holds p look slew most base at now moments shared gives looked held keeps slewed no_earlier later in_time can =
    let h = given p look slew most base gives in
    let then = holds_then p look slew most base at moments shared gives looked held keeps.1 no_earlier (omega (arith, later, in_time)) in
    let made : at.slewed ≡ base.fused.clock = looked.shown ∙ ap (λ (b : SlewedBase). b.fused.clock) h.is in
    let ages : slewed_drift p.drift slew ≡ base.drift = ap (λ (b : SlewedBase). b.drift) h.is in
    let agrees : AgreesWith base.drift (by_slewed now) (by_slewed at) = subst (λ (d : ℕ). AgreesWith d (by_slewed now) (by_slewed at)) ages (drift p.drift slew now at keeps.0.0 slewed) in
    let one : HeldTrueTime (by_slewed at ∷ []) base.fused = record { time = at.time; moment = inl (ap (λ (c : ℕ). record { clock = c; time = at.time }) made); held = then } in
    reading-holds base.drift (by_slewed at ∷ []) base.fused now.slewed now.time one ((agrees, tt), (tt, tt)) (λ m among. from_then (by_slewed at) base.fused now.time m later among) in_time can

-- ---- no reading by it is wider than the machine allows

pub narrow : (p : SharedSpan) (look : SlewLook) (slew most : ℕ) (base : SlewedBase) (clock : ℕ) → base_by p look slew most ≡ Some base → most < 2 ^ 64 - 1 → base.fused.clock ≤ clock → clock ≤ base.usable_until →
    (reading_at base.drift base.fused clock).hi - (reading_at base.drift base.fused clock).lo ≤ most
narrow p look slew most base clock gives below_all after le =
    let h = given p look slew most base gives in
    subst (λ (b : SlewedBase). b.fused.clock ≤ clock → clock ≤ b.usable_until → (reading_at b.drift b.fused clock).hi - (reading_at b.drift b.fused clock).lo ≤ most) h.is
    (λ late used. within look.slewed clock (slewed_drift p.drift slew) most (span_over p look) _ _ refl refl late below_all used h.usable)
    after le
