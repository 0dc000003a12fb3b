-- What another process reads in the shared file of a machine is what the machine published.
use Rattle.std.proofs.Common.{◌≡◌, ◌≢◌, ℕ, ◌+◌, ◌-◌, ◌*◌, ◌/◌, ◌^◌, ◌<◌, ◌≤◌, min, cond, nat_eq, nat_lt, Bool, true, false, List, ◌∷◌, ap, ◌∙◌, subst, sym, arith, refl, mul-le-mul_right, div-mul-le_self}
use Rattle.std.proofs.lemmas.Bool.{eqb-true, ltb-false}
use Rattle.tt_span.specs.Time.{max_time}
use Rattle.tt_span.specs.Drift.{Moment, KeepsDrift, aged, max_drift, widening}
use Rattle.tt_span.proofs.Widening.{least-widening}
use Rattle.tt_span.specs.Interval.{Interval, IsInterval, Holds}
use Rattle.tt_daemon.specs.Publication.{Publication}
use Rattle.tt_publish.specs.Reading.{CanBeReadAt, fused_span_of, reading_at}
use Rattle.tt_settings.specs.declared.plans.Pauses.{Pauses}
use Rattle.tt_shared.specs.declared.slots.SharedSpan.{SharedSpan}
use Rattle.tt_shared.specs.Looking.{word_of}
use Rattle.tt_shared.specs.Seeing.{IsSeen}
use Rattle.tt_shared.specs.Slot.{IsShared, IsSlewed, IsSlotOf, no_base}
use Rattle.tt_shared.proofs.Finding.{found}
use Rattle.tt_consistency.specs.Reads.{IsNoEarlier}
use Rattle.tt_consistency.specs.Timeline.{HeldTrueTime}
use Rattle.tt_consistency.proofs.Reading.{reading-holds}
use Rattle.tt_sharing.specs.Share.{growing_time, shared_of, usable_until, without_slewed}

pub cut_fits : (x : ℕ) → min x (2 ^ 64 - 1) < 2 ^ 64
cut_fits x = omega arith

-- in each of its cases it is below 2^64
split_usable : (none wide : Bool) (grown clock : ℕ) → clock ≤ max_time → cond none (2 ^ 64 - 1) (cond wide (clock - 1) (min grown (2 ^ 64 - 1))) < 2 ^ 64
split_usable true wide grown clock in_time = omega arith
split_usable false true grown clock in_time = omega (arith, in_time)
split_usable false false grown clock in_time = omega arith

pub usable_fits : (clock : ℕ) (span : Interval) (ppm most : ℕ) → clock ≤ max_time → usable_until clock span ppm most < 2 ^ 64
usable_fits clock span ppm most in_time = split_usable (nat_eq most (2 ^ 64 - 1)) (nat_lt most (span.hi - span.lo)) _ clock in_time

-- the numbers of no second base are in range
none_in : IsSlewed no_base
none_in = record { clock_in = omega arith; span_in = record { ordered = omega arith; in_time = omega arith }; drift_in = omega arith; valid_fits = omega arith; usable_fits = omega arith }

pub in_range : (publication : Publication) (epoch number needed : ℕ) (pauses : Pauses) (drift most : ℕ) → publication.clock ≤ max_time → IsInterval publication.span → epoch < 2 ^ 64 → number < 2 ^ 64 → drift ≤ max_drift → IsShared (shared_of publication epoch number needed pauses drift most)
in_range publication epoch number needed pauses drift most clock span epoch_fits number_fits drift_in = record {
  clock_in = clock;
  span_in = span;
  valid_fits = cut_fits _;
  epoch_fits = epoch_fits;
  number_fits = number_fits;
  drift_in = drift_in;
  usable_fits = usable_fits publication.clock publication.span drift most clock;
  slewed_in = none_in;
}

-- the publication that is found is the one that was shared, but for its second base
found_is : (published : ℕ → SharedSpan) (n : ℕ) (index bytes : List ℕ) (slot shared : SharedSpan) → IsSeen published n index bytes index → without_slewed (published n) ≡ shared → IsShared (published n) → IsSlotOf (word_of index) slot bytes → without_slewed slot ≡ shared
found_is published n index bytes slot shared seen is in_range spelled = ap without_slewed (found published n index bytes slot seen in_range spelled) ∙ is

same_reading : (a b : SharedSpan) (clock : ℕ) → a ≡ b → reading_at a.drift a.fused clock ≡ reading_at b.drift b.fused clock
same_reading a b clock e = ap (λ (s : SharedSpan). reading_at s.drift s.fused clock) e

pub is_of_life : (published : ℕ → SharedSpan) (n : ℕ) (index bytes : List ℕ) (slot : SharedSpan) (clock : ℕ) (publication : Publication) (epoch number needed : ℕ) (pauses : Pauses) (drift most : ℕ) →
    IsSeen published n index bytes index → without_slewed (published n) ≡ shared_of publication epoch number needed pauses drift most → IsShared (published n) → IsSlotOf (word_of index) slot bytes →
    reading_at slot.drift slot.fused clock ≡ reading_at drift (fused_span_of publication) clock
is_of_life published n index bytes slot clock publication epoch number needed pauses drift most seen is in_range spelled =
    let shared : SharedSpan = shared_of publication epoch number needed pauses drift most in
    same_reading (without_slewed slot) shared clock (found_is published n index bytes slot shared seen is in_range spelled)

pub holds : (published : ℕ → SharedSpan) (n : ℕ) (index bytes : List ℕ) (slot : SharedSpan) (clock time : ℕ) (publication : Publication) (epoch number needed : ℕ) (pauses : Pauses) (drift most : ℕ) (moments : List Moment) →
    IsSeen published n index bytes index → without_slewed (published n) ≡ shared_of publication epoch number needed pauses drift most → IsShared (published n) → IsSlotOf (word_of index) slot bytes → CanBeReadAt slot.fused clock →
    HeldTrueTime moments (fused_span_of publication) → KeepsDrift drift (record { clock = clock; time = time } ∷ moments) → IsNoEarlier moments (fused_span_of publication) time → time ≤ max_time →
    Holds (reading_at slot.drift slot.fused clock) time
holds published n index bytes slot clock time publication epoch number needed pauses drift most moments seen is in_range spelled can held keeps no_earlier in_time =
    let shared : SharedSpan = shared_of publication epoch number needed pauses drift most in
    let same : without_slewed slot ≡ shared = found_is published n index bytes slot shared seen is in_range spelled in
    let at : CanBeReadAt (fused_span_of publication) clock = subst (λ (s : SharedSpan). CanBeReadAt s.fused clock) same can in
    let truly : Holds (reading_at drift (fused_span_of publication) clock) time = reading-holds drift moments (fused_span_of publication) clock time held keeps no_earlier in_time at in
    subst (λ (i : Interval). Holds i time) (sym (same_reading (without_slewed slot) shared clock same)) truly

-- ---- no reading is wider than the machine allows

-- as long as the ends of a span have room, they do not grow by more
grows-if : (none : Bool) (ppm d room : ℕ) → none ≡ nat_eq ppm 0 → d ≤ cond none (2 ^ 64 - 1) (min (room * 1000000) (2 ^ 64 - 1) / ppm) → widening ppm d ≤ room
grows-if true ppm d room is le =
    let no_drift : ppm ≡ 0 = eqb-true ppm 0 (sym is) in
    (least-widening ppm d).least room (subst (λ (p : ℕ). d * p ≤ room * 1000000) (sym no_drift) (omega arith))
grows-if false ppm d room is le =
    let whole = min (room * 1000000) (2 ^ 64 - 1) in
    let times : d * ppm ≤ whole / ppm * ppm = mul-le-mul_right ppm le in
    let below : whole / ppm * ppm ≤ whole = div-mul-le_self whole ppm in
    (least-widening ppm d).least room (omega (arith, times, below))

grows : (ppm d room : ℕ) → d ≤ growing_time room ppm → widening ppm d ≤ room
grows ppm d room le = grows-if _ ppm d room refl le

-- a span whose ends grow by at most this much is at most so wide
stays : (lo hi d w room most : ℕ) → w ≤ room → hi - lo + room + room ≤ most → min (hi + d + w) max_time - min (lo + d - w) max_time ≤ most
stays lo hi d w room most le fits = omega (arith, le, fits)

-- the same by the limit of a publication
pub within : (clock at ppm most : ℕ) (span : Interval) (none wide : Bool) → none ≡ nat_eq most (2 ^ 64 - 1) → wide ≡ nat_lt most (span.hi - span.lo) → clock ≤ at → most < 2 ^ 64 - 1
    → at ≤ cond none (2 ^ 64 - 1) (cond wide (clock - 1) (min (clock + growing_time ((most - (span.hi - span.lo)) / 2) ppm) (2 ^ 64 - 1)))
    → cond none (2 ^ 64 - 1) (cond wide (clock - 1) (min (clock + growing_time ((most - (span.hi - span.lo)) / 2) ppm) (2 ^ 64 - 1))) ≢ 0
    → (aged ppm span (at - clock)).hi - (aged ppm span (at - clock)).lo ≤ most
within clock at ppm most span true wide is_none is_wide after below le some = omega (arith, eqb-true _ _ (sym is_none), below)
within clock at ppm most span false true is_none is_wide after below le some = absurd (some (omega (arith, after, le)))
within clock at ppm most span false false is_none is_wide after below le some =
    let room = (most - (span.hi - span.lo)) / 2 in
    let small : span.hi - span.lo ≤ most = ltb-false _ _ (sym is_wide) in
    let w : widening ppm (at - clock) ≤ room = grows ppm (at - clock) room (omega (arith, le)) in
    stays span.lo span.hi (at - clock) (widening ppm (at - clock)) room most w (omega (arith, small))

pub narrow : (publication : Publication) (epoch number needed clock : ℕ) (pauses : Pauses) (drift most : ℕ) → IsInterval publication.span → publication.clock ≤ clock → most < 2 ^ 64 - 1
    → clock ≤ (shared_of publication epoch number needed pauses drift most).usable_until
    → (shared_of publication epoch number needed pauses drift most).usable_until ≢ 0
    → (reading_at drift (fused_span_of publication) clock).hi - (reading_at drift (fused_span_of publication) clock).lo ≤ most
narrow publication epoch number needed clock pauses drift most valid after below le some =
    within publication.clock clock drift most publication.span _ _ refl refl after below le some
