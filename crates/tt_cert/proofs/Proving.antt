-- A valid certificate's claim is the fusion.
use Rattle.std.proofs.Common.{◌≡◌, ℕ, ◌+◌, ◌-◌, ◌<◌, ◌≤◌, inl, inr, Bool, true, List, length, get_or, take, ap, arith}
use Rattle.std.specs.Prelude.{nat_le, ◌↔◌, All, IsTrue}
use Rattle.std.specs.List.{count_by}
use Rattle.std.proofs.lemmas.Bool.{cases_lt, leb-true, le-leb, and_parts, and_from}
use Rattle.std.proofs.lemmas.List.{take_all}
use Rattle.tt_span.specs.Time.{max_time}
use Rattle.tt_span.specs.Interval.{Interval, IsInterval, Holds, Meets}
use Rattle.tt_fuse.specs.Fusion.{IsPossibleTime, IsFusion}
use Rattle.tt_fuse.specs.Depth.{holds, depth}
use Rattle.tt_fuse.proofs.Possible.{holds-from_Holds, Holds-from_holds}
use Rattle.tt_cert.specs.declared.certificate.Stretch.{Stretch}
use Rattle.tt_cert.specs.Proof.{Proof}
use Rattle.tt_cert.specs.Valid.{IsSourceAt, IsSetAt, meets, meeting, IsCertificate}
use Rattle.tt_cert.proofs.Counting.{count_by-le-count_by, count_below, count_by-count_below, length-le-count_below}
use Rattle.tt_cert.proofs.Sides.{some-AreSideBySide}

-- a span
nowhere : Interval
nowhere = record { lo = 0; hi = 0 }

-- a time lies in as many spans as a set names, or more
pub depth-from_set : (spans : List Interval) (count x : ℕ) (sources : List ℕ) → IsSetAt spans count x sources → count ≤ depth spans x
depth-from_set spans count x sources set =
    let q : ℕ → Bool = λ i. holds x (get_or spans i nowhere) in
    let all : All (λ i. (i < length spans) × (q i ≡ true)) sources = λ k d below.
    let h : IsSourceAt spans x (get_or sources k d) = set.hold k d below in
    (h.0, holds-from_Holds x (get_or spans (get_or sources k d) nowhere) (h.1 nowhere)) in
    let size : length sources ≡ count = set.size in
    let few : length sources ≤ count_below q (length spans) = length-le-count_below sources q (length spans) set.distinct all in
    let whole : take (length spans) spans ≡ spans = take_all (length spans) spans (omega arith) in
    omega (arith, few, size, count_by-count_below (holds x) spans nowhere (length spans) (omega arith), ap (count_by (holds x)) whole)

-- what meets a stretch has a time in common with it
pub Meets-from_meets : (span : Interval) (s : Stretch) → span.lo ≤ span.hi → s.from ≤ s.to → IsTrue (meets s span) ↔ Meets span (record { lo = s.from; hi = s.to })
Meets-from_meets span s ordered order = (
  λ h.
      let parts = and_parts (nat_le span.lo s.to) (nat_le s.from span.hi) h in
      let begins : span.lo ≤ s.to = leb-true span.lo s.to parts.0 in
      let lasts : s.from ≤ span.hi = leb-true s.from span.hi parts.1 in
      elim (cases_lt span.lo s.from) [
        | inl before ↦ (s.from, (omega arith, lasts), (omega arith, order))
        | inr after ↦ (span.lo, (omega arith, ordered), (after, begins))
      ],
  λ w. and_from (nat_le span.lo s.to) (nat_le s.from span.hi) (le-leb span.lo s.to (omega (arith, w.1.0, w.2.1))) (le-leb s.from span.hi (omega (arith, w.1.1, w.2.0))),
)

-- no more spans hold a time of a stretch than meet it
pub depth-le-meeting : (spans : List Interval) (s : Stretch) (x : ℕ) → s.from ≤ x → x ≤ s.to → depth spans x ≤ meeting spans s
depth-le-meeting spans s x from to =
    count_by-le-count_by (holds x) (meets s) spans (λ k d below passes.
    let span : Interval = get_or spans k d in
    let h : Holds span x = Holds-from_holds x span passes in
    and_from (nat_le span.lo s.to) (nat_le s.from span.hi) (le-leb span.lo s.to (omega (arith, h.0))) (le-leb s.from span.hi (omega (arith, h.1))))

pub IsFusion-from_certificate : (spans : List Interval) (f : ℕ) (claim : Interval) (proof : Proof) → ((x : ℕ) → IsPossibleTime spans f x ↔ ((x ≤ max_time) × (length spans - f ≤ depth spans x))) → IsInterval claim → IsCertificate spans f claim proof → IsFusion spans f claim
IsFusion-from_certificate spans f claim proof law valid cert =
    let ordered : claim.lo ≤ claim.hi = valid.ordered in
    let in_time : claim.hi ≤ max_time = valid.in_time in
    let lo_possible : IsPossibleTime spans f claim.lo = (law claim.lo).1 (omega arith, depth-from_set spans (length spans - f) claim.lo proof.left cert.left) in
    let hi_possible : IsPossibleTime spans f claim.hi = (law claim.hi).1 (omega arith, depth-from_set spans (length spans - f) claim.hi proof.right cert.right) in
    let P : Stretch → Type 0 = λ s. meeting spans s < length spans - f in
    record {
      interval = valid;
      possible = (claim.lo, lo_possible);
      right = λ x p.
          let h = (law x).0 p in (
            elim (cases_lt x claim.lo) [
              | inr from ↦ from
              | inl before ↦
                  let w = some-AreSideBySide P proof.below 0 claim.lo x cert.covers.0 (omega arith) before cert.shallow.0 in
                  absurd (omega (arith, h.1, w.3, depth-le-meeting spans w.0 x w.1 w.2))
            ],
            elim (cases_lt claim.hi x) [
              | inr to ↦ to
              | inl after ↦
                  let w = some-AreSideBySide P proof.above (claim.hi + 1) (max_time + 1) x cert.covers.1 (omega arith) (omega (arith, h.0)) cert.shallow.1 in
                  absurd (omega (arith, h.1, w.3, depth-le-meeting spans w.0 x w.1 w.2))
            ],
          );
      least = λ j right. ((right claim.lo lo_possible).0, (right claim.hi hi_possible).1);
    }
