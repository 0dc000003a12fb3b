-- From the ends of spans to the spans.
use Rattle.std.proofs.Common.{◌≡◌, ℕ, ◌+◌, ◌-◌, ◌<◌, ◌≤◌, inl, inr, List, length, get_or, map, sym, ◌∙◌, ap, subst, refl, arith}
use Rattle.std.specs.Prelude.{nat_le, All, Any, Contains, ◌↔◌}
use Rattle.std.proofs.lemmas.Bool.{cases_lt, leb-true, and_parts}
use Rattle.std.proofs.lemmas.List.{get_or_default, get_or-map, length-map}
use Rattle.std.proofs.lemmas.List.Sorted.{Contains-permutation, IsPermutation-sym}
use Rattle.tt_span.specs.Time.{max_time}
use Rattle.tt_span.specs.Interval.{Interval, Holds}
use Rattle.tt_fuse.specs.Fusion.{IsPossibleTime, IsFusion}
use Rattle.tt_fuse.specs.Depth.{holds, depth, lower_ends, upper_ends}
use Rattle.tt_cert.specs.declared.certificate.Stretch.{Stretch}
use Rattle.tt_cert.specs.Valid.{meets, meeting}
use Rattle.tt_cert.specs.Canonical.{IsCut, IsPiece, ArePieces}
use Rattle.tt_cert.specs.Sweep.{AreEnds, IsEndCut, IsEndPiece, AreEndPieces}
use Rattle.tt_fuse.specs.Ends.{EndLists, AreInOrder, AreEndsOf}
use Rattle.tt_fuse.proofs.EndLists.{depth-ends_of, highs_of-in_time}
use Rattle.tt_cert.proofs.Counting.{count_by-le-count_by}
use Rattle.tt_fuse.proofs.Possible.{holds-from_Holds}
use Rattle.tt_cert.proofs.Proving.{depth-le-meeting}
use Rattle.tt_cert.proofs.Sides.{within-AreSideBySide}

-- an element that a function gives is what it gives of some element
any_from_map : {X : Type 0} (f : X → ℕ) (xs : List X) (t : ℕ) → Contains (map f xs) t → X → Any (λ x. f x ≡ t) xs
any_from_map f xs t c d =
    let inside : c.0 < length xs = omega (arith, c.1, length-map xs f) in
    (c.0, get_or xs c.0 d, inside, get_or_default xs c.0 (get_or xs c.0 d) d inside, sym (get_or-map f xs c.0 d t inside) ∙ c.2)

contains_map : {X : Type 0} (f : X → ℕ) (xs : List X) (k : ℕ) (x : X) → k < length xs → get_or xs k x ≡ x → Contains (map f xs) (f x)
contains_map f xs k x inside is =
    (k, omega (arith, length-map xs f), get_or-map f xs k x (f x) inside ∙ ap f is)

module _ (spans : List Interval) where
  -- as many spans hold the first time of a stretch with no cut in it as meet it
  pub meeting-uncut : (s : Stretch) → s.from ≤ s.to → ((t : ℕ) → s.from < t → t ≤ s.to → IsCut spans t → ⊥) → meeting spans s ≡ depth spans s.from
  meeting-uncut s order uncut =
      let more : depth spans s.from ≤ meeting spans s = depth-le-meeting spans s s.from (omega arith) order in
      let fewer : meeting spans s ≤ depth spans s.from =
      count_by-le-count_by (meets s) (holds s.from) spans (λ k d below passes.
      let span : Interval = get_or spans k d in
      let parts = and_parts (nat_le span.lo s.to) (nat_le s.from span.hi) passes in
      let begins : span.lo ≤ s.to = leb-true span.lo s.to parts.0 in
      let lasts : s.from ≤ span.hi = leb-true s.from span.hi parts.1 in
      elim (cases_lt s.from span.lo) [
        | inl inside ↦ absurd (uncut span.lo inside begins (k, span, below, get_or_default spans k span d below, inl refl))
        | inr begun ↦ holds-from_Holds s.from span (begun, lasts)
      ]) in
      omega arith

  -- outside the fusion no stretch is met by as many spans as a possible time needs
  pub shallow-ArePieces : (f : ℕ) (claim : Interval) → ((x : ℕ) → IsPossibleTime spans f x ↔ ((x ≤ max_time) × (length spans - f ≤ depth spans x))) → IsFusion spans f claim → (start stop : ℕ) → stop ≤ max_time + 1 → ((x : ℕ) → start ≤ x → x < stop → Holds claim x → ⊥) → (xs : List Stretch) → ArePieces spans start stop xs → All (λ s. meeting spans s < length spans - f) xs
  shallow-ArePieces f claim law fusion start stop in_time outside xs h = λ k d below.
      let s : Stretch = get_or xs k d in
      let w = within-AreSideBySide xs start stop h.side_by_side k d below in
      let same : meeting spans s ≡ depth spans s.from = meeting-uncut s w.1 (h.pieces k d below).uncut in
      elim (cases_lt (meeting spans s) (length spans - f)) [
        | inl shallow ↦ shallow
        | inr deep ↦ absurd (outside s.from w.0 (omega (arith, w.1, w.2)) (fusion.right s.from ((law s.from).1 (omega (arith, w.1, w.2), omega (arith, same)))))
      ]

  pub named-ArePieces : (start stop : ℕ) (xs : List Stretch) → ArePieces spans start stop xs → All (λ s. s.depth ≡ meeting spans s) xs
  named-ArePieces start stop xs h = λ k d below. (h.pieces k d below).named

module _ (spans : List Interval) (ends : EndLists) (of : AreEndsOf spans ends) where
  AreEnds-from_spans : AreInOrder ends → AreEnds ends.lows ends.highs
  AreEnds-from_spans ordered =
      let few : length ends.lows ≤ 16 = ordered.few in
      let as_many : length ends.lows ≡ length ends.highs = ordered.as_many in
      record {
        few_lows = few;
        few_highs = omega arith;
        lows_ascend = ordered.lows_ascend;
        highs_ascend = ordered.highs_ascend;
        in_time = highs_of-in_time spans ends of;
        begun_first = λ x. omega (arith, depth-ends_of spans ends of x);
      }

  -- the same of slices that show the ends
  pub AreEnds-from_slices : (lows highs : List ℕ) → lows ≡ ends.lows → highs ≡ ends.highs → AreInOrder ends → AreEnds lows highs
  AreEnds-from_slices lows highs low high ordered =
      subst (λ (xs : List ℕ). AreEnds xs highs) (sym low) (subst (λ (xs : List ℕ). AreEnds ends.lows xs) (sym high) (AreEnds-from_spans ordered))

  IsCut-from_ends : (t : ℕ) → IsEndCut ends.lows ends.highs t → Interval → IsCut spans t
  IsCut-from_ends t (inl low) d =
      let w = any_from_map (λ span. span.lo) spans t (Contains-permutation ends.lows (lower_ends spans) t (IsPermutation-sym (lower_ends spans) ends.lows of.lows) low) d in
      (w.0, w.1, w.2, w.3, inl w.4)
  IsCut-from_ends t (inr high) d =
      let w = any_from_map (λ span. span.hi) spans high.0 (Contains-permutation ends.highs (upper_ends spans) high.0 (IsPermutation-sym (upper_ends spans) ends.highs of.highs) high.1) d in
      (w.0, w.1, w.2, w.3, inr (omega (arith, w.4, high.2)))

  IsEndCut-from_spans : (t : ℕ) → IsCut spans t → IsEndCut ends.lows ends.highs t
  IsEndCut-from_spans t w =
      elim w.4 [
        | inl low ↦ inl (subst (λ (n : ℕ). Contains ends.lows n) low (Contains-permutation (lower_ends spans) ends.lows w.1.lo of.lows (contains_map (λ span. span.lo) spans w.0 w.1 w.2 w.3)))
        | inr high ↦ inr (w.1.hi, Contains-permutation (upper_ends spans) ends.highs w.1.hi of.highs (contains_map (λ span. span.hi) spans w.0 w.1 w.2 w.3), high)
      ]

  IsPiece-from_ends : (start : ℕ) (s : Stretch) → s.from ≤ s.to → IsEndPiece ends.lows ends.highs start s → IsPiece spans start s
  IsPiece-from_ends start s order piece =
      let uncut : (t : ℕ) → s.from < t → t ≤ s.to → IsCut spans t → ⊥ = λ t past to cut. piece.uncut t past to (IsEndCut-from_spans t cut) in
      record {
        begins = elim piece.begins [ inl first ↦ inl first | inr cut ↦ inr (IsCut-from_ends s.from cut (record { lo = 0; hi = 0 })) ];
        uncut = uncut;
        named = omega (arith, piece.named, depth-ends_of spans ends of s.from, meeting-uncut spans s order uncut);
      }

  ArePieces-from_ends : (start stop : ℕ) (xs : List Stretch) → AreEndPieces ends.lows ends.highs start stop xs → ArePieces spans start stop xs
  ArePieces-from_ends start stop xs h = record {
    side_by_side = h.side_by_side;
    pieces = λ k d below. IsPiece-from_ends start (get_or xs k d) (within-AreSideBySide xs start stop h.side_by_side k d below).1 (h.pieces k d below);
  }

  pub ArePieces-from_slices : (lows highs : List ℕ) → lows ≡ ends.lows → highs ≡ ends.highs → (start stop : ℕ) (xs : List Stretch) → AreEndPieces lows highs start stop xs → ArePieces spans start stop xs
  ArePieces-from_slices lows highs low high start stop xs h =
      ArePieces-from_ends start stop xs (subst (λ (ls : List ℕ). AreEndPieces ls ends.highs start stop xs) low (subst (λ (hs : List ℕ). AreEndPieces lows hs start stop xs) high h))
