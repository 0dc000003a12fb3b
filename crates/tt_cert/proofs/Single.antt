-- There is one canonical certificate.
use Rattle.std.proofs.Common.{◌≡◌, ℕ, ◌+◌, ◌<◌, ◌≤◌, inl, inr, List, [], ◌∷◌, sym, ◌∙◌, ap, subst, refl, arith}
use Rattle.std.specs.Prelude.{All, nat_le, ◌&&◌}
use Rattle.std.specs.List.{count_by}
use Rattle.std.proofs.lemmas.Bool.{cases_lt}
use Rattle.std.proofs.lemmas.List.Elements.{All-head, All-tail}
use Rattle.tt_span.specs.Time.{max_time}
use Rattle.tt_span.specs.Interval.{Interval}
use Rattle.tt_cert.specs.declared.certificate.Stretch.{Stretch}
use Rattle.tt_cert.specs.Proof.{Proof}
use Rattle.tt_cert.specs.Valid.{AreSideBySide, meeting}
use Rattle.tt_cert.specs.Canonical.{IsPiece, ArePieces, IsCanonical}
use Rattle.tt_cert.proofs.Sides.{ends-AreSideBySide}

-- as many spans meet a stretch as any other with its ends
meeting-ends : (spans : List Interval) (s s' : Stretch) → s.from ≡ s'.from → s.to ≡ s'.to → meeting spans s ≡ meeting spans s'
meeting-ends spans s s' from to =
    ap (λ (n : ℕ). count_by (λ (span : Interval). nat_le span.lo s.to && nat_le n span.hi) spans) from
    ∙ ap (λ (n : ℕ). count_by (λ (span : Interval). nat_le span.lo n && nat_le s'.from span.hi) spans) to

module _ (spans : List Interval) (start : ℕ) where
  -- a stretch does not run past another that begins where it does, and behind which something follows
  not_past : (s s' : Stretch) (rest : List Stretch) (stop : ℕ) → s.from ≡ s'.from → start ≤ s.from → s.from ≤ s.to → s'.to < stop → IsPiece spans start s' → All (IsPiece spans start) rest → AreSideBySide rest (s.to + 1) stop → s.to < s'.to → ⊥
  not_past s s' [] stop from first order inside piece pieces h less = omega (arith, h)
  not_past s s' (r ∷ rest) stop from first order inside piece pieces h less =
      let begin : r.from ≡ s.to + 1 = h.0 in
      elim (All-head (IsPiece spans start) r rest pieces).begins [
        | inl at_start ↦ absurd (omega (arith, at_start, begin))
        | inr cut ↦ piece.uncut r.from (omega (arith, begin)) (omega (arith, begin)) cut
      ]

  -- two stretches with the same first time, each followed by such stretches up to the same end, are one
  same_first : (s s' : Stretch) (rest rest' : List Stretch) (at stop : ℕ) → start ≤ at → AreSideBySide (s ∷ rest) at stop → AreSideBySide (s' ∷ rest') at stop → All (IsPiece spans start) (s ∷ rest) → All (IsPiece spans start) (s' ∷ rest') → s ≡ s'
  same_first s s' rest rest' at stop later h h' pieces pieces' =
      let begin : s.from ≡ at = h.0 in
      let begin' : s'.from ≡ at = h'.0 in
      let order : s.from ≤ s.to = h.1 in
      let order' : s'.from ≤ s'.to = h'.1 in
      let inside : s.to + 1 ≤ stop = ends-AreSideBySide rest (s.to + 1) stop h.2 in
      let inside' : s'.to + 1 ≤ stop = ends-AreSideBySide rest' (s'.to + 1) stop h'.2 in
      let piece : IsPiece spans start s = All-head (IsPiece spans start) s rest pieces in
      let piece' : IsPiece spans start s' = All-head (IsPiece spans start) s' rest' pieces' in
      let from : s.from ≡ s'.from = omega arith in
      let to : s.to ≡ s'.to =
      elim (cases_lt s.to s'.to) [
        | inl less ↦ absurd (not_past s s' rest stop from (omega arith) order (omega arith) piece' (All-tail (IsPiece spans start) s rest pieces) h.2 less)
        | inr more ↦
            elim (cases_lt s'.to s.to) [
              | inl less ↦ absurd (not_past s' s rest' stop (sym from) (omega arith) order' (omega arith) piece (All-tail (IsPiece spans start) s' rest' pieces') h'.2 less)
              | inr same ↦ omega arith
            ]
      ] in
      let depth : s.depth ≡ s'.depth = piece.named ∙ (meeting-ends spans s s' from to ∙ sym piece'.named) in
      let made : ℕ → ℕ → ℕ → Stretch = λ a b d. record { from = a; to = b; depth = d } in
      ap (λ (n : ℕ). made n s.to s.depth) from ∙ (ap (λ (n : ℕ). made s'.from n s.depth) to ∙ ap (λ (n : ℕ). made s'.from s'.to n) depth)

  -- stretches that are cut at every cut and nowhere else are known by where they begin and end
  same_pieces : (xs ys : List Stretch) (at stop : ℕ) → start ≤ at → AreSideBySide xs at stop → AreSideBySide ys at stop → All (IsPiece spans start) xs → All (IsPiece spans start) ys → xs ≡ ys
  same_pieces [] [] at stop later h h' pieces pieces' = refl
  same_pieces [] (s' ∷ ys) at stop later h h' pieces pieces' =
      let inside : s'.to + 1 ≤ stop = ends-AreSideBySide ys (s'.to + 1) stop h'.2 in
      absurd (omega (arith, h, h'.0, h'.1))
  same_pieces (s ∷ xs) [] at stop later h h' pieces pieces' =
      let inside : s.to + 1 ≤ stop = ends-AreSideBySide xs (s.to + 1) stop h.2 in
      absurd (omega (arith, h', h.0, h.1))
  same_pieces (s ∷ xs) (s' ∷ ys) at stop later h h' pieces pieces' =
      let same : s ≡ s' = same_first s s' xs ys at stop later h h' pieces pieces' in
      let to : s'.to ≡ s.to = sym (ap (λ (r : Stretch). r.to) same) in
      let next : AreSideBySide ys (s.to + 1) stop = subst (λ (n : ℕ). AreSideBySide ys (n + 1) stop) to h'.2 in
      let rest : xs ≡ ys = same_pieces xs ys (s.to + 1) stop (omega (arith, h.0, h.1)) h.2 next (All-tail (IsPiece spans start) s xs pieces) (All-tail (IsPiece spans start) s' ys pieces') in
      ap (λ (r : Stretch). r ∷ xs) same ∙ ap (λ (rs : List Stretch). s' ∷ rs) rest

same-ArePieces : (spans : List Interval) (start stop : ℕ) (xs ys : List Stretch) → ArePieces spans start stop xs → ArePieces spans start stop ys → xs ≡ ys
same-ArePieces spans start stop xs ys h h' =
    same_pieces spans start xs ys start stop (omega arith) h.side_by_side h'.side_by_side h.pieces h'.pieces

-- two canonical certificates of the same claim are one
pub same-IsCanonical : (spans : List Interval) (f : ℕ) (claim : Interval) (proof other : Proof) → IsCanonical spans f claim proof → IsCanonical spans f claim other → proof ≡ other
same-IsCanonical spans f claim proof other h h' =
    let made : List ℕ → List ℕ → List Stretch → List Stretch → Proof = λ l r b a. record { left = l; right = r; below = b; above = a } in
    let left : proof.left ≡ other.left = h.left ∙ sym h'.left in
    let right : proof.right ≡ other.right = h.right ∙ sym h'.right in
    let below : proof.below ≡ other.below = same-ArePieces spans 0 claim.lo proof.below other.below h.below h'.below in
    let above : proof.above ≡ other.above = same-ArePieces spans (claim.hi + 1) (max_time + 1) proof.above other.above h.above h'.above in
    ap (λ (l : List ℕ). made l proof.right proof.below proof.above) left
    ∙ (ap (λ (r : List ℕ). made other.left r proof.below proof.above) right
    ∙ (ap (λ (b : List Stretch). made other.left other.right b proof.above) below
    ∙ ap (λ (a : List Stretch). made other.left other.right other.below a) above))
