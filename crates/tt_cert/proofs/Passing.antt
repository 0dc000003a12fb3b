-- A sweep over ends in ascending order.
use Rattle.std.proofs.Common.{◌≡◌, ℕ, ◌+◌, ◌-◌, ◌<◌, ◌≤◌, ◌⊎◌, inl, inr, List, [], ◌∷◌, ◌++◌, length, get_or, sym, ◌∙◌, subst, refl, arith}
use Rattle.std.specs.Prelude.{nat_lt, Contains, min}
use Rattle.std.specs.List.Sorted.{IsNonDecreasing}
use Rattle.std.proofs.lemmas.Bool.{cases_lt, lt-ltb, le-ltb, ltb-true}
use Rattle.std.proofs.lemmas.List.{get_or_default, length_push}
use Rattle.std.proofs.lemmas.List.Elements.{All-push, Contains-get_or}
use Rattle.std.proofs.lemmas.List.Sums.{count_by-le-length}
use Rattle.tt_cert.specs.declared.certificate.Stretch.{Stretch}
use Rattle.tt_cert.specs.Valid.{AreSideBySide}
use Rattle.tt_cert.specs.Sweep.{count_before, AreEnds, IsEndCut, IsEndPiece, AreEndPieces, IsNextCut}
use Rattle.tt_fuse.proofs.Counting.{count_by-le-first, count_by-above}
use Rattle.tt_cert.proofs.Counting.{count_by-le-count_by}
use Rattle.tt_cert.proofs.Sides.{AreSideBySide-push}

module _ (ends : List ℕ) (ascend : IsNonDecreasing ends) where
  -- one more end lies before x where the next one does
  pub more_before : (k x : ℕ) → k < length ends → get_or ends k 0 < x → k < count_before ends x
  more_before k x inside before =
      count_by-above (λ end. nat_lt end x) ends k inside (λ j to d. lt-ltb (get_or ends j d) x (omega (arith, ascend j k d to inside, get_or_default ends k d 0 inside)))

  -- no more do where the next one does not
  pub no_more_before : (k x : ℕ) → k < length ends → x ≤ get_or ends k 0 → count_before ends x ≤ k
  no_more_before k x inside after =
      count_by-le-first (λ end. nat_lt end x) ends k (λ j from below d. le-ltb (get_or ends j d) x (omega (arith, ascend k j d from below, get_or_default ends k d 0 inside)))

  -- a count that stops at the end, or at an end that does not lie before x, is the whole count
  pub count-stops : (k x : ℕ) → k ≤ count_before ends x → (k < length ends → x ≤ get_or ends k 0) → k ≡ count_before ends x
  count-stops k x known stops =
      elim (cases_lt k (length ends)) [
        | inl inside ↦ omega (arith, no_more_before k x inside (stops inside))
        | inr past ↦ omega (arith, count_by-le-length (λ end. nat_lt end x) ends)
      ]

  -- the first end that does not lie before x
  pub first_after : (x : ℕ) → count_before ends x < length ends → x ≤ get_or ends (count_before ends x) 0
  first_after x inside =
      elim (cases_lt (get_or ends (count_before ends x) 0) x) [
        | inl before ↦ absurd (omega (arith, more_before (count_before ends x) x inside before))
        | inr after ↦ after
      ]

  -- and no end from x on comes earlier
  pub none_earlier : (x t : ℕ) → Contains ends t → x ≤ t → (count_before ends x < length ends) × (get_or ends (count_before ends x) 0 ≤ t)
  none_earlier x t there from =
      let inside : there.0 < length ends = there.1 in
      let is : get_or ends there.0 0 ≡ t = get_or_default ends there.0 0 t inside ∙ there.2 in
      let few : count_before ends x ≤ there.0 = no_more_before there.0 x inside (omega arith) in
      (omega arith, omega (arith, ascend (count_before ends x) there.0 0 few inside))

  -- an end from x on that lies before y
  pub count_before-rises : (x y t : ℕ) → Contains ends t → x ≤ t → t < y → count_before ends x < count_before ends y
  count_before-rises x y t there from before =
      let w = none_earlier x t there from in
      more_before (count_before ends x) y w.0 (omega (arith, w.1))

pub count_before-le : (ends : List ℕ) (x y : ℕ) → x ≤ y → count_before ends x ≤ count_before ends y
count_before-le ends x y h =
    count_by-le-count_by (λ end. nat_lt end x) (λ end. nat_lt end y) ends (λ k d below passes. lt-ltb (get_or ends k d) y (omega (arith, ltb-true (get_or ends k d) x passes)))

-- where a sweep is: the stretches up to from are found, and each but the first has passed an end
pub record IsSwept (lows highs : List ℕ) (start stop begun ended from : ℕ) (found : List Stretch) : Type 0 where
  pub pieces : AreEndPieces lows highs start from found
  pub within : from ≤ stop
  pub begun_before : begun ≤ count_before lows (from + 1)
  pub ended_before : ended ≤ count_before highs from
  pub few : length found ≤ begun + ended + 1
  pub at_cut : (from ≡ start) ⊎ ((from ≡ stop) ⊎ IsEndCut lows highs from)
  pub passes : (length found ≡ 0) ⊎ ((from ≡ stop) ⊎ (begun + ended < count_before lows (from + 1) + count_before highs from))

module _ (lows highs : List ℕ) (ends : AreEnds lows highs) where
  -- what the next cut is: the least of the next lower end, what comes after the next upper end, and the end of the part
  pub IsNextCut-from_min : (from stop begins after : ℕ) → from < stop →
      ((count_before lows (from + 1) < length lows) × (begins ≡ get_or lows (count_before lows (from + 1)) 0)) ⊎ ((length lows ≤ count_before lows (from + 1)) × (begins ≡ stop)) →
      ((count_before highs from < length highs) × (after ≡ get_or highs (count_before highs from) 0 + 1)) ⊎ ((length highs ≤ count_before highs from) × (after ≡ stop)) →
      IsNextCut lows highs from stop (min (min begins after) stop)
  IsNextCut-from_min from stop begins after inside low high =
      let next : ℕ = min (min begins after) stop in
      let low_later : from < begins =
      elim low [
        | inl l ↦ omega (arith, l.1, first_after lows ends.lows_ascend (from + 1) l.0)
        | inr l ↦ omega (arith, l.1)
      ] in
      let high_later : from < after =
      elim high [
        | inl h ↦ omega (arith, h.1, first_after highs ends.highs_ascend from h.0)
        | inr h ↦ omega (arith, h.1)
      ] in
      record {
        later = omega arith;
        within = omega arith;
        uncut = λ t past before cut.
            elim cut [
              | inl there ↦
                  let w = none_earlier lows ends.lows_ascend (from + 1) t there (omega arith) in
                  elim low [
                    | inl l ↦ omega (arith, w.1, l.1)
                    | inr l ↦ omega (arith, w.0, l.0)
                  ]
              | inr there ↦
                  let w = none_earlier highs ends.highs_ascend from there.0 there.1 (omega (arith, there.2)) in
                  elim high [
                    | inl h ↦ omega (arith, w.1, h.1, there.2)
                    | inr h ↦ omega (arith, w.0, h.0)
                  ]
            ];
        cut = elim (cases_lt begins stop) [
          | inl begins_first ↦ elim (cases_lt after begins) [
            | inl after_first ↦ inr (after_cut high (omega arith) next (omega arith))
            | inr not_after ↦ inr (begin_cut low (omega arith) next (omega arith))
          ]
          | inr not_begins ↦ elim (cases_lt after stop) [
            | inl after_first ↦ inr (after_cut high (omega arith) next (omega arith))
            | inr not_after ↦ inl (omega arith)
          ]
        ];
      }
    where
      begin_cut : ((count_before lows (from + 1) < length lows) × (begins ≡ get_or lows (count_before lows (from + 1)) 0)) ⊎ ((length lows ≤ count_before lows (from + 1)) × (begins ≡ stop)) → begins < stop → (next : ℕ) → next ≡ begins → IsEndCut lows highs next
      begin_cut (inl l) first next e = inl (subst (λ (t : ℕ). Contains lows t) (sym (e ∙ l.1)) (Contains-get_or lows (count_before lows (from + 1)) 0 l.0))
      begin_cut (inr l) first next e = absurd (omega (arith, l.1))

      after_cut : ((count_before highs from < length highs) × (after ≡ get_or highs (count_before highs from) 0 + 1)) ⊎ ((length highs ≤ count_before highs from) × (after ≡ stop)) → after < stop → (next : ℕ) → next ≡ after → IsEndCut lows highs next
      after_cut (inl h) first next e = inr (get_or highs (count_before highs from) 0, Contains-get_or highs (count_before highs from) 0 h.0, omega (arith, h.1, e))
      after_cut (inr h) first next e = absurd (omega (arith, h.1))

  -- there is room for one more stretch
  pub room-IsSwept : (start stop begun ended from : ℕ) (found : List Stretch) → IsSwept lows highs start stop begun ended from found → from < stop → (length found ≤ count_before lows (from + 1) + count_before highs from) × (length found < 33)
  room-IsSwept start stop begun ended from found swept inside =
      let few_lows : length lows ≤ 16 = ends.few_lows in
      let few_highs : length highs ≤ 16 = ends.few_highs in
      let few : length found ≤ begun + ended + 1 = swept.few in
      let bound : length found ≤ count_before lows (from + 1) + count_before highs from =
      elim swept.passes [
        | inl none ↦ omega (arith, none)
        | inr later ↦ elim later [ inl last ↦ absurd (omega (arith, last)) | inr more ↦ omega (arith, more) ]
      ] in
      (bound, omega (arith, bound, count_by-le-length (λ end. nat_lt end (from + 1)) lows, count_by-le-length (λ end. nat_lt end from) highs))

  pub IsSwept-push : (start stop begun ended from next : ℕ) (found : List Stretch) (s : Stretch) → IsSwept lows highs start stop begun ended from found → from < stop → IsNextCut lows highs from stop next → s.from ≡ from → s.to + 1 ≡ next → s.depth + count_before highs from ≡ count_before lows (from + 1) → IsSwept lows highs start stop (count_before lows (from + 1)) (count_before highs from) next (found ++ s ∷ [])
  IsSwept-push start stop begun ended from next found s swept inside cut at_from at_next named =
      let later : from < next = cut.later in
      let low_le : count_before lows (from + 1) ≤ count_before lows (next + 1) = count_before-le lows (from + 1) (next + 1) (omega arith) in
      let high_le : count_before highs from ≤ count_before highs next = count_before-le highs from next (omega arith) in
      let same : from ≡ s.from = sym at_from in
      record {
        pieces = record {
          side_by_side = subst (λ (t : ℕ). AreSideBySide (found ++ s ∷ []) start t) at_next (AreSideBySide-push found s start (subst (λ (t : ℕ). AreSideBySide found start t) same swept.pieces.side_by_side) (omega arith));
          pieces = All-push (IsEndPiece lows highs start) found s swept.pieces.pieces (record {
            begins = elim swept.at_cut [
              | inl first ↦ inl (at_from ∙ first)
              | inr other ↦ elim other [ inl last ↦ absurd (omega (arith, last)) | inr c ↦ inr (subst (λ (t : ℕ). IsEndCut lows highs t) same c) ]
            ];
            uncut = λ t past before c. cut.uncut t (omega arith) (omega arith) c;
            named = subst (λ (t : ℕ). s.depth + count_before highs t ≡ count_before lows (t + 1)) same named;
          });
        };
        within = cut.within;
        begun_before = low_le;
        ended_before = high_le;
        few = omega (arith, length_push found s, (room-IsSwept start stop begun ended from found swept inside).0);
        at_cut = inr cut.cut;
        passes = inr (elim cut.cut [
          | inl last ↦ inl last
          | inr c ↦ inr (elim c [
            | inl low ↦ omega (arith, high_le, count_before-rises lows ends.lows_ascend (from + 1) (next + 1) next low (omega arith) (omega arith))
            | inr high ↦ omega (arith, low_le, count_before-rises highs ends.highs_ascend from next high.0 high.1 (omega (arith, high.2)) (omega (arith, high.2)))
          ])
        ]);
      }

  -- a loop's step, with the counts as they are kept
  pub IsSwept-step : (start stop begun ended begun' ended' from next : ℕ) (found : List Stretch) → IsSwept lows highs start stop begun ended from found → from < stop → begun' ≡ count_before lows (from + 1) → ended' ≡ count_before highs from → IsNextCut lows highs from stop next → IsSwept lows highs start stop begun' ended' next (found ++ record { from = from; to = next - 1; depth = begun' - ended' } ∷ [])
  IsSwept-step start stop begun ended begun' ended' from next found swept inside begun_is ended_is cut =
      let s : Stretch = record { from = from; to = next - 1; depth = begun' - ended' } in
      let later : from < next = cut.later in
      let step = IsSwept-push start stop begun ended from next found s swept inside cut refl (omega arith) (omega (arith, begun_is, ended_is, ends.begun_first from)) in
      subst (λ (n : ℕ). IsSwept lows highs start stop n ended' next (found ++ s ∷ [])) (sym begun_is)
      (subst (λ (n : ℕ). IsSwept lows highs start stop (count_before lows (from + 1)) n next (found ++ s ∷ [])) (sym ended_is) step)
