-- One source more, a suspect or not.
use Rattle.std.proofs.Common.{◌≡◌, ℕ, ◌+◌, ◌<◌, ◌≤◌, inl, inr, List, [], ◌∷◌, ◌++◌, length, get_or, take, sym, subst, arith, get_or-take}
use Rattle.std.specs.Prelude.{Contains}
use Rattle.std.specs.List.{HoldsAt}
use Rattle.std.proofs.lemmas.Bool.{cases_lt}
use Rattle.std.proofs.lemmas.List.{length_push, get_or_push, get_or_append_left, length-take-le, get_or_read}
use Rattle.std.proofs.lemmas.List.Elements.{Contains-append_left, Contains-push, Contains-push_cases, Contains-get_or}
use Rattle.tt_span.specs.Interval.{Interval, Meets}
use Rattle.tt_fuse.specs.Suspect.{IsSuspect, AreSuspects}

module _ (spans : List Interval) (i : Interval) where
  -- source j does not meet i
  abbrev IsApart : ℕ → Type 0
  IsApart j = HoldsAt (λ span. Meets span i → ⊥) spans j

  IsSuspect-take : (n j : ℕ) → n ≤ length spans → j < n → IsApart j → IsSuspect (take n spans) i j
  IsSuspect-take n j short below apart =
      (omega (arith, length-take-le n spans short), λ d. subst (λ (s : Interval). Meets s i → ⊥) (sym (get_or-take n spans j d below)) (apart d))

  IsSuspect-from_take : (n j : ℕ) → n ≤ length spans → IsSuspect (take n spans) i j → (j < n) × IsApart j
  IsSuspect-from_take n j short h =
      let below : j < n = omega (arith, h.0, length-take-le n spans short) in
      (below, λ d. subst (λ (s : Interval). Meets s i → ⊥) (get_or-take n spans j d below) (h.1 d))

  -- the next source does not meet i, and is taken up
  pub AreSuspects-push : (n : ℕ) (found : List ℕ) (s : Interval) → n < length spans → s ≡ get_or spans n s → (Meets s i → ⊥) → AreSuspects (take n spans) i found → AreSuspects (take (n + 1) spans) i (found ++ n ∷ [])
  AreSuspects-push n found s inside is apart h =
      let here : IsApart n = λ d. subst (λ (t : Interval). Meets t i → ⊥) (get_or_read spans n s inside is d) apart in
      record {
        ascending = λ j below.
            let place : j + 1 ≤ length found = omega (arith, length_push found n) in
            let at_j : get_or (found ++ n ∷ []) j 0 ≡ get_or found j 0 = get_or_append_left found (n ∷ []) 0 j (omega arith) in
            elim (cases_lt (j + 1) (length found)) [
              | inl within ↦ omega (arith, at_j, get_or_append_left found (n ∷ []) 0 (j + 1) within, h.ascending j within)
              | inr last ↦
                  let suspect : IsSuspect (take n spans) i (get_or found j 0) = (h.exact (get_or found j 0)).0 (Contains-get_or found j 0 (omega arith)) in
                  let before : get_or found j 0 < n = (IsSuspect-from_take n (get_or found j 0) (omega arith) suspect).0 in
                  omega (arith, at_j, before, get_or_push found n 0 (j + 1) (omega arith))
            ];
        exact = λ j. (
          λ c. elim (Contains-push_cases found n j c) [
            | inl old ↦
                let was = IsSuspect-from_take n j (omega arith) ((h.exact j).0 old) in
                IsSuspect-take (n + 1) j (omega arith) (omega (arith, was.0)) was.1
            | inr new ↦ subst (λ (k : ℕ). IsSuspect (take (n + 1) spans) i k) new (IsSuspect-take (n + 1) n (omega arith) (omega arith) here)
          ],
          λ suspect.
              let was = IsSuspect-from_take (n + 1) j (omega arith) suspect in
              elim (cases_lt j n) [
                | inl below ↦ Contains-append_left found (n ∷ []) j ((h.exact j).1 (IsSuspect-take n j (omega arith) below was.1))
                | inr above ↦
                    let same : n ≡ j = omega (arith, was.0) in
                    subst (λ (k : ℕ). Contains (found ++ n ∷ []) k) same (Contains-push found n)
              ],
        );
      }

  -- the next source meets i, and is left out
  pub AreSuspects-keep : (n : ℕ) (found : List ℕ) (s : Interval) → n < length spans → s ≡ get_or spans n s → Meets s i → AreSuspects (take n spans) i found → AreSuspects (take (n + 1) spans) i found
  AreSuspects-keep n found s inside is meets h =
      record {
        ascending = h.ascending;
        exact = λ j. (
          λ c.
              let was = IsSuspect-from_take n j (omega arith) ((h.exact j).0 c) in
              IsSuspect-take (n + 1) j (omega arith) (omega (arith, was.0)) was.1,
          λ suspect.
              let was = IsSuspect-from_take (n + 1) j (omega arith) suspect in
              elim (cases_lt j n) [
                | inl below ↦ (h.exact j).1 (IsSuspect-take n j (omega arith) below was.1)
                | inr above ↦
                    let same : n ≡ j = omega (arith, was.0) in
                    let at_n : HoldsAt (λ span. Meets span i → ⊥) spans n = subst (λ (k : ℕ). IsApart k) (sym same) was.1 in
                    absurd (subst (λ (t : Interval). Meets t i → ⊥) (sym is) (at_n s) meets)
              ],
        );
      }
