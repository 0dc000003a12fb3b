-- The suspects of one publication more.
use Rattle.std.proofs.Common.{◌≡◌, ℕ, ◌+◌, ◌<◌, Bool, cond, eqb, List, [], ◌∷◌, ◌++◌, length, get_or, set, inl, inr, refl, ap, ◌∙◌, sym, subst, arith, append-nil, append_assoc, ne_eqb}
use Rattle.std.proofs.Common.{add-zero}
use Rattle.std.proofs.lemmas.Bool.{cases_eq, eq-eqb}
use Rattle.std.proofs.lemmas.List.{get_or-set_other}
use Rattle.std.proofs.lemmas.List.Sums.{sum_by_push}
use Rattle.std.proofs.lemmas.Grind.{get_or-set_at}
use Rattle.tt_fuse.specs.Suspect.{AreSuspects}
use Rattle.tt_world.specs.Publications.{Showing}
use Rattle.tt_audit.specs.declared.reports.Suspect.{Suspect}
use Rattle.tt_audit.specs.Suspects.{publications_by, suspects_named, AreAllSuspects}

-- one publication more, with its suspects
pub AreAllSuspects-more : (before shown : List Showing) (suspects : List Suspect) (s : Showing) (sources : List ℕ)
    → AreAllSuspects before shown suspects → AreSuspects s.spans s.span sources
    → AreAllSuspects before (shown ++ s ∷ []) (suspects ++ suspects_named (before ++ shown) s sources)
AreAllSuspects-more before [] suspects s sources none exact = (
  sources,
  [],
  exact,
  refl,
  ap (λ (xs : List Suspect). xs ++ suspects_named (before ++ []) s sources) none
      ∙ ap (λ (b : List Showing). suspects_named b s sources) (append-nil before)
      ∙ sym (append-nil (suspects_named before s sources)),
)
AreAllSuspects-more before (t ∷ shown) suspects s sources (own, others, exact_own, rest, is) exact =
    let more = AreAllSuspects-more (before ++ t ∷ []) shown others s sources rest exact in (
      own,
      others ++ suspects_named ((before ++ t ∷ []) ++ shown) s sources,
      exact_own,
      more,
      ap (λ (xs : List Suspect). xs ++ suspects_named (before ++ t ∷ shown) s sources) is
          ∙ append_assoc (suspects_named before t own) others (suspects_named (before ++ t ∷ shown) s sources)
          ∙ ap (λ (b : List Showing). suspects_named before t own ++ (others ++ suspects_named b s sources)) (sym (append_assoc before (t ∷ []) shown)),
    )

-- whose a publication is counts one more for its machine
publications_by-more : (m : ℕ) (shown : List Showing) (s : Showing) → publications_by m (shown ++ s ∷ []) ≡ publications_by m shown + cond (eqb s.machine m) 1 0
publications_by-more m shown s = sum_by_push (λ (t : Showing). cond (eqb t.machine m) 1 0) shown s

-- the counts of all machines after one publication more
pub counts-more : (counts : List ℕ) (shown : List Showing) (s : Showing) (at : ℕ) → at ≡ s.machine → s.machine < 256 → length counts ≡ 256
    → ((m : ℕ) → m < 256 → get_or counts m 0 ≡ publications_by m shown)
    → (m : ℕ) → m < 256 → get_or (set counts at (get_or counts at 0 + 1)) m 0 ≡ publications_by m (shown ++ s ∷ [])
counts-more counts shown s at here in_range len before m h =
    let P : ℕ → Type 0 = λ k. get_or (set counts k (get_or counts k 0 + 1)) m 0 ≡ publications_by m (shown ++ s ∷ []) in
    subst P (sym here)
    (elim (cases_eq s.machine m) [
      | inl same ↦
          get_or-set_at counts s.machine m (get_or counts s.machine 0 + 1) 0 (sym same) (omega (arith, len))
          ∙ ap (λ (n : ℕ). n + 1) (before s.machine in_range ∙ ap (λ (k : ℕ). publications_by k shown) same)
          ∙ sym (publications_by-more m shown s ∙ ap (λ (b : Bool). publications_by m shown + cond b 1 0) (eq-eqb s.machine m same))
      | inr other ↦
          get_or-set_other counts s.machine m (get_or counts s.machine 0 + 1) 0 (λ e. other (sym e))
          ∙ before m h
          ∙ sym (publications_by-more m shown s ∙ ap (λ (b : Bool). publications_by m shown + cond b 1 0) (ne_eqb s.machine m other) ∙ add-zero (publications_by m shown))
    ])
