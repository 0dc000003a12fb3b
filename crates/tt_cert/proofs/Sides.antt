-- Stretches side by side.
use Rattle.std.proofs.Common.{length, get_or, drop, subst, ◌≡◌, ℕ, ◌+◌, ◌<◌, ◌≤◌, inl, inr, List, [], ◌∷◌, ◌++◌, sym, refl, arith}
use Rattle.std.specs.Prelude.{All}
use Rattle.std.proofs.lemmas.Bool.{cases_lt}
use Rattle.std.proofs.lemmas.List.{drop_more}
use Rattle.std.proofs.lemmas.List.Elements.{All-head, All-tail, All-nil, All-cons}
use Rattle.tt_cert.specs.declared.certificate.Stretch.{Stretch}
use Rattle.tt_cert.specs.Valid.{AreSideBySide}

pub ends-AreSideBySide : (xs : List Stretch) (start stop : ℕ) → AreSideBySide xs start stop → start ≤ stop
ends-AreSideBySide [] start stop h = omega (arith, h)
ends-AreSideBySide (s ∷ xs) start stop h =
    let rest : s.to + 1 ≤ stop = ends-AreSideBySide xs (s.to + 1) stop h.2 in
    omega (arith, h.0, h.1)

pub AreSideBySide-push : (xs : List Stretch) (s : Stretch) (start : ℕ) → AreSideBySide xs start s.from → s.from ≤ s.to → AreSideBySide (xs ++ s ∷ []) start (s.to + 1)
AreSideBySide-push [] s start h order = (sym h, order, refl)
AreSideBySide-push (x ∷ xs) s start h order = (h.0, h.1, AreSideBySide-push xs s (x.to + 1) h.2 order)

-- each stretch lies within the part
pub within-AreSideBySide : (xs : List Stretch) (start stop : ℕ) → AreSideBySide xs start stop → All (λ s. (start ≤ s.from) × (s.from ≤ s.to) × (s.to < stop)) xs
within-AreSideBySide [] start stop h = All-nil (λ s. (start ≤ s.from) × (s.from ≤ s.to) × (s.to < stop))
within-AreSideBySide (s ∷ xs) start stop h =
    let rest = within-AreSideBySide xs (s.to + 1) stop h.2 in
    let ends : s.to + 1 ≤ stop = ends-AreSideBySide xs (s.to + 1) stop h.2 in
    All-cons (λ s. (start ≤ s.from) × (s.from ≤ s.to) × (s.to < stop)) s xs (omega (arith, h.0), h.1, omega arith)
    (λ k d below. let w = rest k d below in (omega (arith, w.0, h.0, h.1), w.1, w.2))

-- each time of the part lies in a stretch
pub some-AreSideBySide : (P : Stretch → Type 0) (xs : List Stretch) (start stop x : ℕ) → AreSideBySide xs start stop → start ≤ x → x < stop → All P xs → (s : Stretch) × (s.from ≤ x) × (x ≤ s.to) × P s
some-AreSideBySide P [] start stop x h from before all = absurd (omega (arith, h))
some-AreSideBySide P (s ∷ xs) start stop x h from before all =
    elim (cases_lt s.to x) [
      | inl later ↦ some-AreSideBySide P xs (s.to + 1) stop x h.2 (omega arith) before (All-tail P s xs all)
      | inr here ↦ (s, omega (arith, h.0), here, All-head P s xs all)
    ]

-- what the next stretch is, where the rest lies side by side
pub next-AreSideBySide : (xs : List Stretch) (i next stop : ℕ) → i < length xs → AreSideBySide (drop i xs) next stop → (d : Stretch) → ((get_or xs i d).from ≡ next) × ((get_or xs i d).from ≤ (get_or xs i d).to) × ((get_or xs i d).to < stop)
next-AreSideBySide xs i next stop inside h d =
    let s : Stretch = get_or xs i d in
    let h' = subst (λ (ys : List Stretch). AreSideBySide ys next stop) (drop_more xs i d inside) h in
    let ends : s.to + 1 ≤ stop = ends-AreSideBySide (drop (i + 1) xs) (s.to + 1) stop h'.2 in
    (h'.0, h'.1, omega arith)
