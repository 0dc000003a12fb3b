-- One element after another, with a flag for those so far.
use Rattle.std.proofs.Common.{◌≡◌, ℕ, ◌+◌, ◌<◌, List, length, get_or, take, sym, ◌∙◌, subst, arith, get_or-take, Bool}
use Rattle.std.specs.Prelude.{IsTrue, ◌↔◌, All}
use Rattle.std.proofs.lemmas.List.{length-take-le}
use Rattle.std.proofs.lemmas.List.Elements.{All-more}

-- one element more, where a flag says whether each element so far is such
module _ {X : Type 0} (P : X → Type 0) (xs : List X) (i : ℕ) (d : X) (inside : i < length xs) where
  pub exact-more : (before now : Bool) → IsTrue before ↔ All P (take i xs) → (IsTrue now → IsTrue before × P (get_or xs i d)) → (IsTrue before → P (get_or xs i d) → IsTrue now) → IsTrue now ↔ All P (take (i + 1) xs)
  exact-more before now exact parts from = (
    λ t. All-more P xs i d inside (exact.0 (parts t).0) (parts t).1,
    λ all.
        let size : length (take (i + 1) xs) ≡ i + 1 = length-take-le (i + 1) xs (omega arith) in
        let fewer : length (take i xs) ≡ i = length-take-le i xs (omega arith) in
        from (exact.1 (λ k e below.
        let here : get_or (take (i + 1) xs) k e ≡ get_or (take i xs) k e = get_or-take (i + 1) xs k e (omega arith) ∙ sym (get_or-take i xs k e (omega arith)) in
        subst P here (all k e (omega arith))))
        (subst P (get_or-take (i + 1) xs i d (omega arith)) (all i d (omega arith))),
  )
