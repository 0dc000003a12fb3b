-- What is kept of each kind, when one of them changes.
use Rattle.std.proofs.Common.{◌≡◌, Option, ℕ, ◌<◌, ◌≢◌, Bool, true, false, cond, eqb, List, [], ◌∷◌, get_or, length, replicate, slice_get, Some, refl, ap, subst, ◌∙◌, sym}
use Rattle.std.specs.Prelude.{slice_set}
use Rattle.std.proofs.lemmas.List.{get_or-set_same, get_or-set_other, length-set, get_or-replicate, length-replicate}
use Rattle.std.proofs.lemmas.Option.{slice_get-get_or, get_or_from_slice_get, slice_get_within}
use Rattle.std.proofs.lemmas.Bool.{eqb-true, eqb-false}
use Rattle.tt_report.specs.declared.limits.Kind.{Kind}
use Rattle.tt_report.specs.Left.{Happened, KindStandsFor, of_kind, after_turn}
use Rattle.tt_report.specs.Left.Happened.{turned}

-- a place that has a value after a change is there before it
there : {X : Type 0} (xs : List X) (i k : ℕ) (v y : X) → slice_get (slice_set xs i v) k ≡ Some y → k < length xs
there xs i k v y e = subst (λ n. k < n) (length-set xs i v) (slice_get_within (slice_set xs i v) k y e)

-- the value at the place that was set
set_here : {X : Type 0} (xs : List X) (i : ℕ) (v y : X) → slice_get (slice_set xs i v) i ≡ Some y → v ≡ y
set_here xs i v y e = sym (get_or-set_same xs i v v (there xs i i v y e)) ∙ get_or_from_slice_get (slice_set xs i v) i y v e

-- the value at another place
set_elsewhere : {X : Type 0} (xs : List X) (i k : ℕ) (v y : X) → k ≢ i → slice_get (slice_set xs i v) k ≡ Some y → slice_get xs k ≡ Some y
set_elsewhere xs i k v y off e =
    slice_get-get_or xs k y (there xs i k v y e)
    ∙ ap Some (sym (get_or-set_other xs i k v y off) ∙ get_or_from_slice_get (slice_set xs i v) k y y e)

-- a value that was repeated
repeated : {X : Type 0} (n k : ℕ) (x y : X) → slice_get (replicate n x) k ≡ Some y → x ≡ y
repeated n k x y e =
    sym (get_or-replicate n k x y (subst (λ m. k < m) (length-replicate n x) (slice_get_within (replicate n x) k y e)))
    ∙ get_or_from_slice_get (replicate n x) k y y e

-- at the beginning nothing has happened to any kind
pub new-kinds : (x : Kind) → KindStandsFor [] x → (k : ℕ) → (kind : Kind) → slice_get (replicate 208 x) k ≡ Some kind → KindStandsFor [] kind
new-kinds x stands k kind e = subst (KindStandsFor []) (repeated 208 k x kind e) stands

module _ (past : List (ℕ × Happened)) (i : ℕ) (what : Happened) (kinds : List Kind) (v d : Kind)
    (all : (n : ℕ) → (x : Kind) → slice_get kinds n ≡ Some x → KindStandsFor (of_kind n past) x)
    (one : KindStandsFor (of_kind i past) (get_or kinds i d) → KindStandsFor (what ∷ of_kind i past) v) where
  changed : (k : ℕ) → (kind : Kind) → (b : Bool) → eqb k i ≡ b → slice_get (slice_set kinds i v) k ≡ Some kind
      → KindStandsFor (cond b (what ∷ of_kind k past) (of_kind k past)) kind
  changed k kind true same e =
      let at : k ≡ i = eqb-true k i same in
      let set : slice_get (slice_set kinds i v) i ≡ Some kind = subst (λ n. slice_get (slice_set kinds i v) n ≡ Some kind) at e in
      let old : KindStandsFor (of_kind i past) (get_or kinds i d) = all i (get_or kinds i d) (slice_get-get_or kinds i d (there kinds i i v kind set)) in
      subst (λ n. KindStandsFor (what ∷ of_kind n past) kind) (sym at) (subst (KindStandsFor (what ∷ of_kind i past)) (set_here kinds i v kind set) (one old))
  changed k kind false other e = all k kind (set_elsewhere kinds i k v kind (eqb-false k i other) e)

-- after one more event of a kind, each kind stands for its own history
pub kept-kinds : (past : List (ℕ × Happened)) (i j : ℕ) (what : Happened) (kinds : List Kind) (v d : Kind) → j ≡ i
    → ((n : ℕ) → (x : Kind) → slice_get kinds n ≡ Some x → KindStandsFor (of_kind n past) x)
    → (KindStandsFor (of_kind i past) (get_or kinds j d) → KindStandsFor (what ∷ of_kind i past) v)
    → (k : ℕ) → (kind : Kind) → slice_get (slice_set kinds j v) k ≡ Some kind → KindStandsFor (of_kind k ((i, what) ∷ past)) kind
kept-kinds past i j what kinds v d at all one k kind e =
    let one' : KindStandsFor (of_kind i past) (get_or kinds i d) → KindStandsFor (what ∷ of_kind i past) v =
    λ old. one (subst (λ n. KindStandsFor (of_kind i past) (get_or kinds n d)) (sym at) old) in
    changed past i what kinds v d all one' k kind (eqb k i) refl (subst (λ n. slice_get (slice_set kinds n v) k ≡ Some kind) at e)

-- the same after a turn of a kind
pub turned-kinds : (past : List (ℕ × Happened)) (t : Option ℕ) (i : ℕ) (kinds : List Kind) (v d : Kind) → t ≡ Some i
    → ((n : ℕ) → (x : Kind) → slice_get kinds n ≡ Some x → KindStandsFor (of_kind n past) x)
    → (KindStandsFor (of_kind i past) (get_or kinds i d) → KindStandsFor (turned ∷ of_kind i past) v)
    → (k : ℕ) → (kind : Kind) → slice_get (slice_set kinds i v) k ≡ Some kind → KindStandsFor (of_kind k (after_turn t past)) kind
turned-kinds past t i kinds v d is all one k kind e =
    subst (λ o. KindStandsFor (of_kind k (after_turn o past)) kind) (sym is) (kept-kinds past i i turned kinds v d refl all one k kind e)
