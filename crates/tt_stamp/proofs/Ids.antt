-- When two ids are one.
use Rattle.std.proofs.Common.{◌≡◌, ℕ, ◌<◌, ◌==◌, ◌&&◌, ◌||◌, Bool, true, false, refl, sym, ap, ◌∙◌, ◌⊎◌, inl, inr, ⊎_elim, List, [], ◌∷◌, Contains, arith}
use Rattle.std.specs.declared.cmp.Ordering.{Ordering}
use Rattle.std.specs.declared.cmp.Ordering.TheVariants.{Less, Equal, Greater}
use Rattle.std.specs.Ordering.{nat_cmp, is_eq, MatchOrdering}
use Rattle.std.specs.Cmp.{tied_then}
use Rattle.std.specs.BTreeMap.{is_at}
use Rattle.std.proofs.lemmas.Bool.{and_parts, and_from, eqb-true, eq-eqb, ne_eqb}
use Rattle.std.proofs.lemmas.Cmp.{ranked}
use Rattle.std.proofs.lemmas.List.Elements.{Contains-append_left, Contains-append_right, Contains-append_cases, Contains-push, Contains-push_cases}
use Rattle.tt_stamp.specs.Ids.{same_id, id_cmp}
use Rattle.tt_stamp.specs.declared.commits.Id.{Id}

made-same : (s t m n : ℕ) → s ≡ t → m ≡ n → ◌≡◌ {A = Id} (record { session = s; number = m }) (record { session = t; number = n })
made-same s t m n e f =
    ap (λ (x : ℕ). let i : Id = record { session = x; number = m } in i) e ∙ ap (λ (x : ℕ). let i : Id = record { session = t; number = x } in i) f

pub same_id-true : (a b : Id) → same_id a b ≡ true → a ≡ b
same_id-true a b e =
    let parts = and_parts (a.session == b.session) (a.number == b.number) e in
    made-same a.session b.session a.number b.number (eqb-true _ _ parts.0) (eqb-true _ _ parts.1)

pub same_id-refl : (a : Id) → same_id a a ≡ true
same_id-refl a = and_from _ _ (eq-eqb a.session a.session refl) (eq-eqb a.number a.number refl)

pub eq-same_id : (a b : Id) → a ≡ b → same_id a b ≡ true
eq-same_id a b e = ap (λ x. same_id a x) (sym e) ∙ same_id-refl a

is_eq-ranked : (x y : ℕ) (o : Ordering) → MatchOrdering o (x < y) (x ≡ y) (y < x) → is_eq o ≡ (x == y)
is_eq-ranked x y Less h = sym (ne_eqb x y (λ e. omega arith))
is_eq-ranked x y Equal h = sym (eq-eqb x y h)
is_eq-ranked x y Greater h = sym (ne_eqb x y (λ e. omega arith))

pub is_eq-nat_cmp : (x y : ℕ) → is_eq (nat_cmp x y) ≡ (x == y)
is_eq-nat_cmp x y = is_eq-ranked x y (nat_cmp x y) (ranked x y _ refl)

pub is_at-id_cmp : (a b : Id) → is_at (id_cmp a) b ≡ same_id a b
is_at-id_cmp a b =
    sym (tied_then (nat_cmp a.session b.session) (nat_cmp a.number b.number)) ∙ ap (λ x. x && is_eq (nat_cmp a.number b.number)) (is_eq-nat_cmp a.session b.session) ∙ ap (λ x. (a.session == b.session) && x) (is_eq-nat_cmp a.number b.number)

-- ---- tests joined by "or"
pub or_left : (x y : Bool) → x ≡ true → (x || y) ≡ true
or_left x y e = ap (λ z. z || y) e

pub or_right : (x y : Bool) → y ≡ true → (x || y) ≡ true
or_right true y e = refl
or_right false y e = e

-- ---- elements of a list and one more in front
module _ {X : Type 0} where
  pub Contains-here : (x : X) (xs : List X) → Contains (x ∷ xs) x
  Contains-here x xs = Contains-append_left (x ∷ []) xs x (Contains-push [] x)

  pub Contains-there : (y : X) (xs : List X) (x : X) → Contains xs x → Contains (y ∷ xs) x
  Contains-there y xs x h = Contains-append_right (y ∷ []) xs x h

  pub Contains-nil : (x : X) → Contains [] x → ⊥
  Contains-nil x h = omega (arith, h.1)

  only : (y x : X) → Contains (y ∷ []) x → y ≡ x
  only y x h = ⊎_elim (λ none. absurd (Contains-nil x none)) (λ e. e) (Contains-push_cases [] y x h)

  pub Contains-cases : (y : X) (xs : List X) (x : X) → Contains (y ∷ xs) x → (y ≡ x) ⊎ Contains xs x
  Contains-cases y xs x h =
      ⊎_elim (λ here. inl (only y x here)) (λ there. inr there) (Contains-append_cases (y ∷ []) xs x h)
