-- Finding a key by its number.
use Rattle.std.proofs.Common.{◌≡◌, ◌≢◌, ℕ, ◌+◌, ◌<◌, ◌≤◌, List, [], ◌∷◌, length, drop, get_or, suc, zero, Bool, true, false, cond, eqb, Option, Some, None, refl, ap, ◌∙◌, sym, subst, add-one, drop-cons, arith}
use Rattle.std.specs.Prelude.{Contains}
use Rattle.std.specs.List.{AllByRecursion}
use Rattle.std.proofs.Math.ListN.{drop_of_length-le}
use Rattle.std.proofs.lemmas.Bool.{eq-eqb, ne_eqb, eqb-true}
use Rattle.tt_seal.specs.Sealing.{SealKey, key_with, HaveOwnNumbers}

first_is : (key : SealKey) (others : List SealKey) (number : ℕ) → eqb key.number number ≡ true → key_with (key ∷ others) number ≡ Some key
first_is key others number e = rw e refl

first_is_not : (key : SealKey) (others : List SealKey) (number : ℕ) → eqb key.number number ≡ false → key_with (key ∷ others) number ≡ key_with others number
first_is_not key others number e = rw e refl

at_place : (keys : List SealKey) (i : ℕ) (key : SealKey) → i < length keys → key ≡ get_or keys i key → drop i keys ≡ key ∷ drop (i + 1) keys
at_place keys i key below is = rw add-one (drop-cons keys i key below ∙ ap (λ (x : SealKey). x ∷ drop (suc i) keys) (sym is))

pub found_here : (keys : List SealKey) (number i : ℕ) (key : SealKey) → i < length keys → key ≡ get_or keys i key → eqb key.number number ≡ true
    → key_with keys number ≡ key_with (drop i keys) number → Some key ≡ key_with keys number
found_here keys number i key below is e before =
    sym (before ∙ ap (λ (l : List SealKey). key_with l number) (at_place keys i key below is) ∙ first_is key (drop (i + 1) keys) number e)

pub found_later : (keys : List SealKey) (number i : ℕ) (key : SealKey) → i < length keys → key ≡ get_or keys i key → eqb key.number number ≡ false
    → key_with keys number ≡ key_with (drop i keys) number → key_with keys number ≡ key_with (drop (i + 1) keys) number
found_later keys number i key below is e before =
    before ∙ ap (λ (l : List SealKey). key_with l number) (at_place keys i key below is) ∙ first_is_not key (drop (i + 1) keys) number e

pub found_nowhere : (keys : List SealKey) (number i : ℕ) → length keys ≤ i → key_with keys number ≡ key_with (drop i keys) number → None ≡ key_with keys number
found_nowhere keys number i all before = sym (before ∙ ap (λ (l : List SealKey). key_with l number) (drop_of_length-le keys all))

-- ---- what is found has the number

with_number : (b : Bool) (first found : SealKey) (rest : Option SealKey) (number : ℕ) → eqb first.number number ≡ b → (rest ≡ Some found → found.number ≡ number)
    → cond b (Some first) rest ≡ Some found → found.number ≡ number
with_number true first found rest number e later h =
    let is : first ≡ found = cc in
    sym (ap (λ (k : SealKey). k.number) is) ∙ eqb-true first.number number e
with_number false first found rest number e later h = later h

pub key_with-number : (keys : List SealKey) (number : ℕ) (found : SealKey) → key_with keys number ≡ Some found → found.number ≡ number
key_with-number [] number found h = cc
key_with-number (first ∷ others) number found h =
    with_number (eqb first.number number) first found (key_with others number) number refl (key_with-number others number found) h

-- ---- each key of a list without equal numbers is found

one_of : {X : Type 0} (P : X → Type 0) (xs : List X) (k : ℕ) (x : X) → AllByRecursion P xs → k < length xs → get_or xs k x ≡ x → P x
one_of P [] k x all below is = absurd (omega arith)
one_of P (first ∷ xs) zero x all below is = subst P is all.0
one_of P (first ∷ xs) (suc k) x all below is = one_of P xs k x all.1 (omega arith) is

found_at : (keys : List SealKey) (k : ℕ) (key : SealKey) → HaveOwnNumbers keys → k < length keys → get_or keys k key ≡ key → key_with keys key.number ≡ Some key
found_at [] k key own below is = absurd (omega arith)
found_at (first ∷ others) zero key own below is =
    let same : first ≡ key = is in
    rw same (first_is key others key.number (eq-eqb key.number key.number refl))
found_at (first ∷ others) (suc k) key own below is =
    let other : first.number ≢ key.number = one_of (λ (o : SealKey). first.number ≢ o.number) others k key own.0 (omega arith) is in
    first_is_not first others key.number (ne_eqb first.number key.number other) ∙ found_at others k key own.1 (omega arith) is

pub found_own : (keys : List SealKey) (key : SealKey) → HaveOwnNumbers keys → Contains keys key → key_with keys key.number ≡ Some key
found_own keys key own has = found_at keys has.0 key own has.1 has.2
