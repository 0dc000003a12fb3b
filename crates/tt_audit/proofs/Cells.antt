-- Tables of which one cell is written.
use Rattle.std.proofs.Common.{◌≡◌, ℕ, ◌<◌, Bool, true, false, eqb, ◌&&◌, List, [], length, get_or, set, inl, inr, refl, ap, ap₂, ◌∙◌, sym, arith}
use Rattle.std.proofs.lemmas.Bool.{cases_eq, eq-eqb}
use Rattle.std.proofs.lemmas.List.{get_or-set_other, length-set}
use Rattle.std.proofs.lemmas.Grind.{get_or-set_at}

-- the table with another cell w of row m
abbrev pub written : {A : Type 0} → List (List A) → ℕ → ℕ → A → List (List A)
written table m w x = set table m (set (get_or table m []) w x)

-- cell w of row m
abbrev pub cell : {A : Type 0} → A → List (List A) → ℕ → ℕ → A
cell d table m w = get_or (get_or table m []) w d

row_here : {A : Type 0} (table : List (List A)) (m w : ℕ) (x : A) {r : ℕ} → length table ≡ r → m < r → get_or (written table m w x) m [] ≡ set (get_or table m []) w x
row_here table m w x rows hm = get_or-set_at table m m (set (get_or table m []) w x) [] refl (omega (arith, rows))

row_other : {A : Type 0} (table : List (List A)) (m w : ℕ) (x : A) (k : ℕ) → (k ≡ m → ⊥) → get_or (written table m w x) k [] ≡ get_or table k []
row_other table m w x k other = get_or-set_other table m k (set (get_or table m []) w x) [] other

pub rows-written : {A : Type 0} (table : List (List A)) (m w : ℕ) (x : A) {r : ℕ} → length table ≡ r → length (written table m w x) ≡ r
rows-written table m w x rows = length-set table m (set (get_or table m []) w x) ∙ rows

pub cells-written : {A : Type 0} (table : List (List A)) (m w : ℕ) (x : A) {r c : ℕ} → length table ≡ r → ((k : ℕ) → k < r → length (get_or table k []) ≡ c) → m < r
    → (k : ℕ) → k < r → length (get_or (written table m w x) k []) ≡ c
cells-written {A} table m w x rows cells hm k h = elim (cases_eq k m) [
  | inl same ↦
      ap (λ (j : ℕ). length (get_or (written table m w x) j [])) same
      ∙ ap (λ (row : List A). length row) (row_here table m w x rows hm)
      ∙ length-set (get_or table m []) w x
      ∙ cells m hm
  | inr other ↦ ap (λ (row : List A). length row) (row_other table m w x k other) ∙ cells k h
]

pub cell-here : {A : Type 0} (d : A) (table : List (List A)) (m w : ℕ) (x : A) {r c : ℕ} → length table ≡ r → ((k : ℕ) → k < r → length (get_or table k []) ≡ c) → m < r → w < c
    → cell d (written table m w x) m w ≡ x
cell-here {A} d table m w x rows cells hm hw =
    ap (λ (row : List A). get_or row w d) (row_here table m w x rows hm) ∙ get_or-set_at (get_or table m []) w w x d refl (omega (arith, cells m hm))

pub cell-other : {A : Type 0} (d : A) (table : List (List A)) (m w : ℕ) (x : A) {r : ℕ} → length table ≡ r → m < r
    → (k v : ℕ) → (eqb m k && eqb w v) ≡ false → cell d (written table m w x) k v ≡ cell d table k v
cell-other {A} d table m w x rows hm k v apart = elim (cases_eq k m) [
  | inl same ↦ elim (cases_eq v w) [
    | inl also ↦ let both : true ≡ false = sym (ap₂ (λ (a b : Bool). a && b) (eq-eqb m k (sym same)) (eq-eqb w v (sym also))) ∙ apart in absurd cc
    | inr differs ↦
        ap (λ (j : ℕ). cell d (written table m w x) j v) same
        ∙ ap (λ (row : List A). get_or row v d) (row_here table m w x rows hm)
        ∙ get_or-set_other (get_or table m []) w v x d differs
        ∙ ap (λ (j : ℕ). cell d table j v) (sym same)
  ]
  | inr other ↦ ap (λ (row : List A). get_or row v d) (row_other table m w x k other)
]
