-- What a reader sees when it looks at a shared file.
use Rattle.std.specs.Prelude.{ℕ, zero, suc, ◌≡◌, ◌≢◌, ◌<◌, ◌⊎◌, List, Option, Some, None}
use Rattle.std.specs.Int.{w64, from_le_bytes}
use Rattle.tt_shared.specs.Index.{index_at}
use Rattle.tt_shared.specs.Writing.{slot_place}

-- a look: at the eight bytes of the index, or at the slot that begins at an offset, and the bytes that it gave; None where it failed
pub data Look : Type 0 where
  AtIndex : Option (List ℕ) → Look
  AtSlot : ℕ → Option (List ℕ) → Look

-- an index as one number
abbrev pub word_of : List ℕ → ℕ
word_of index = from_le_bytes w64 index

-- an index names the slot of its count, which begins here
abbrev pub IsNamedBy : List ℕ → ℕ → Type 0
IsNamedBy index offset = (n : ℕ) × (index_at n ≡ index) × (slot_place n ≡ offset)

-- three looks: at an index that is not 0, at the slot that it names, and at the index again
pub record Tries {P : Type 0} (looks : P → Look → P → Type 0) (before : P) (index bytes again : List ℕ) (after : P) : Type 0 where
  pub first : P
  pub second : P
  pub offset : ℕ
  pub not_zero : word_of index ≢ 0
  pub named : IsNamedBy index offset
  pub looked : looks before (AtIndex (Some index)) first
  pub copied : looks first (AtSlot offset (Some bytes)) second
  pub looked_again : looks second (AtIndex (Some again)) after

-- so many tries, each of which met another publication
abbrev pub Meets : {P : Type 0} → (P → Look → P → Type 0) → ℕ → P → P → Type 0
Meets {P} looks zero before after = after ≡ before
Meets {P} looks (suc k) before after = (mid : P) × (index bytes again : List ℕ) × Meets looks k before mid × Tries looks mid index bytes again after × (again ≢ index)

-- each of 1,000 tries met another publication
abbrev pub GivesUp : {P : Type 0} → (P → Look → P → Type 0) → P → P → Type 0
GivesUp {P} looks before after = (k : ℕ) × (k ≡ 1000) × Meets looks k before after

-- a look at a file in which nothing was published
abbrev pub SeesNothing : {P : Type 0} → (P → Look → P → Type 0) → P → P → Type 0
SeesNothing {P} looks before after = (index : List ℕ) × looks before (AtIndex (Some index)) after × (word_of index ≡ 0)

-- a try whose first, second or third look failed
abbrev pub Fails : {P : Type 0} → (P → Look → P → Type 0) → P → P → Type 0
Fails {P} looks before after = looks before (AtIndex None) after
    ⊎ (((mid : P) × (index : List ℕ) × (offset : ℕ) × looks before (AtIndex (Some index)) mid × IsNamedBy index offset × looks mid (AtSlot offset None) after)
    ⊎ ((first second : P) × (index bytes : List ℕ) × (offset : ℕ) × looks before (AtIndex (Some index)) first × IsNamedBy index offset × looks first (AtSlot offset (Some bytes)) second × looks second (AtIndex None) after))

-- fewer than 1,000 tries met another publication, and the next one ended so
abbrev pub EndsBy : {P : Type 0} → (P → Look → P → Type 0) → (P → P → Type 0) → P → P → Type 0
EndsBy {P} looks last before after = (k : ℕ) × (mid : P) × (k < 1000) × Meets looks k before mid × last mid after

-- the slot was copied between two looks at the same index
abbrev pub Finds : {P : Type 0} → (P → Look → P → Type 0) → List ℕ → List ℕ → P → P → Type 0
Finds {P} looks index bytes = EndsBy looks (λ (mid after : P). Tries looks mid index bytes index after)
