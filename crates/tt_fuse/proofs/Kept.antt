-- The keys of statements, of which one changes.
use Rattle.std.proofs.Common.{◌≡◌, ℕ, ◌+◌, ◌<◌, Bool, true, false, eqb, List, length, get_or, set, sym, ◌∙◌, ap, subst, refl, arith}
use Rattle.std.specs.Prelude.{ℤ, ◌&&◌, not, Option, Some, None, IsSome, IfSome, Contains, All}
use Rattle.std.specs.List.{count_by}
use Rattle.std.specs.Ordering.{int_eq}
use Rattle.std.proofs.Math.ListN.{length-set}
use Rattle.std.proofs.lemmas.Bool.{eq-eqb, eqb-true, not-false, false≢true}
use Rattle.std.proofs.lemmas.Bool.Decides.{Decides-int_eq}
use Rattle.std.proofs.lemmas.List.{length-map, get_or-map}
use Rattle.std.proofs.lemmas.List.Elements.{All-set, All-get_or}
use Rattle.std.proofs.lemmas.List.Sums.{sum_by-set, count_by-le-length}
use Rattle.tt_span.specs.Statement.{Statement, IsStatement}
use Rattle.tt_fuse.specs.Stated.{Stated, IsStated, statement_of, with_statement}
use Rattle.tt_fuse.specs.Scaled.{AreKeysOf, sources_in, keys_from, low_key_of, high_key_of}
use Rattle.tt_fuse.proofs.Tallies.{count_by-each, some-count_by}
use Rattle.tt_fuse.proofs.BySource.{one_if, passes, one_of, all-counted, count_by-keys_from, set-keys_from, All-keys_from, some-keys_from}

-- how many statements pass a test once one is made
set-passes : (q : Statement → Bool) (xs : List (Option Statement)) (i : ℕ) (s : Statement) → i < length xs →
    count_by (passes q) (set xs i (Some s)) + one_if (passes q (get_or xs i None)) ≡ count_by (passes q) xs + one_if (q s)
set-passes q xs i s inside = sum_by-set (λ o. one_if (passes q o)) xs i (Some s) None inside

-- a list with a key for each statement has room for one more, where a source has made none
pub room-without : (s : Stated) (keys : List (ℤ × ℕ)) (key_of : Statement → ℤ) (i : ℕ) → length s.statements ≡ 16 → ((p : ℤ × ℕ → Bool) → count_by p keys ≡ count_by p (keys_from key_of 0 s.statements)) →
    i < 16 → statement_of s i ≡ None → (new : Statement) → length keys < 16
room-without s keys key_of i size counts there without new =
    let any : Statement → Bool = λ _. true in
    let all : count_by (λ _. true) keys ≡ length keys = count_by-each (λ _. true) keys (λ _. refl) in
    let none : one_if (passes any (get_or s.statements i None)) ≡ 0 = ap (λ o. one_if (passes any o)) without in
    let most = count_by-le-length (passes any) (set s.statements i (Some new)) in
    omega (arith, all, counts (λ _. true), count_by-keys_from key_of (λ _. true) 0 s.statements, none, most, length-set s.statements i (Some new), set-passes any s.statements i new (omega arith))

-- a source that has made a statement is among the sources of the keys
pub there-with : (s : Stated) (keys : List (ℤ × ℕ)) (key_of : Statement → ℤ) (i : ℕ) (old : Statement) → length s.statements ≡ 16 → ((p : ℤ × ℕ → Bool) → count_by p keys ≡ count_by p (keys_from key_of 0 s.statements)) →
    i < 16 → statement_of s i ≡ Some old → Contains (sources_in keys) i
there-with s keys key_of i old size counts there with =
    let is_of : ℤ × ℕ → Bool = λ entry. eqb entry.1 i in
    let least = some-keys_from key_of is_of 0 s.statements i i old (omega arith) (omega arith) with (eq-eqb i i refl) in
    let w = some-count_by is_of keys (key_of old, i) (omega (arith, least, counts is_of)) in
    (w.0, omega (arith, w.1, length-map keys (λ (entry : ℤ × ℕ). entry.1)), get_or-map (λ (entry : ℤ × ℕ). entry.1) keys w.0 (key_of old, i) i w.1 ∙ eqb-true (get_or keys w.0 (key_of old, i)).1 i w.2)

-- the key of a statement, if there is one
abbrev key_in : (Statement → ℤ) → ℤ → Option Statement → ℤ
key_in key_of none None = none
key_in key_of none (Some s) = key_of s

-- the key that stands beside a source is that of its statement
pub key-with : (s : Stated) (keys : List (ℤ × ℕ)) (key_of : Statement → ℤ) (i : ℕ) (old : Statement) → ((p : ℤ × ℕ → Bool) → count_by p keys ≡ count_by p (keys_from key_of 0 s.statements)) →
    statement_of s i ≡ Some old → (key : ℤ) → Contains keys (key, i) → key ≡ key_of old
key-with s keys key_of i old counts with key there =
    let is_other : ℤ × ℕ → Bool = λ entry. eqb entry.1 i && not (int_eq entry.0 (key_of old)) in
    let none : All (λ entry. is_other entry ≡ false) (keys_from key_of 0 s.statements) =
    All-keys_from key_of (λ entry. is_other entry ≡ false) 0 s.statements (λ k m made inside is at.
    elim (eqb m i) as (λ b. eqb m i ≡ b → b && not (int_eq (key_of made) (key_of old)) ≡ false) [
      | true ↦ λ e.
          let same_source : k ≡ i = omega (arith, is, eqb-true m i e) in
          let same : Some made ≡ Some old = sym at ∙ ap (λ (j : ℕ). get_or s.statements j None) same_source ∙ with in
          ap (λ b. not b) ((Decides-int_eq (key_of made) (key_of old)).1 (ap (λ (o : Option Statement). key_in key_of (key_of old) o) same))
      | false ↦ λ _. refl
    ] refl) in
    let here : is_other (key, i) ≡ false = ap is_other (sym there.2) ∙ All-get_or (λ entry. is_other entry ≡ false) keys there.0 (key, i) there.1 (all-counted is_other keys (keys_from key_of 0 s.statements) (counts is_other) none) in
    let differs : not (int_eq key (key_of old)) ≡ false = ap (λ b. b && not (int_eq key (key_of old))) (sym (eq-eqb i i refl)) ∙ here in
    (Decides-int_eq key (key_of old)).0 (not-false (int_eq key (key_of old)) differs)

-- the statements are statements still
IsStated-set : (s : Stated) (i : ℕ) (new : Statement) → IsStated s → IsStatement new → IsStated (with_statement s i new)
IsStated-set s i new stated valid = record {
  drift_in = stated.drift_in;
  each_source = length-set s.statements i (Some new) ∙ stated.each_source;
  valid = All-set (λ statement. IfSome statement IsStatement) s.statements i (Some new) valid stated.valid;
}

-- how many keys of either kind pass a test, once a source has made its first statement
counted-first : (s : Stated) (key_of : Statement → ℤ) (p : ℤ × ℕ → Bool) (i : ℕ) (new : Statement) (before after : ℕ) → length s.statements ≡ 16 → i < 16 → statement_of s i ≡ None →
    before ≡ count_by p (keys_from key_of 0 s.statements) → after ≡ one_if (p (key_of new, i)) + before → after ≡ count_by p (keys_from key_of 0 (set s.statements i (Some new)))
counted-first s key_of p i new before after size there without was is =
    let none : one_of key_of p i (get_or s.statements i None) ≡ 0 = ap (λ o. one_of key_of p i o) without in
    omega (arith, none, set-keys_from key_of p 0 s.statements i i new (omega arith) (omega arith))

-- the same, once it has made another
counted-next : (s : Stated) (key_of : Statement → ℤ) (p : ℤ × ℕ → Bool) (i : ℕ) (old new : Statement) (before after : ℕ) → length s.statements ≡ 16 → i < 16 → statement_of s i ≡ Some old →
    before ≡ count_by p (keys_from key_of 0 s.statements) → after + one_if (p (key_of old, i)) ≡ before + one_if (p (key_of new, i)) → after ≡ count_by p (keys_from key_of 0 (set s.statements i (Some new)))
counted-next s key_of p i old new before after size there with was is =
    let here : one_of key_of p i (get_or s.statements i None) ≡ one_if (p (key_of old, i)) = ap (λ o. one_of key_of p i o) with in
    omega (arith, here, set-keys_from key_of p 0 s.statements i i new (omega arith) (omega arith))

-- the list of keys after is the list before with one more key of a source
abbrev pub HasOneMore : List (ℤ × ℕ) → List (ℤ × ℕ) → ℤ → ℕ → Type 0
HasOneMore before after key source = (p : ℤ × ℕ → Bool) → count_by p after ≡ one_if (p (key, source)) + count_by p before

-- the list of keys after is the list before with another key of a source
abbrev pub HasAnother : List (ℤ × ℕ) → List (ℤ × ℕ) → ℤ → ℕ → Type 0
HasAnother before after key source = (old : ℤ) × Contains before (old, source) × ((p : ℤ × ℕ → Bool) → count_by p after + one_if (p (old, source)) ≡ count_by p before + one_if (p (key, source)))

module _ (s : Stated) (lows highs lows' highs' : List (ℤ × ℕ)) (i : ℕ) (keys : AreKeysOf s lows highs) (there : i < 16) where
  -- the key of a statement's lower end, and that of its upper end
  abbrev pub low_of : Statement → ℤ
  low_of statement = low_key_of s.drift statement.span.lo statement.got

  abbrev pub high_of : Statement → ℤ
  high_of statement = high_key_of s.drift statement.span.hi statement.sent

  pub AreKeysOf-insert : (new : Statement) → statement_of s i ≡ None → IsStatement new →
      HasOneMore lows lows' (low_of new) i → HasOneMore highs highs' (high_of new) i → AreKeysOf (with_statement s i new) lows' highs'
  AreKeysOf-insert new without valid more_lows more_highs = record {
    stated = IsStated-set s i new keys.stated valid;
    low_keys = λ p. counted-first s low_of p i new (count_by p lows) (count_by p lows') keys.stated.each_source there without (keys.low_keys p) (more_lows p);
    high_keys = λ p. counted-first s high_of p i new (count_by p highs) (count_by p highs') keys.stated.each_source there without (keys.high_keys p) (more_highs p);
  }

  pub AreKeysOf-replace : (old new : Statement) → statement_of s i ≡ Some old → IsStatement new →
      HasAnother lows lows' (low_of new) i → HasAnother highs highs' (high_of new) i → AreKeysOf (with_statement s i new) lows' highs'
  AreKeysOf-replace old new with valid other_lows other_highs =
      let low : other_lows.0 ≡ low_of old = key-with s lows low_of i old keys.low_keys with other_lows.0 other_lows.1 in
      let high : other_highs.0 ≡ high_of old = key-with s highs high_of i old keys.high_keys with other_highs.0 other_highs.1 in
      record {
        stated = IsStated-set s i new keys.stated valid;
        low_keys = λ p.
            let counts = other_lows.2 p in
            counted-next s low_of p i old new (count_by p lows) (count_by p lows') keys.stated.each_source there with (keys.low_keys p) (omega (arith, counts, ap (λ (key : ℤ). one_if (p (key, i))) low));
        high_keys = λ p.
            let counts = other_highs.2 p in
            counted-next s high_of p i old new (count_by p highs) (count_by p highs') keys.stated.each_source there with (keys.high_keys p) (omega (arith, counts, ap (λ (key : ℤ). one_if (p (key, i))) high));
      }

-- a statement that there is
some-made : (o : Option Statement) → IsSome o → (old : Statement) × (o ≡ Some old)
some-made None h = absurd (false≢true h)
some-made (Some old) h = (old, refl)

-- what a source that has made a statement stated
pub made-before : (inside shown : Stated) (i : ℕ) → inside ≡ shown → IsSome (statement_of shown i) → (old : Statement) × (statement_of inside i ≡ Some old)
made-before inside shown i same made = some-made (statement_of inside i) (subst (λ (s : Stated). IsSome (statement_of s i)) (sym same) made)
