-- The ends of aged spans, in the order of the keys, found by the sources beside them.
use Rattle.std.proofs.Common.{◌≡◌, ℕ, ◌+◌, ◌-◌, ◌<◌, ◌≤◌, inl, inr, Bool, true, false, eqb, List, [], ◌∷◌, ◌++◌, length, get_or, take, map, replicate, sym, ◌∙◌, ap, subst, refl, arith, get_or-take}
use Rattle.std.specs.Prelude.{ℤ, not, nat_lt, Option, Some, None, IfSome, All}
use Rattle.std.specs.List.{count_by}
use Rattle.std.specs.List.Sorted.{IsNonDecreasing}
use Rattle.std.proofs.lemmas.Bool.{cases_lt, eq-eqb, eqb-true, not-false, le-ltb, ltb-false, false≢true}
use Rattle.std.proofs.lemmas.List.{length-map, length-take-le, get_or-map}
use Rattle.std.proofs.lemmas.List.Elements.{All-head, All-tail, All-map, All-weaker, All-get_or}
use Rattle.std.proofs.lemmas.Simd.{map-map}
use Rattle.tt_span.specs.Time.{max_time}
use Rattle.tt_span.specs.Interval.{Interval, whole}
use Rattle.tt_span.specs.Statement.{Statement, IsStatement, stated_at}
use Rattle.tt_fuse.specs.Ends.{AreInOrder, AreEndsOf}
use Rattle.tt_fuse.specs.Stated.{Stated, AreSpansAt, low_of_source, high_of_source}
use Rattle.tt_fuse.specs.Scaled.{AreSortedKeys, AreKeysOf, keys_in, sources_in, keys_from, low_key_of, high_key_of, low_end_of, high_end_of}
use Rattle.tt_fuse.proofs.Keyed.{low_end_of-low_key_of, high_end_of-high_key_of}
use Rattle.tt_fuse.proofs.BySource.{passes, all-counted, All-keys_from}
use Rattle.tt_fuse.proofs.Walking.{AreAsked, AreAsked-of, AreEndsOf-shown, AreInOrder-shown, ascending-lows, ascending-highs, lows-few, highs-few}

-- functions that agree on the elements of a list
map-each : {X Y : Type 0} (f g : X → Y) (xs : List X) → All (λ x. f x ≡ g x) xs → map f xs ≡ map g xs
map-each f g [] each = refl
map-each f g (x ∷ xs) each =
    ap (λ y. y ∷ map f xs) (All-head (λ x. f x ≡ g x) x xs each) ∙ ap (λ ys. g x ∷ ys) (map-each f g xs (All-tail (λ x. f x ≡ g x) x xs each))

module _ (s : Stated) (c : ℕ) (spans : List Interval) (lows highs : List (ℤ × ℕ)) (keys : AreKeysOf s lows highs) (are : AreSpansAt s c spans) where
  -- a source that has made a statement has a span
  source-there : (k : ℕ) (statement : Statement) → get_or s.statements k None ≡ Some statement → k < length spans
  source-there k statement is =
      elim (cases_lt k (length spans)) [
        | inl there ↦ there
        | inr past ↦ absurd (false≢true (ap (passes (λ _. true)) (sym (are.among k past) ∙ is)))
      ]

  -- which is its statement's, aged
  span-of-source : (k : ℕ) (statement : Statement) → get_or s.statements k None ≡ Some statement → get_or spans k whole ≡ stated_at s.drift (Some statement) c
  span-of-source k statement is =
      let there : k < length spans = source-there k statement is in
      let few : length spans ≤ 16 = are.few in
      let size : length s.statements ≡ 16 = keys.stated.each_source in
      let inside : k < length (take (length spans) s.statements) = omega (arith, length-take-le (length spans) s.statements (omega arith)) in
      ap (λ (ss : List Interval). get_or ss k whole) (sym are.aged)
      ∙ get_or-map (λ (o : Option Statement). stated_at s.drift o c) (take (length spans) s.statements) k None whole inside
      ∙ ap (λ (o : Option Statement). stated_at s.drift o c) (get_or-take (length spans) s.statements k None there ∙ is)

  -- what is known of a statement
  made-well : (k : ℕ) (statement : Statement) → get_or s.statements k None ≡ Some statement → IsStatement statement × (statement.got ≤ c)
  made-well k statement is =
      let few : length spans ≤ 16 = are.few in
      let size : length s.statements ≡ 16 = keys.stated.each_source in
      let there : k < length s.statements = omega (arith, source-there k statement is) in
      let valid = All-get_or (λ o. IfSome o IsStatement) s.statements k None there keys.stated.valid in
      let past = All-get_or (λ o. IfSome o (λ stated. stated.got ≤ c)) s.statements k None there are.got in
      (subst (λ o. IfSome o IsStatement) is valid, subst (λ o. IfSome o (λ stated. stated.got ≤ c)) is past)

  -- of one kind of key
  module _ (entries : List (ℤ × ℕ)) (key_of : Statement → ℤ) (counts : (p : ℤ × ℕ → Bool) → count_by p entries ≡ count_by p (keys_from key_of 0 s.statements)) where
    sources-there : All (λ source. source < length spans) (sources_in entries)
    sources-there =
        let is_past : ℤ × ℕ → Bool = λ entry. nat_lt (length spans) (entry.1 + 1) in
        let none : All (λ entry. is_past entry ≡ false) (keys_from key_of 0 s.statements) =
        All-keys_from key_of (λ entry. is_past entry ≡ false) 0 s.statements (λ k m statement inside is at. le-ltb (length spans) (m + 1) (omega (arith, is, source-there k statement at))) in
        All-map (λ source. source < length spans) (λ (entry : ℤ × ℕ). entry.1) entries
        (All-weaker (λ entry. is_past entry ≡ false) (λ entry. entry.1 < length spans) (λ entry h. omega (arith, ltb-false (length spans) (entry.1 + 1) h)) entries
        (all-counted is_past entries (keys_from key_of 0 s.statements) (counts is_past) none))

    ends-by-source : (side : Interval → ℕ) (end_of : ℤ → ℕ) → ((statement : Statement) → IsStatement statement → statement.got ≤ c → end_of (key_of statement) ≡ side (stated_at s.drift (Some statement) c)) →
        map (λ source. side (get_or spans source whole)) (sources_in entries) ≡ map end_of (keys_in entries)
    ends-by-source side end_of aged =
        let differs : ℤ × ℕ → Bool = λ entry. not (eqb (side (get_or spans entry.1 whole)) (end_of entry.0)) in
        let none : All (λ entry. differs entry ≡ false) (keys_from key_of 0 s.statements) =
        All-keys_from key_of (λ entry. differs entry ≡ false) 0 s.statements (λ k m statement inside is at.
        let known = made-well k statement at in
        let place : k ≡ m = omega (arith, is) in
        let same : side (get_or spans m whole) ≡ end_of (key_of statement) =
        ap (λ (i : ℕ). side (get_or spans i whole)) (sym place) ∙ ap side (span-of-source k statement at) ∙ sym (aged statement known.0 known.1) in
        ap (λ b. not b) (eq-eqb (side (get_or spans m whole)) (end_of (key_of statement)) same)) in
        map-map (λ source. side (get_or spans source whole)) (λ (entry : ℤ × ℕ). entry.1) entries
        ∙ map-each (λ entry. side (get_or spans entry.1 whole)) (λ entry. end_of entry.0) entries
        (All-weaker (λ entry. differs entry ≡ false) (λ entry. side (get_or spans entry.1 whole) ≡ end_of entry.0)
        (λ entry h. eqb-true (side (get_or spans entry.1 whole)) (end_of entry.0) (not-false (eqb (side (get_or spans entry.1 whole)) (end_of entry.0)) h)) entries
        (all-counted differs entries (keys_from key_of 0 s.statements) (counts differs) none))
        ∙ sym (map-map end_of (λ (entry : ℤ × ℕ). entry.0) entries)

-- the keys of a value that shows the statements, and the spans of the sources
module _ (inside shown : Stated) (spans : List Interval) (lows highs : List (ℤ × ℕ)) (same : inside ≡ shown) (keys : AreKeysOf inside lows highs) (given : (clock : ℕ) × AreSpansAt shown clock spans) where
  are : AreSpansAt inside given.0 spans
  are = subst (λ (s : Stated). AreSpansAt s given.0 spans) (sym same) given.1

  asked : AreAsked inside given.0 (length spans) (keys_in lows) (keys_in highs)
  asked = AreAsked-of inside shown given.0 (length spans) lows highs same keys given.1.got given.1.in_time given.1.few given.1.among

  pub low-sources-there : All (λ source. source < length spans) (sources_in lows)
  low-sources-there = sources-there inside given.0 spans lows highs keys are lows (λ statement. low_key_of inside.drift statement.span.lo statement.got) keys.low_keys

  pub high-sources-there : All (λ source. source < length spans) (sources_in highs)
  high-sources-there = sources-there inside given.0 spans lows highs keys are highs (λ statement. high_key_of inside.drift statement.span.hi statement.sent) keys.high_keys

  same-lows : map (low_of_source spans) (sources_in lows) ≡ map (low_end_of inside.drift given.0) (keys_in lows)
  same-lows =
      ends-by-source inside given.0 spans lows highs keys are lows (λ statement. low_key_of inside.drift statement.span.lo statement.got) keys.low_keys (λ span. span.lo) (low_end_of inside.drift given.0)
      (λ statement valid past. low_end_of-low_key_of inside.drift statement.span.lo statement.got given.0 past given.1.in_time keys.stated.drift_in)

  same-highs : map (high_of_source spans) (sources_in highs) ≡ map (high_end_of inside.drift given.0) (keys_in highs)
  same-highs =
      ends-by-source inside given.0 spans lows highs keys are highs (λ statement. high_key_of inside.drift statement.span.hi statement.sent) keys.high_keys (λ span. span.hi) (high_end_of inside.drift given.0)
      (λ statement valid past.
      let ordered : statement.sent ≤ statement.got = valid.ordered in
      high_end_of-high_key_of inside.drift statement.span.hi statement.sent given.0 (omega arith) given.1.in_time keys.stated.drift_in)

  -- there are as many sources as keys
  as-many : length (sources_in lows) ≡ length (keys_in lows)
  as-many = length-map lows (λ entry. entry.1) ∙ sym (length-map lows (λ entry. entry.0))

  -- slices that show the sources
  module _ (low_sources high_sources : List ℕ) (low_is : low_sources ≡ sources_in lows) (high_is : high_sources ≡ sources_in highs) where
    pub few-sources : length low_sources ≤ length spans
    few-sources = omega (arith, ap length low_is, as-many, lows-few inside given.0 (length spans) (keys_in lows) (keys_in highs) asked)

    pub as-many-sources : length high_sources ≡ length low_sources
    as-many-sources =
        let highs_beside = length-map highs (λ (entry : ℤ × ℕ). entry.1) ∙ sym (length-map highs (λ (entry : ℤ × ℕ). entry.0)) in
        omega (arith, ap length low_is, ap length high_is, as-many, highs_beside, highs-few inside given.0 (length spans) (keys_in lows) (keys_in highs) asked)

    -- the ends that are taken by them
    module _ (low_ends high_ends : List ℕ) (lows_made : low_ends ≡ replicate (length spans - length low_sources) 0 ++ map (low_of_source spans) low_sources) (highs_made : high_ends ≡ map (high_of_source spans) high_sources ++ replicate (length spans - length low_sources) max_time) where
      size : length low_sources ≡ length (keys_in lows)
      size = ap length low_is ∙ as-many

      lows-are : low_ends ≡ replicate (length spans - length (keys_in lows)) 0 ++ map (low_end_of inside.drift given.0) (keys_in lows)
      lows-are =
          lows_made
          ∙ ap (λ (k : ℕ). replicate (length spans - k) 0 ++ map (low_of_source spans) low_sources) size
          ∙ ap (λ (ends : List ℕ). replicate (length spans - length (keys_in lows)) 0 ++ ends) (ap (map (low_of_source spans)) low_is ∙ same-lows)

      highs-are : high_ends ≡ map (high_end_of inside.drift given.0) (keys_in highs) ++ replicate (length spans - length (keys_in lows)) max_time
      highs-are =
          highs_made
          ∙ ap (λ (k : ℕ). map (high_of_source spans) high_sources ++ replicate (length spans - k) max_time) size
          ∙ ap (λ (ends : List ℕ). ends ++ replicate (length spans - length (keys_in lows)) max_time) (ap (map (high_of_source spans)) high_is ∙ same-highs)

      pub AreInOrder-spans : AreSortedKeys (keys_in lows) → AreSortedKeys (keys_in highs) → AreInOrder (record { lows = low_ends; highs = high_ends })
      AreInOrder-spans lows_sorted highs_sorted =
          AreInOrder-shown inside given.0 (length spans) (keys_in lows) (keys_in highs) asked low_ends high_ends lows-are highs-are
          (subst IsNonDecreasing (sym lows-are) (ascending-lows inside.drift given.0 (length spans - length (keys_in lows)) (keys_in lows) lows_sorted))
          (subst IsNonDecreasing (sym highs-are) (ascending-highs inside.drift given.0 (length spans - length (keys_in lows)) (keys_in highs) highs_sorted))

      pub AreEndsOf-spans : AreEndsOf spans (record { lows = low_ends; highs = high_ends })
      AreEndsOf-spans =
          subst (λ (ss : List Interval). AreEndsOf ss (record { lows = low_ends; highs = high_ends })) are.aged
          (AreEndsOf-shown inside given.0 (length spans) (keys_in lows) (keys_in highs) asked low_ends high_ends lows-are highs-are)
