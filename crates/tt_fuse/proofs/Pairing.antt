-- The pairs of keys among which a fusion looks for its ends.
use Rattle.std.proofs.Common.{◌≡◌, ℕ, ◌+◌, ◌-◌, ◌<◌, ◌≤◌, List, ◌++◌, length, get_or, take, drop, map, replicate, sym, ◌∙◌, ap, subst, refl, arith, length-append, length-drop}
use lib.Seq.{drop-append-add}
use mir.Val.{to_z, of_z}
use mir.Syntax.{w128}
use Rattle.std.proofs.lemmas.Int.{ints}
use Rattle.std.specs.Prelude.{ℤ, pos, Option, Some, None, All, MatchOption}
use Rattle.std.proofs.lemmas.List.{length-map, length-replicate, get_or-map, drop-map, take_rest, get_or_past, get_or_append_left, get_or-append_right, get_or-replicate}
use Rattle.std.proofs.lemmas.List.Elements.{All-drop, All-get_or, All-map, All-weaker}
use Rattle.std.proofs.lemmas.List.Sorted.{All-permutation}
use Rattle.tt_span.specs.Time.{max_time}
use Rattle.tt_span.specs.Interval.{Interval, IsInterval}
use Rattle.tt_fuse.specs.Fusion.{IsFusion, HasNoPossibleTime}
use Rattle.tt_fuse.specs.Depth.{lower_ends}
use Rattle.tt_fuse.specs.Ends.{AreEndsOf}
use Rattle.tt_fuse.specs.Pairs.{IsOrderedAt, AreFirstAndLast, IsFound}
use Rattle.tt_fuse.specs.Stated.{Stated, AreGotBy, AreAmongFirst, spans_at}
use Rattle.tt_fuse.specs.Scaled.{IsKey, AreSortedKeys, AreKeysOf, keys_in, AreOrderedAt, low_end_of, high_end_of}
use Rattle.tt_fuse.proofs.EndLists.{AreSwept, fusion-found, fusion-from_found, start-is, length-starts}
use Rattle.tt_fuse.proofs.BySource.{AreNumbersOf-keys}
use Rattle.tt_fuse.proofs.Walking.{AreAsked, AreEndsOf-keys, AreInOrder-shown, ascending-lows, ascending-highs, highs-few, lows-few, length-spans_at}

-- a key that is handed on as a number of 128 bits
pub key-handed : (key : ℤ) → IsKey key → to_z w128 (of_z w128 key) ≡ key
key-handed key is = let low = is.0 in let high = is.1 in omega (arith, ints)

-- the ends of pairs of keys, as pairs of numbers
module _ (ppm clock : ℕ) (starts ends : List ℤ) (enough : length starts ≤ length ends) where
  abbrev pub ends_of_starts : List ℕ
  ends_of_starts = map (low_end_of ppm clock) starts

  abbrev pub ends_of_ends : List ℕ
  ends_of_ends = map (high_end_of ppm clock) ends

  low-at : (k : ℕ) → k < length starts → get_or ends_of_starts k 0 ≡ low_end_of ppm clock (get_or starts k (pos 0))
  low-at k inside = get_or-map (low_end_of ppm clock) starts k (pos 0) 0 inside

  high-at : (k : ℕ) → k < length starts → get_or ends_of_ends k 0 ≡ high_end_of ppm clock (get_or ends k (pos 0))
  high-at k inside = get_or-map (high_end_of ppm clock) ends k (pos 0) 0 (omega arith)

  key-ordered : (k : ℕ) → k < length starts → IsOrderedAt ends_of_starts ends_of_ends k → AreOrderedAt ppm clock starts ends k
  key-ordered k inside h = omega (arith, h, low-at k inside, high-at k inside)

  ordered-key : (k : ℕ) → k < length starts → AreOrderedAt ppm clock starts ends k → IsOrderedAt ends_of_starts ends_of_ends k
  ordered-key k inside h = omega (arith, h, low-at k inside, high-at k inside)

  pub none-ordered : ((k : ℕ) → k < length starts → AreOrderedAt ppm clock starts ends k → ⊥) → (k : ℕ) → k < length starts → IsOrderedAt ends_of_starts ends_of_ends k → ⊥
  none-ordered none k inside h = none k inside (key-ordered k inside h)

  pub first-and-last : (first last lo hi : ℕ) → first < length starts → last < length starts → AreOrderedAt ppm clock starts ends first → AreOrderedAt ppm clock starts ends last →
      lo ≡ low_end_of ppm clock (get_or starts first (pos 0)) → hi ≡ high_end_of ppm clock (get_or ends last (pos 0)) →
      ((k : ℕ) → k < first → AreOrderedAt ppm clock starts ends k → ⊥) → ((k : ℕ) → last < k → k < length starts → AreOrderedAt ppm clock starts ends k → ⊥) →
      AreFirstAndLast ends_of_starts ends_of_ends (length starts) lo hi
  first-and-last first last lo hi first_in last_in first_ordered last_ordered lo_is hi_is before after = record {
    first = first;
    last = last;
    first_below = first_in;
    last_below = last_in;
    first_ordered = ordered-key first first_in first_ordered;
    last_ordered = ordered-key last last_in last_ordered;
    lo_is = lo_is ∙ sym (low-at first first_in);
    hi_is = hi_is ∙ sym (high-at last last_in);
    none_before = λ k early h. before k early (key-ordered k (omega arith) h);
    none_after = λ k late inside h. after k late inside (key-ordered k inside h);
  }

-- what is found among pairs is found where there are more ends
IsFound-append : (starts ends more : List ℕ) (n : ℕ) (o : Option (ℕ × ℕ)) → n ≤ length ends → IsFound starts ends n o → IsFound starts (ends ++ more) n o
IsFound-append starts ends more n None short h = λ k below ordered. h k below (omega (arith, ordered, get_or_append_left ends more 0 k (omega arith)))
IsFound-append starts ends more n (Some r) short h = record {
  first = h.first;
  last = h.last;
  first_below = h.first_below;
  last_below = h.last_below;
  first_ordered = let below : h.first < n = h.first_below in omega (arith, h.first_ordered, get_or_append_left ends more 0 h.first (omega arith));
  last_ordered = let below : h.last < n = h.last_below in omega (arith, h.last_ordered, get_or_append_left ends more 0 h.last (omega arith));
  lo_is = h.lo_is;
  hi_is = let below : h.last < n = h.last_below in h.hi_is ∙ sym (get_or_append_left ends more 0 h.last (omega arith));
  none_before = λ k early ordered. let below : h.first < n = h.first_below in h.none_before k early (omega (arith, ordered, get_or_append_left ends more 0 k (omega arith)));
  none_after = λ k late below ordered. h.none_after k late below (omega (arith, ordered, get_or_append_left ends more 0 k (omega arith)));
}

-- no source is beyond the last that there can be
among-all : (s : Stated) → length s.statements ≡ 16 → AreAmongFirst s 16
among-all s size i beyond = get_or_past s.statements i None (omega arith)

-- the keys of a value that shows the statements, looked at for all sources that there can be
pub AreAsked-all : (inside shown : Stated) (c : ℕ) (lows highs : List (ℤ × ℕ)) → inside ≡ shown → AreKeysOf inside lows highs → AreGotBy shown c → c ≤ max_time → AreAsked inside c 16 (keys_in lows) (keys_in highs)
AreAsked-all inside shown c lows highs same keys got in_time = record {
  keys = AreNumbersOf-keys inside lows highs keys;
  got = subst (λ (s : Stated). AreGotBy s c) (sym same) got;
  in_time = in_time;
  few = omega arith;
  among = among-all inside keys.stated.each_source;
}

-- what the last keys of a slice have of all of them
pub All-rest : (P : ℤ → Type 0) (keys slice : List ℤ) (skipped : ℕ) → slice ≡ keys → All P keys → All P (take (length slice - skipped) (drop skipped slice))
All-rest P keys slice skipped same all = subst (All P) (sym (take_rest slice skipped)) (All-drop P skipped slice (subst (All P) (sym same) all))

pub rest-few : (slice : List ℤ) (skipped : ℕ) → length (take (length slice - skipped) (drop skipped slice)) ≤ length slice
rest-few slice skipped = omega (arith, ap length (take_rest slice skipped), length-drop skipped slice)

-- the last ends of some, behind others
drop-behind : (n u a : ℕ) (x : ℕ) (xs : List ℕ) → n ≡ u + a → drop n (replicate u x ++ xs) ≡ drop a xs
drop-behind n u a x xs same =
    let size = length-replicate u x in
    let at : n ≡ length (replicate u x) + a = omega (arith, same, size) in
    ap (λ k. drop k (replicate u x ++ xs)) at ∙ drop-append-add (replicate u x) xs a

-- no lower end of intervals is past the greatest time
lows-in_time : (spans : List Interval) (lows highs : List ℕ) → AreEndsOf spans (record { lows = lows; highs = highs }) → All (λ lo. lo ≤ max_time) lows
lows-in_time spans lows highs of =
    let all : All (λ lo. lo ≤ max_time) (lower_ends spans) = All-map (λ lo. lo ≤ max_time) (λ span. span.lo) spans (All-weaker IsInterval (λ span. span.lo ≤ max_time) (λ span valid. let order : span.lo ≤ span.hi = valid.ordered in let last : span.hi ≤ max_time = valid.in_time in omega arith) spans of.intervals) in
    All-permutation (λ lo. lo ≤ max_time) (lower_ends spans) lows of.lows all

module _ (s : Stated) (c n f : ℕ) (lows highs : List ℤ) (asked : AreAsked s c n lows highs) (lows_sorted : AreSortedKeys lows) (highs_sorted : AreSortedKeys highs) (enough : f < n) where
  abbrev pub all_lows : List ℕ
  all_lows = replicate (n - length lows) 0 ++ map (low_end_of s.drift c) lows

  abbrev pub all_highs : List ℕ
  all_highs = map (high_end_of s.drift c) highs ++ replicate (n - length lows) max_time

  each-span : length (spans_at s c n) ≡ n
  each-span = length-spans_at s c n asked.keys.stated.each_source asked.few

  swept : AreSwept (spans_at s c n) f all_lows all_highs
  swept = record {
    few = omega (arith, each-span);
    of = AreEndsOf-keys s c n lows highs asked;
    ordered = AreInOrder-shown s c n lows highs asked all_lows all_highs refl refl (ascending-lows s.drift c (n - length lows) lows lows_sorted) (ascending-highs s.drift c (n - length lows) highs highs_sorted);
  }

  -- what is found among the last low keys and the high keys is the fusion
  pub fusion-from_keys : f < length lows → (o : Option (ℕ × ℕ)) → IsFound (map (low_end_of s.drift c) (drop (length lows - 1 - f) lows)) (map (high_end_of s.drift c) highs) (length (drop (length lows - 1 - f) lows)) o →
      MatchOption o (HasNoPossibleTime (spans_at s c n) f) (λ r. IsFusion (spans_at s c n) f (record { lo = r.0; hi = r.1 }))
  fusion-from_keys known o found =
      let skipped : ℕ = length lows - 1 - f in
      let seen : List ℕ = map (low_end_of s.drift c) (drop skipped lows) in
      let high_ends : List ℕ = map (high_end_of s.drift c) highs in
      let few = lows-few s c n lows highs asked in
      let as_many = highs-few s c n lows highs asked in
      let far : length (spans_at s c n) - f - 1 ≡ (n - length lows) + skipped = omega (arith, few, each-span) in
      let same : seen ≡ drop (length (spans_at s c n) - f - 1) all_lows =
      sym (drop-map (low_end_of s.drift c) skipped lows) ∙ sym (drop-behind (length (spans_at s c n) - f - 1) (n - length lows) skipped 0 (map (low_end_of s.drift c) lows) far) in
      let count : length (drop skipped lows) ≡ length seen = sym (length-map (drop skipped lows) (low_end_of s.drift c)) in
      let short : length seen ≤ length high_ends = omega (arith, count, length-drop skipped lows, as_many, length-map highs (high_end_of s.drift c)) in
      fusion-from_found (spans_at s c n) f all_lows all_highs swept seen o same
      (IsFound-append seen high_ends (replicate (n - length lows) max_time) (length seen) o short (subst (λ (k : ℕ). IsFound seen high_ends k o) count found))

  -- where no more sources are known than may be wrong, the fusion is all of time
  pub fusion-whole : length lows ≤ f → IsFusion (spans_at s c n) f (record { lo = 0; hi = max_time })
  fusion-whole unknown =
      let far : ℕ = length (spans_at s c n) - f - 1 in
      let starts : List ℕ = drop far all_lows in
      let few = lows-few s c n lows highs asked in
      let size : length starts ≡ f + 1 = length-starts (spans_at s c n) f all_lows all_highs swept in
      let zero_time : ℕ = 0 in
      let zeros : List ℕ = replicate (n - length lows) zero_time in
      let zeros_size : length zeros ≡ n - length lows = length-replicate (n - length lows) zero_time in
      let far_in : far + 0 < n - length lows = omega (arith, each-span) in
      let first_is : get_or starts 0 0 ≡ 0 =
      start-is (spans_at s c n) f all_lows all_highs swept 0 ∙ get_or_append_left zeros (map (low_end_of s.drift c) lows) 0 (far + 0) (omega arith) ∙ get_or-replicate (n - length lows) (far + 0) 0 0 far_in in
      let last_start : get_or starts f 0 ≤ max_time =
      let inside : far + f < length all_lows = omega (arith, each-span, few, zeros_size, length-append zeros (map (low_end_of s.drift c) lows), length-map lows (low_end_of s.drift c)) in
      omega (arith, start-is (spans_at s c n) f all_lows all_highs swept f, All-get_or (λ lo. lo ≤ max_time) all_lows (far + f) 0 inside (lows-in_time (spans_at s c n) all_lows all_highs swept.of)) in
      let high_ends : List ℕ = map (high_end_of s.drift c) highs in
      let high_size : length high_ends ≡ length lows = length-map highs (high_end_of s.drift c) ∙ highs-few s c n lows highs asked in
      let last_is : get_or all_highs f 0 ≡ max_time =
      get_or-append_right high_ends (replicate (n - length lows) max_time) (length lows) f 0 high_size unknown ∙ get_or-replicate (n - length lows) (f - length lows) max_time 0 (omega arith) in
      fusion-found (spans_at s c n) f all_lows all_highs swept 0 max_time (record {
        first = 0;
        last = f;
        first_below = omega arith;
        last_below = omega arith;
        first_ordered = omega (arith, first_is);
        last_ordered = omega (arith, last_start, last_is);
        lo_is = sym first_is;
        hi_is = sym last_is;
        none_before = λ k early. absurd (omega arith);
        none_after = λ k late below. absurd (omega arith);
      })

-- the same of slices that show the keys
pub fusion-from_key_slices : (s : Stated) (c n f : ℕ) (lows highs low_slice high_slice : List ℤ) → AreAsked s c n lows highs → AreSortedKeys lows → AreSortedKeys highs → f < n → f < length low_slice → low_slice ≡ lows → high_slice ≡ highs →
    (o : Option (ℕ × ℕ)) → let skipped = length low_slice - 1 - f in let seen = take (length low_slice - skipped) (drop skipped low_slice) in
    IsFound (map (low_end_of s.drift c) seen) (map (high_end_of s.drift c) high_slice) (length seen) o →
    MatchOption o (HasNoPossibleTime (spans_at s c n) f) (λ r. IsFusion (spans_at s c n) f (record { lo = r.0; hi = r.1 }))
fusion-from_key_slices s c n f lows highs low_slice high_slice asked lows_sorted highs_sorted enough known low_same high_same o found =
    let skipped : ℕ = length low_slice - 1 - f in
    let rest : take (length low_slice - skipped) (drop skipped low_slice) ≡ drop skipped low_slice = take_rest low_slice skipped in
    let low_seen : IsFound (map (low_end_of s.drift c) (drop skipped low_slice)) (map (high_end_of s.drift c) high_slice) (length (drop skipped low_slice)) o =
    subst (λ (xs : List ℤ). IsFound (map (low_end_of s.drift c) xs) (map (high_end_of s.drift c) high_slice) (length xs) o) rest found in
    let of_lows : IsFound (map (low_end_of s.drift c) (drop (length lows - 1 - f) lows)) (map (high_end_of s.drift c) high_slice) (length (drop (length lows - 1 - f) lows)) o =
    subst (λ (xs : List ℤ). IsFound (map (low_end_of s.drift c) (drop (length xs - 1 - f) xs)) (map (high_end_of s.drift c) high_slice) (length (drop (length xs - 1 - f) xs)) o) low_same low_seen in
    fusion-from_keys s c n f lows highs asked lows_sorted highs_sorted enough (omega (arith, ap length low_same)) o
    (subst (λ (xs : List ℤ). IsFound (map (low_end_of s.drift c) (drop (length lows - 1 - f) lows)) (map (high_end_of s.drift c) xs) (length (drop (length lows - 1 - f) lows)) o) high_same of_lows)
