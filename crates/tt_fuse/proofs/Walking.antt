-- The ends that keys have at a clock reading, in the order of the keys.
use Rattle.std.proofs.Common.{◌≡◌, ℕ, zero, suc, ◌+◌, ◌-◌, ◌*◌, ◌<◌, ◌≤◌, Bool, true, false, cond, List, [], ◌∷◌, ◌++◌, length, get_or, take, drop, map, replicate, sym, ◌∙◌, ap, subst, refl, arith, get_or-drop, append_assoc, length-append}
use Rattle.std.specs.Prelude.{ℤ, pos, Option, Some, None, IfSome, All, nat_lt}
use Rattle.std.specs.List.{count_by}
use Rattle.std.specs.List.Sorted.{IsNonDecreasing, IsNonDecreasingBy}
use Rattle.std.proofs.lemmas.Bool.{le-ltb, ltb-false}
use Rattle.std.proofs.lemmas.List.{length-map, length-take-le, length-replicate, get_or-map, append-nil}
use Rattle.std.proofs.lemmas.List.Elements.{All-nil, All-cons, All-head, All-tail, All-take, All-weaker, All-map, All-push, All-from_get_or, All-get_or}
use Rattle.std.proofs.lemmas.List.Sorted.{IsNonDecreasingBy-push}
use Rattle.tt_span.specs.Time.{max_time}
use Rattle.tt_span.specs.Interval.{Interval, IsInterval}
use Rattle.tt_span.specs.Statement.{Statement, IsStatement, stated_at}
use Rattle.tt_fuse.specs.Depth.{lower_ends, upper_ends}
use Rattle.tt_fuse.specs.Ends.{AreInOrder, AreEndsOf}
use Rattle.tt_fuse.specs.Stated.{Stated, IsStated, AreGotBy, AreAmongFirst, spans_at}
use Rattle.tt_fuse.specs.Scaled.{key_bound, key_number, IsKey, AreSortedKeys, AreKeysOf, keys_in, low_key_of, high_key_of, low_end_of, high_end_of}
use Rattle.tt_fuse.proofs.Counting.{count_by-yes, count_by-no}
use Rattle.tt_fuse.proofs.Keyed.{reached-low, reached-high, low_end_of-low_key_of, high_end_of-high_key_of, low_end_of-le, high_end_of-le, high_end_of-in_time}
use Rattle.tt_fuse.proofs.BySource.{passes, AreNumbersOf, AreNumbersOf-keys}
use Rattle.tt_fuse.proofs.Tallies.{count_by-each, count_by-none, none-count_by, count_by-map, count_by-append, count_by-replicate, count_by-take, IsPermutation-from_counts}

-- ascending numbers behind a zero
ascending-zero : (xs : List ℕ) → IsNonDecreasing xs → IsNonDecreasing (0 ∷ xs)
ascending-zero xs up zero j d order inside = omega arith
ascending-zero xs up (suc i) zero d order inside = absurd (omega arith)
ascending-zero xs up (suc i) (suc j) d order inside = up i j d (omega arith) (omega arith)

-- and behind zeros
ascending-zeros : (n : ℕ) (xs : List ℕ) → IsNonDecreasing xs → IsNonDecreasing (replicate n 0 ++ xs)
ascending-zeros zero xs up = up
ascending-zeros (suc n) xs up = ascending-zero (replicate n 0 ++ xs) (ascending-zeros n xs up)

-- ascending numbers before a number that none of them passes
ascending-most : (n : ℕ) (xs : List ℕ) (most : ℕ) → All (λ x. x ≤ most) xs → IsNonDecreasing xs → IsNonDecreasing (xs ++ replicate n most)
ascending-most zero xs most all up = subst IsNonDecreasing (sym (append-nil xs)) up
ascending-most (suc n) xs most all up =
    subst IsNonDecreasing (append_assoc xs (most ∷ []) (replicate n most))
    (ascending-most n (xs ++ most ∷ []) most (All-push (λ x. x ≤ most) xs most all (omega arith)) (IsNonDecreasingBy-push (λ x. x) xs most up (λ d some. All-get_or (λ x. x ≤ most) xs (length xs - 1) d (omega arith) all)))

-- keys in order have ends in order
ascending-map : (end_of : ℤ → ℕ) (keys : List ℤ) → ((a b : ℤ) → key_number a ≤ key_number b → end_of a ≤ end_of b) → IsNonDecreasingBy key_number keys → IsNonDecreasing (map end_of keys)
ascending-map end_of keys le up i j d order inside =
    let size = length-map keys end_of in
    let z : ℤ = pos 0 in
    let below : j < length keys = omega arith in
    let at_i : get_or (map end_of keys) i d ≡ end_of (get_or keys i z) = get_or-map end_of keys i z d (omega arith) in
    let at_j : get_or (map end_of keys) j d ≡ end_of (get_or keys j z) = get_or-map end_of keys j z d below in
    omega (arith, at_i, at_j, le (get_or keys i z) (get_or keys j z) (up i j z order below))

-- the ends of ascending keys ascend, with those of the sources of which nothing is known
pub ascending-lows : (ppm c n : ℕ) (keys : List ℤ) → AreSortedKeys keys → IsNonDecreasing (replicate n 0 ++ map (low_end_of ppm c) keys)
ascending-lows ppm c n keys sorted = ascending-zeros n (map (low_end_of ppm c) keys) (ascending-map (low_end_of ppm c) keys (low_end_of-le ppm c) sorted.ascend)

pub ascending-highs : (ppm c n : ℕ) (keys : List ℤ) → AreSortedKeys keys → IsNonDecreasing (map (high_end_of ppm c) keys ++ replicate n max_time)
ascending-highs ppm c n keys sorted =
    let all : All (λ x. x ≤ max_time) (map (high_end_of ppm c) keys) = All-map (λ x. x ≤ max_time) (high_end_of ppm c) keys (All-weaker IsKey (λ key. high_end_of ppm c key ≤ max_time) (λ key _. high_end_of-in_time ppm c key) keys sorted.in_range) in
    ascending-most n (map (high_end_of ppm c) keys) max_time all (ascending-map (high_end_of ppm c) keys (high_end_of-le ppm c) sorted.ascend)

-- what two facts on a statement give, for all of them
both-stated : (A B Q : Statement → Type 0) → ((s : Statement) → A s → B s → Q s) → (os : List (Option Statement)) → All (λ o. IfSome o A) os → All (λ o. IfSome o B) os → All (λ o. IfSome o Q) os
both-stated A B Q f [] on_a on_b = All-nil (λ o. IfSome o Q)
both-stated A B Q f (None ∷ os) on_a on_b = All-cons (λ o. IfSome o Q) None os tt (both-stated A B Q f os (All-tail (λ o. IfSome o A) None os on_a) (All-tail (λ o. IfSome o B) None os on_b))
both-stated A B Q f (Some s ∷ os) on_a on_b =
    All-cons (λ o. IfSome o Q) (Some s) os (f s (All-head (λ o. IfSome o A) (Some s) os on_a) (All-head (λ o. IfSome o B) (Some s) os on_b)) (both-stated A B Q f os (All-tail (λ o. IfSome o A) (Some s) os on_a) (All-tail (λ o. IfSome o B) (Some s) os on_b))

-- whether a source has made no statement
abbrev is_unknown : Option Statement → Bool
is_unknown None = true
is_unknown (Some _) = false

-- how many sources pass a test, by those of which nothing is known and those that have made a statement
split-known : (g : Option Statement → Bool) (q : Statement → Bool) (b : Bool) → g None ≡ b → (os : List (Option Statement)) → All (λ o. IfSome o (λ s. g (Some s) ≡ q s)) os →
    count_by g os ≡ cond b (count_by is_unknown os) 0 + count_by (passes q) os
split-known g q true e [] all = refl
split-known g q false e [] all = refl
split-known g q true e (None ∷ os) all =
    let rest = split-known g q true e os (All-tail (λ o. IfSome o (λ s. g (Some s) ≡ q s)) None os all) in
    omega (arith, rest, count_by-yes g None os e, count_by-yes is_unknown None os refl, count_by-no (passes q) None os refl)
split-known g q false e (None ∷ os) all =
    let rest = split-known g q false e os (All-tail (λ o. IfSome o (λ s. g (Some s) ≡ q s)) None os all) in
    omega (arith, rest, count_by-no g None os e, count_by-no (passes q) None os refl)
split-known g q b e (Some s ∷ os) all =
    let rest = split-known g q b e os (All-tail (λ o. IfSome o (λ s. g (Some s) ≡ q s)) (Some s) os all) in
    let here : g (Some s) ≡ q s = All-head (λ o. IfSome o (λ s. g (Some s) ≡ q s)) (Some s) os all in
    let known : cond b (count_by is_unknown (Some s ∷ os)) 0 ≡ cond b (count_by is_unknown os) 0 = ap (λ k. cond b k 0) (count_by-no is_unknown (Some s) os refl) in
    elim (q s) as (λ t. q s ≡ t → count_by g (Some s ∷ os) ≡ cond b (count_by is_unknown (Some s ∷ os)) 0 + count_by (passes q) (Some s ∷ os)) [
      | true ↦ λ yes. omega (arith, rest, known, count_by-yes g (Some s) os (here ∙ yes), count_by-yes (passes q) (Some s) os yes)
      | false ↦ λ no. omega (arith, rest, known, count_by-no g (Some s) os (here ∙ no), count_by-no (passes q) (Some s) os no)
    ] refl

module _ (s : Stated) (c n : ℕ) (stated : IsStated s) (got : AreGotBy s c) (in_time : c ≤ max_time) where
  -- what is known of a statement at this clock reading
  pub record IsTimely (statement : Statement) : Type 0 where
    pub valid : IsStatement statement
    pub past : statement.got ≤ c

  all-timely : All (λ o. IfSome o IsTimely) s.statements
  all-timely = both-stated IsStatement (λ statement. statement.got ≤ c) IsTimely (λ statement valid past. record { valid = valid; past = past }) s.statements stated.valid got

  timely-all : (Q : Statement → Type 0) → ((statement : Statement) → IsTimely statement → Q statement) → All (λ o. IfSome o Q) s.statements
  timely-all Q f = both-stated IsTimely IsTimely Q (λ statement timely _. f statement timely) s.statements all-timely all-timely

  -- the aged spans are intervals
  interval-aged : (statement : Statement) → IsTimely statement → IsInterval (stated_at s.drift (Some statement) c)
  interval-aged statement timely =
      let valid = timely.valid in
      let ordered : statement.span.lo ≤ statement.span.hi = valid.valid.ordered in
      let later : statement.sent ≤ statement.got = valid.ordered in
      record { ordered = omega arith; in_time = omega arith }

  interval-stated : (o : Option Statement) → IfSome o (λ statement. IsInterval (stated_at s.drift (Some statement) c)) → IsInterval (stated_at s.drift o c)
  interval-stated None h = record { ordered = omega arith; in_time = omega arith }
  interval-stated (Some statement) h = h

  all-intervals : All IsInterval (spans_at s c n)
  all-intervals =
      let each : All (λ o. IfSome o (λ statement. IsInterval (stated_at s.drift (Some statement) c))) s.statements = timely-all (λ statement. IsInterval (stated_at s.drift (Some statement) c)) interval-aged in
      All-map IsInterval (λ o. stated_at s.drift o c) (take n s.statements)
      (All-take (λ o. IsInterval (stated_at s.drift o c)) n s.statements (All-weaker (λ o. IfSome o (λ statement. IsInterval (stated_at s.drift (Some statement) c))) (λ o. IsInterval (stated_at s.drift o c)) interval-stated s.statements each))

  -- of one kind of key: how many there are of those that lie low
  module _ (keys : List ℤ) (key_of : Statement → ℤ) (counts : (p : ℤ → Bool) → count_by p keys ≡ count_by (passes (λ statement. p (key_of statement))) s.statements) where
    all-reached : (run : ℕ) → ((statement : Statement) → IsTimely statement → key_bound ≤ key_number (key_of statement) + run) → All (λ key. key_bound ≤ key_number key + run) keys
    all-reached run reached =
        let is_low : ℤ → Bool = λ key. nat_lt (key_number key + run) key_bound in
        let none : All (λ o. passes (λ statement. is_low (key_of statement)) o ≡ false) s.statements =
        All-weaker (λ o. IfSome o (λ statement. key_bound ≤ key_number (key_of statement) + run)) (λ o. passes (λ statement. is_low (key_of statement)) o ≡ false)
        (λ o. elim o as (λ o. IfSome o (λ statement. key_bound ≤ key_number (key_of statement) + run) → passes (λ statement. is_low (key_of statement)) o ≡ false) [
          | None ↦ λ _. refl
          | Some statement ↦ λ h. le-ltb (key_number (key_of statement) + run) key_bound h
        ]) s.statements (timely-all (λ statement. key_bound ≤ key_number (key_of statement) + run) reached) in
        All-weaker (λ key. is_low key ≡ false) (λ key. key_bound ≤ key_number key + run) (λ key h. ltb-false (key_number key + run) key_bound h) keys
        (none-count_by is_low keys (counts is_low ∙ count_by-none (passes (λ statement. is_low (key_of statement))) s.statements none))

    module _ (few : n ≤ 16) (among : AreAmongFirst s n) where
      passes-first : (q : Statement → Bool) → count_by (passes q) (take n s.statements) ≡ count_by (passes q) s.statements
      passes-first q = count_by-take (passes q) s.statements n
          (All-from_get_or (λ o. passes q o ≡ false) (drop n s.statements) None (λ i inside. ap (passes q) (get_or-drop n s.statements i None ∙ among (n + i) (omega arith))))

      length-first : length (take n s.statements) ≡ n
      length-first = let size : length s.statements ≡ 16 = stated.each_source in length-take-le n s.statements (omega arith)

      -- the other sources are those of which nothing is known
      unknown-first : count_by is_unknown (take n s.statements) + length keys ≡ n
      unknown-first =
          let any : Statement → Bool = λ _. true in
          let all = count_by-each (λ (o : Option Statement). true) (take n s.statements) (λ _. refl) in
          let parts = split-known (λ _. true) any true refl (take n s.statements) (All-take (λ o. IfSome o (λ statement. true ≡ true)) n s.statements (timely-all (λ statement. true ≡ true) (λ _ _. refl))) in
          let known = counts (λ _. true) in
          let size = count_by-each (λ (key : ℤ). true) keys (λ _. refl) in
          omega (arith, all, parts, known, size, passes-first any, length-first)

      -- as many ends of the spans pass a test as ends of the keys and of the sources of which nothing is known
      counts-same : (end_of : ℤ → ℕ) (side : Interval → ℕ) → ((statement : Statement) → IsTimely statement → side (stated_at s.drift (Some statement) c) ≡ end_of (key_of statement)) →
          (p : ℕ → Bool) → count_by p (map side (spans_at s c n)) ≡ cond (p (side (stated_at s.drift None c))) (n - length keys) 0 + count_by p (map end_of keys)
      counts-same end_of side aged p =
          let g : Option Statement → Bool = λ o. p (side (stated_at s.drift o c)) in
          let q : Statement → Bool = λ statement. p (end_of (key_of statement)) in
          let of_spans = count_by-map p side (spans_at s c n) ∙ count_by-map (λ i. p (side i)) (λ o. stated_at s.drift o c) (take n s.statements) in
          let agree : All (λ o. IfSome o (λ statement. g (Some statement) ≡ q statement)) (take n s.statements) =
          All-take (λ o. IfSome o (λ statement. g (Some statement) ≡ q statement)) n s.statements (timely-all (λ statement. g (Some statement) ≡ q statement) (λ statement timely. ap p (aged statement timely))) in
          let unknown : count_by is_unknown (take n s.statements) ≡ n - length keys = omega (arith, unknown-first) in
          let of_keys : count_by (passes q) (take n s.statements) ≡ count_by p (map end_of keys) = passes-first q ∙ sym (counts (λ key. p (end_of key))) ∙ sym (count_by-map p end_of keys) in
          of_spans ∙ split-known g q (g None) refl (take n s.statements) agree ∙ ap (λ k. cond (g None) k 0 + count_by (passes q) (take n s.statements)) unknown ∙ ap (λ k. cond (g None) (n - length keys) 0 + k) of_keys

-- keys of statements that are looked at when the clock shows c, for the first n sources
pub record AreAsked (s : Stated) (c n : ℕ) (lows highs : List ℤ) : Type 0 where
  pub keys : AreNumbersOf s lows highs
  pub got : AreGotBy s c
  pub in_time : c ≤ max_time
  pub few : n ≤ 16
  pub among : AreAmongFirst s n

-- the keys of a value that shows the statements
pub AreAsked-of : (inside shown : Stated) (c n : ℕ) (lows highs : List (ℤ × ℕ)) → inside ≡ shown → AreKeysOf inside lows highs → AreGotBy shown c → c ≤ max_time → n ≤ 16 → AreAmongFirst shown n → AreAsked inside c n (keys_in lows) (keys_in highs)
AreAsked-of inside shown c n lows highs same keys got in_time few among = record {
  keys = AreNumbersOf-keys inside lows highs keys;
  got = subst (λ (s : Stated). AreGotBy s c) (sym same) got;
  in_time = in_time;
  few = few;
  among = subst (λ (s : Stated). AreAmongFirst s n) (sym same) among;
}

module _ (s : Stated) (c n : ℕ) (lows highs : List ℤ) (asked : AreAsked s c n lows highs) where
  keys : AreNumbersOf s lows highs
  keys = asked.keys

  got : AreGotBy s c
  got = asked.got

  in_time : c ≤ max_time
  in_time = asked.in_time

  few : n ≤ 16
  few = asked.few

  among : AreAmongFirst s n
  among = asked.among

  abbrev low_of : Statement → ℤ
  low_of statement = low_key_of s.drift statement.span.lo statement.got

  abbrev high_of : Statement → ℤ
  high_of statement = high_key_of s.drift statement.span.hi statement.sent

  pub lows-reached : All (λ key. key_bound ≤ key_number key + c * (1000000 - s.drift)) lows
  lows-reached = all-reached s c 0 keys.stated got in_time lows low_of keys.low_keys (c * (1000000 - s.drift)) (λ statement timely. reached-low s.drift statement.span.lo statement.got c timely.past in_time)

  pub highs-reached : All (λ key. key_bound ≤ key_number key + c * (1000000 + s.drift)) highs
  highs-reached = all-reached s c 0 keys.stated got in_time highs high_of keys.high_keys (c * (1000000 + s.drift)) (λ statement timely.
      let valid = timely.valid in
      let ordered : statement.sent ≤ statement.got = valid.ordered in
      let past : statement.got ≤ c = timely.past in
      reached-high s.drift statement.span.hi statement.sent c (omega arith) in_time keys.stated.drift_in)

  -- there are keys for no more sources than there are, as many of either kind
  pub lows-few : length lows ≤ n
  lows-few = omega (arith, unknown-first s c n keys.stated got in_time lows low_of keys.low_keys few among)

  pub highs-few : length highs ≡ length lows
  highs-few = omega (arith, unknown-first s c n keys.stated got in_time lows low_of keys.low_keys few among, unknown-first s c n keys.stated got in_time highs high_of keys.high_keys few among)

  -- the ends of the keys, with those of the sources of which nothing is known, are the ends of the spans
  pub AreEndsOf-keys : AreEndsOf (spans_at s c n) (record { lows = replicate (n - length lows) 0 ++ map (low_end_of s.drift c) lows; highs = map (high_end_of s.drift c) highs ++ replicate (n - length lows) max_time })
  AreEndsOf-keys = record {
    intervals = all-intervals s c n keys.stated got in_time;
    lows = IsPermutation-from_counts (lower_ends (spans_at s c n)) (replicate (n - length lows) 0 ++ map (low_end_of s.drift c) lows) (λ p.
        let same = counts-same s c n keys.stated got in_time lows low_of keys.low_keys few among (low_end_of s.drift c) (λ span. span.lo)
        (λ statement timely. sym (low_end_of-low_key_of s.drift statement.span.lo statement.got c timely.past in_time keys.stated.drift_in)) p in
        omega (arith, same, count_by-append p (replicate (n - length lows) 0) (map (low_end_of s.drift c) lows), count_by-replicate p (n - length lows) 0));
    highs = IsPermutation-from_counts (upper_ends (spans_at s c n)) (map (high_end_of s.drift c) highs ++ replicate (n - length lows) max_time) (λ p.
        let same = counts-same s c n keys.stated got in_time highs high_of keys.high_keys few among (high_end_of s.drift c) (λ span. span.hi)
        (λ statement timely.
        let valid = timely.valid in
        let ordered : statement.sent ≤ statement.got = valid.ordered in
        let past : statement.got ≤ c = timely.past in
        sym (high_end_of-high_key_of s.drift statement.span.hi statement.sent c (omega arith) in_time keys.stated.drift_in)) p in
        let unknown : cond (p max_time) (n - length highs) 0 ≡ cond (p max_time) (n - length lows) 0 = ap (λ k. cond (p max_time) (n - k) 0) highs-few in
        omega (arith, same, unknown, count_by-append p (map (high_end_of s.drift c) highs) (replicate (n - length lows) max_time), count_by-replicate p (n - length lows) max_time));
  }

  -- the same of lists that show them, which are in order where each kind ascends
  module _ (shown_lows shown_highs : List ℕ) (same_lows : shown_lows ≡ replicate (n - length lows) 0 ++ map (low_end_of s.drift c) lows) (same_highs : shown_highs ≡ map (high_end_of s.drift c) highs ++ replicate (n - length lows) max_time) where
    pub AreEndsOf-shown : AreEndsOf (spans_at s c n) (record { lows = shown_lows; highs = shown_highs })
    AreEndsOf-shown =
        subst (λ (ends : List ℕ). AreEndsOf (spans_at s c n) (record { lows = shown_lows; highs = ends })) (sym same_highs)
        (subst (λ (ends : List ℕ). AreEndsOf (spans_at s c n) (record { lows = ends; highs = map (high_end_of s.drift c) highs ++ replicate (n - length lows) max_time })) (sym same_lows) AreEndsOf-keys)

    pub AreInOrder-shown : IsNonDecreasing shown_lows → IsNonDecreasing shown_highs → AreInOrder (record { lows = shown_lows; highs = shown_highs })
    AreInOrder-shown lows_up highs_up =
        let zero_time : ℕ = 0 in
        let front = ap length same_lows ∙ length-append (replicate (n - length lows) zero_time) (map (low_end_of s.drift c) lows) in
        let back = ap length same_highs ∙ length-append (map (high_end_of s.drift c) highs) (replicate (n - length lows) max_time) in
        let zeros = length-replicate (n - length lows) zero_time in
        let latest = length-replicate (n - length lows) max_time in
        let of_lows = length-map lows (low_end_of s.drift c) in
        let of_highs = length-map highs (high_end_of s.drift c) in
        record {
          as_many = omega (arith, front, back, zeros, latest, of_lows, of_highs, highs-few);
          few = omega (arith, front, zeros, of_lows, lows-few);
          lows_ascend = lows_up;
          highs_ascend = highs_up;
        }

-- how many spans there are
pub length-spans_at : (s : Stated) (c n : ℕ) → length s.statements ≡ 16 → n ≤ 16 → length (spans_at s c n) ≡ n
length-spans_at s c n size few = length-map (take n s.statements) (λ o. stated_at s.drift o c) ∙ length-take-le n s.statements (omega arith)
