-- How bytes split into lines, byte by byte.
use Rattle.std.proofs.Common.{◌≡◌, ◌≢◌, ℕ, Bool, true, false, ◌==◌, if◌then◌else◌, List, [], ◌∷◌, ◌++◌, refl, sym, ap, ◌∙◌, subst, arith, append_assoc, append-nil}
use Rattle.std.specs.List.{flat_map}
use Rattle.std.proofs.lemmas.Bool.Decides.{nat_tests}
use Rattle.std.proofs.lemmas.List.{flat_map_more}
use Rattle.std.proofs.lemmas.List.Elements.{All-nil, All-cons, All-head, All-tail, All-push, All-append}
use Rattle.std.proofs.lemmas.Grind.{flat_map-append}
use Rattle.tt_session.specs.Lines.{Splits, HasNoEnd, ended, lines_of, rest_of, onto_first, onto_rest}

-- no bytes
pub Splits-nil : Splits [] [] []
Splits-nil = record { whole = refl; each = All-nil HasNoEnd; last = All-nil (λ b. b ≢ 10) }

-- one more byte behind the last line feed
pub Splits-kept : (bytes : List ℕ) (lines : List (List ℕ)) (rest : List ℕ) (b : ℕ) → b ≢ 10 → Splits bytes lines rest → Splits (bytes ++ b ∷ []) lines (rest ++ b ∷ [])
Splits-kept bytes lines rest b other s =
    record {
      whole = ap (λ l. l ++ b ∷ []) s.whole ∙ append_assoc (flat_map ended lines) rest (b ∷ []);
      each = s.each;
      last = All-push (λ b. b ≢ 10) rest b s.last other;
    }

-- the rest becomes a line
pub Splits-ended : (bytes : List ℕ) (lines : List (List ℕ)) (rest : List ℕ) → Splits bytes lines rest → Splits (bytes ++ 10 ∷ []) (lines ++ rest ∷ []) []
Splits-ended bytes lines rest s =
    record {
      whole = ap (λ l. l ++ 10 ∷ []) s.whole ∙ append_assoc (flat_map ended lines) rest (10 ∷ []) ∙ ended_line lines rest;
      each = All-push HasNoEnd lines rest s.each s.last;
      last = All-nil (λ b. b ≢ 10);
    } where
      ended_line : (lines : List (List ℕ)) (rest : List ℕ) → flat_map ended lines ++ ended rest ≡ flat_map ended (lines ++ rest ∷ []) ++ []
      ended_line lines rest = flat_map_more ended [] lines rest ∙ sym (append-nil (flat_map ended (lines ++ rest ∷ [])))

-- bytes with no line feed
pub Splits-rest : (rest : List ℕ) → HasNoEnd rest → Splits rest [] rest
Splits-rest rest no_end = record { whole = refl; each = All-nil HasNoEnd; last = no_end }

-- further bytes behind a rest
pub Splits-append : (xs ys : List ℕ) (lines more : List (List ℕ)) (rest behind : List ℕ) → Splits xs lines rest → Splits (rest ++ ys) more behind → Splits (xs ++ ys) (lines ++ more) behind
Splits-append xs ys lines more rest behind s t =
    record {
      whole =
          ap (λ l. l ++ ys) s.whole ∙ append_assoc (flat_map ended lines) rest ys ∙ ap (λ l. flat_map ended lines ++ l) t.whole
          ∙ sym (append_assoc (flat_map ended lines) (flat_map ended more) behind) ∙ ap (λ l. l ++ behind) (sym (flat_map-append ended lines more));
      each = All-append HasNoEnd lines more s.each t.each;
      last = t.last;
    }

-- a line feed before the first line
feed_first : (bytes : List ℕ) (lines : List (List ℕ)) (rest : List ℕ) → Splits bytes lines rest → Splits (10 ∷ bytes) ([] ∷ lines) rest
feed_first bytes lines rest s =
    record {
      whole = ap (λ l. 10 ∷ l) s.whole;
      each = All-cons HasNoEnd [] lines (All-nil (λ b. b ≢ 10)) s.each;
      last = s.last;
    }

-- another byte before the first line
byte_first : (bytes : List ℕ) (lines : List (List ℕ)) (rest : List ℕ) (b : ℕ) → b ≢ 10 → Splits bytes lines rest → Splits (b ∷ bytes) (onto_first b lines) (onto_rest b lines rest)
byte_first bytes [] rest b other s =
    record { whole = ap (λ l. b ∷ l) s.whole; each = s.each; last = All-cons (λ b. b ≢ 10) b rest other s.last }
byte_first bytes (line ∷ lines) rest b other s =
    record {
      whole = ap (λ l. b ∷ l) s.whole;
      each = All-cons HasNoEnd (b ∷ line) lines (All-cons (λ b. b ≢ 10) b line other (All-head HasNoEnd line lines s.each)) (All-tail HasNoEnd line lines s.each);
      last = s.last;
    }

-- one byte before some that are split
first_splits : (b : ℕ) (bytes : List ℕ) (lines : List (List ℕ)) (rest : List ℕ) (is_feed : Bool) → (b == 10) ≡ is_feed → Splits bytes lines rest
    → Splits (b ∷ bytes) (if is_feed then [] ∷ lines else onto_first b lines) (if is_feed then rest else onto_rest b lines rest)
first_splits b bytes lines rest true test s =
    let feed : 10 ≡ b = grind (arith, nat_tests) in
    subst (λ x. Splits (x ∷ bytes) ([] ∷ lines) rest) feed (feed_first bytes lines rest s)
first_splits b bytes lines rest false test s =
    let other : b ≢ 10 = grind (arith, nat_tests) in
    byte_first bytes lines rest b other s

-- the lines and the rest that are computed split the bytes
pub split_is : (bytes : List ℕ) → Splits bytes (lines_of bytes) (rest_of bytes)
split_is [] = Splits-nil
split_is (b ∷ bytes) = first_splits b bytes (lines_of bytes) (rest_of bytes) (b == 10) refl (split_is bytes)

-- a test that is no
not_feed : (b : ℕ) → b ≢ 10 → (b == 10) ≡ false
not_feed b other = grind (arith, nat_tests)

-- nothing else splits them
pub split_only : (bytes : List ℕ) (lines : List (List ℕ)) (rest : List ℕ) → Splits bytes lines rest → (lines ≡ lines_of bytes) × (rest ≡ rest_of bytes)
split_only [] [] rest s = (refl, sym s.whole)
split_only [] ([] ∷ lines) rest s = let h = s.whole in cc
split_only [] ((x ∷ line) ∷ lines) rest s = let h = s.whole in cc
split_only (b ∷ bytes) [] [] s = let h = s.whole in cc
split_only (b ∷ bytes) [] (r ∷ rest) s =
    let h : b ∷ bytes ≡ r ∷ rest = s.whole in
    let same : r ≡ b = cc in
    let tail : bytes ≡ rest = cc in
    let other : b ≢ 10 = subst (λ x. x ≢ 10) same (All-head (λ b. b ≢ 10) r rest s.last) in
    let more = split_only bytes [] rest (record { whole = tail; each = s.each; last = All-tail (λ b. b ≢ 10) r rest s.last }) in
    rw (not_feed b other) (ap (onto_first b) more.0, rw (← more.0, ← more.1, same) refl)
split_only (b ∷ bytes) ([] ∷ lines) rest s =
    let h : b ∷ bytes ≡ 10 ∷ (flat_map ended lines ++ rest) = s.whole in
    let feed : 10 ≡ b = cc in
    let tail : bytes ≡ flat_map ended lines ++ rest = cc in
    let more = split_only bytes lines rest (record { whole = tail; each = All-tail HasNoEnd [] lines s.each; last = s.last }) in
    rw (← feed) (ap (λ l. [] ∷ l) more.0, more.1)
split_only (b ∷ bytes) ((x ∷ line) ∷ lines) rest s =
    let h : b ∷ bytes ≡ x ∷ (flat_map ended (line ∷ lines) ++ rest) = s.whole in
    let same : x ≡ b = cc in
    let tail : bytes ≡ flat_map ended (line ∷ lines) ++ rest = cc in
    let head = All-head HasNoEnd (x ∷ line) lines s.each in
    let other : b ≢ 10 = subst (λ x. x ≢ 10) same (All-head (λ b. b ≢ 10) x line head) in
    let each = All-cons HasNoEnd line lines (All-tail (λ b. b ≢ 10) x line head) (All-tail HasNoEnd (x ∷ line) lines s.each) in
    let more = split_only bytes (line ∷ lines) rest (record { whole = tail; each = each; last = s.last }) in
    rw (not_feed b other) (rw (← more.0, same) refl, rw (← more.0) more.1)
