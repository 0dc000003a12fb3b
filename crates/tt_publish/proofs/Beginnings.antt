-- Beginnings of one list, and its last item.
use Rattle.std.proofs.Common.{ℕ, ◌+◌, IsTrue, nat_lt, nat_le, ◌≡◌, ◌≤◌, ◌↔◌, ◌⊎◌, List, [], ◌∷◌, ◌++◌, length, Option, Some, None, ◌≢◌, refl, ap, sym, ◌∙◌, subst, inl, inr, ⊎_elim, arith, length-append}
use Rattle.std.specs.List.{last_or}
use Rattle.std.specs.Option.{option_map}
use Rattle.std.proofs.lemmas.Bool.{lt-ltb, ltb-true, le-leb, leb-true}
use Rattle.tt_span.specs.Interval.{Interval}
use mathlib.Core.List.{IsPrefix}
use Rattle.tt_daemon.specs.Publication.{Publication}
use Rattle.tt_publish.specs.Known.{last_of, last_read_of, GoesBack, IsLonger}
use Rattle.tt_publish.specs.Reading.{fused_span_of}
use Rattle.tt_publish.specs.declared.readings.FusedSpan.{FusedSpan}

-- each list begins with itself
pub prefix_self : {A : Type 0} (xs : List A) → IsPrefix xs xs
prefix_self [] = ([], refl)
prefix_self (x ∷ xs) = (let r = prefix_self xs in r.0, ap (λ ys. x ∷ ys) (prefix_self xs).1)

-- a beginning as long as the whole is the whole
pub prefix_whole : {A : Type 0} (xs ys : List A) → IsPrefix xs ys → length ys ≤ length xs → xs ≡ ys
prefix_whole [] [] p le = refl
prefix_whole [] (y ∷ ys) p le = absurd (omega arith)
prefix_whole (x ∷ xs) [] p le = absurd (cc (p.1))
prefix_whole (x ∷ xs) (y ∷ ys) p le =
    let rest = prefix_whole xs ys (p.0, cc (p.1)) (omega arith) in cc (p.1, rest)

-- a beginning is no longer than the whole
prefix_length : {A : Type 0} (xs ys : List A) → IsPrefix xs ys → length xs ≤ length ys
prefix_length xs ys p = let all : length xs + length p.0 ≡ length ys = sym (length-append xs p.0) ∙ ap length p.1 in omega (arith, all)

-- of two lists, of which one begins the other, the shorter begins the longer
shorter_begins : {A : Type 0} (xs ys : List A) → IsPrefix xs ys ⊎ IsPrefix ys xs → length xs ≤ length ys → IsPrefix xs ys
shorter_begins xs ys one le = ⊎_elim (λ (p : IsPrefix xs ys). p) (λ (p : IsPrefix ys xs). subst (λ w. IsPrefix xs w) (sym (prefix_whole ys xs p le)) (prefix_self xs)) one

-- of two lists of these lengths, of which one begins the other, the first begins the second just where it is no longer
pub begins_by : {A : Type 0} (xs ys : List A) (n m : ℕ) → n ≡ length xs → m ≡ length ys → IsPrefix xs ys ⊎ IsPrefix ys xs → IsTrue (nat_le n m) ↔ IsPrefix xs ys
begins_by xs ys n m first second one = (
  (λ less. let short : n ≤ m = leb-true n m less in shorter_begins xs ys one (omega (arith, short, first, second))),
  (λ begins. let short = prefix_length xs ys begins in le-leb n m (omega (arith, short, first, second))),
)

last_or-more : {A : Type 0} (o : Option A) (xs : List A) (x : A) → last_or o (xs ++ x ∷ []) ≡ Some x
last_or-more o [] x = refl
last_or-more o (y ∷ xs) x = last_or-more (Some y) xs x

-- the item that is put behind a list is its last
pub last_of-more : {A : Type 0} (xs : List A) (x : A) → last_of (xs ++ x ∷ []) ≡ Some x
last_of-more xs x = last_or-more _ xs x

last_or-some : {A : Type 0} (x : A) (xs : List A) → last_or (Some x) xs ≢ None
last_or-some x [] e = absurd (cc e)
last_or-some x (y ∷ ys) e = last_or-some y ys e

-- a list with no last item is empty
pub last_of-none : {A : Type 0} (xs : List A) → last_of xs ≡ None → xs ≡ []
last_of-none [] e = refl
last_of-none (x ∷ xs) e = absurd (last_or-some x xs e)

read_some : (o : Option Publication) (read : FusedSpan) → option_map fused_span_of o ≡ Some read → (p : Publication) × (o ≡ Some p) × (fused_span_of p ≡ read)
read_some None read e = absurd (cc e)
read_some (Some p) read e = (p, refl, cc e)

read_none : (o : Option Publication) → option_map fused_span_of o ≡ None → o ≡ None
read_none None e = refl
read_none (Some p) e = absurd (cc e)

-- where something is read of the last publication, there is one, of which it is read
pub last_read : (items : List Publication) (read : FusedSpan) → last_read_of items ≡ Some read → (p : Publication) × (last_of items ≡ Some p) × (fused_span_of p ≡ read)
last_read items read e = read_some (last_of items) read e

-- where nothing is read, there is no publication
pub nothing_read : (items : List Publication) → last_read_of items ≡ None → items ≡ []
nothing_read items e = last_of-none items (read_none (last_of items) e)

-- a publication goes back where its clock is below the one that is read
pub goes_back_by : (items : List Publication) (next : Publication) (clock : ℕ) (read : FusedSpan) → clock ≡ next.clock → last_read_of items ≡ Some read
    → IsTrue (nat_lt clock read.clock) ↔ GoesBack items next
goes_back_by items next clock read is e =
    let p = last_read items read e in
    let at : p.0.clock ≡ read.clock = ap (λ (r : FusedSpan). r.clock) p.2 in (
      (λ less. (p.0, p.1, rw (at, ← is) (ltb-true clock read.clock less))),
      (λ back. let same : back.0 ≡ p.0 = cc (back.1, p.1) in lt-ltb clock read.clock (rw (← at, ← same, is) back.2)),
    )

-- what is read of a publication that is put behind a list is what is read of the last
pub last_read-more : (items : List Publication) (next : Publication) (clock : ℕ) (span : Interval) → clock ≡ next.clock → span ≡ next.span
    → Some (record { clock = clock; span = span }) ≡ last_read_of (items ++ next ∷ [])
last_read-more items next clock span at over = rw (at, over) (ap (option_map fused_span_of) (sym (last_of-more items next)))

-- of two lists, of which one begins the other, the second is the longer one where it is at least as long
pub longer_second : {A : Type 0} (xs ys new : List A) → IsPrefix xs ys ⊎ IsPrefix ys xs → length xs ≤ length ys → new ≡ ys → IsLonger xs ys new
longer_second xs ys new one le is = inl (shorter_begins xs ys one le, is)

-- and the first where that is at least as long
pub longer_first : {A : Type 0} (xs ys : List A) → IsPrefix xs ys ⊎ IsPrefix ys xs → length ys ≤ length xs → IsLonger xs ys xs
longer_first xs ys one le = inr (shorter_begins ys xs (⊎_elim (λ (p : IsPrefix xs ys). inr p) (λ (p : IsPrefix ys xs). inl p) one) le, refl)

-- the longer of two lists begins with the first
pub longer_begins : {A : Type 0} (xs ys new : List A) → IsLonger xs ys new → IsPrefix xs new
longer_begins {A = A} xs ys new h = ⊎_elim (λ (t : IsPrefix xs ys × (new ≡ ys)). subst (λ (w : List A). IsPrefix xs w) (sym t.1) t.0) (λ (t : IsPrefix ys xs × (new ≡ xs)). subst (λ (w : List A). IsPrefix xs w) (sym t.1) (prefix_self xs)) h
