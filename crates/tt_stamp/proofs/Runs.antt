-- Runs of stamps, and the entries in them under some numbers.
use Rattle.std.proofs.Common.{◌≡◌, ℕ, zero, suc, ◌+◌, ◌<◌, ◌≤◌, ◌==◌, cond, Bool, true, false, List, [], ◌∷◌, ◌++◌, length, All, ◌⊎◌, inl, inr, ⊎_elim, refl, sym, ap, ◌∙◌, arith, append-nil}
use Rattle.std.proofs.lemmas.Bool.{true≢false, false≢true, cases_Bool, or_cases, eq-eqb, eqb-true}
use Rattle.std.specs.List.{range_with_len}
use Rattle.std.proofs.lemmas.List.Elements.{All-nil, All-cons}
use Rattle.tt_span.specs.Interval.{Holds}
use Rattle.tt_stamp.specs.Stamp.{least_above}
use Rattle.tt_stamp.specs.Stamping.{stamps_of, is_in, entries_of, IsLegalRun, last_of}
use Rattle.tt_stamp.specs.Sequencing.{nothing, view_of, Follows, AreAmong, Fits}
use Rattle.tt_stamp.specs.declared.stampings.Stamping.{Stamping}
use Rattle.tt_stamp.specs.declared.stampings.Known.{Known}
use Rattle.tt_stamp.specs.declared.stampings.View.{View}
use Rattle.tt_stamp.proofs.Ids.{or_left, or_right}
use Rattle.tt_stamp.proofs.Stamps.{after, least_above-le_from_All}

-- ---- numbers
pub not_among : (A B : List ℕ) (n : ℕ) → AreAmong A B → is_in B n ≡ false → is_in A n ≡ false
not_among A B n among out =
    ⊎_elim (λ e. absurd (true≢false (sym (among n e) ∙ out))) (λ e. e) (cases_Bool (is_in A n))

pub is_in-first : (numbers : List ℕ) → 0 < length numbers → (n : ℕ) × (is_in numbers n ≡ true)
is_in-first [] h = absurd (omega arith)
is_in-first (n ∷ numbers) h = (n, or_left (n == n) (is_in numbers n) (eq-eqb n n refl))

pub is_in-append_cases : (A B : List ℕ) (n : ℕ) → is_in (A ++ B) n ≡ true → (is_in A n ≡ true) ⊎ (is_in B n ≡ true)
is_in-append_cases [] B n h = inr h
is_in-append_cases (m ∷ A) B n h =
    ⊎_elim
    (λ here. inl (or_left (m == n) (is_in A n) here))
    (λ there. ⊎_elim (λ a. inl (or_right (m == n) (is_in A n) a)) (λ b. inr b) (is_in-append_cases A B n there))
    (or_cases (m == n) (is_in (A ++ B) n) h)

pub AreAmong-append_left : (A B : List ℕ) → AreAmong A (A ++ B)
AreAmong-append_left [] B n h = absurd (false≢true h)
AreAmong-append_left (m ∷ A) B n h =
    ⊎_elim
    (λ here. or_left (m == n) (is_in (A ++ B) n) here)
    (λ there. or_right (m == n) (is_in (A ++ B) n) (AreAmong-append_left A B n there))
    (or_cases (m == n) (is_in A n) h)

pub AreAmong-append_right : (A B : List ℕ) → AreAmong B (A ++ B)
AreAmong-append_right [] B n h = h
AreAmong-append_right (m ∷ A) B n h = or_right (m == n) (is_in (A ++ B) n) (AreAmong-append_right A B n h)

-- ---- entries under numbers
pub entries_of-nothing : (run : List Stamping) → entries_of [] run ≡ []
entries_of-nothing [] = refl
entries_of-nothing (e ∷ run) = entries_of-nothing run

pub entries_of-skip : (numbers : List ℕ) (e : Stamping) (run : List Stamping) → is_in numbers e.number ≡ false → entries_of numbers (e ∷ run) ≡ entries_of numbers run
entries_of-skip numbers e run out =
    ap (λ (b : Bool). cond b (e ∷ entries_of numbers run) (entries_of numbers run)) out

pub entries_of-take : (numbers : List ℕ) (e : Stamping) (run : List Stamping) → is_in numbers e.number ≡ true → entries_of numbers (e ∷ run) ≡ e ∷ entries_of numbers run
entries_of-take numbers e run here =
    ap (λ (b : Bool). cond b (e ∷ entries_of numbers run) (entries_of numbers run)) here

within_at : (A B : List ℕ) → AreAmong A B → (e : Stamping) (run : List Stamping) (b : Bool) → is_in B e.number ≡ b → entries_of A (entries_of B run) ≡ entries_of A run → entries_of A (cond b (e ∷ entries_of B run) (entries_of B run)) ≡ entries_of A (e ∷ run)
within_at A B among e run true is before =
    ap (λ (rest : List Stamping). cond (is_in A e.number) (e ∷ rest) rest) before
within_at A B among e run false is before =
    before ∙ sym (entries_of-skip A e run (not_among A B e.number among is))

pub entries_of-within : (A B : List ℕ) → AreAmong A B → (run : List Stamping) → entries_of A (entries_of B run) ≡ entries_of A run
entries_of-within A B among [] = refl
entries_of-within A B among (e ∷ run) =
    within_at A B among e run _ refl (entries_of-within A B among run)

-- ---- what is known follows the log
pub Follows-all : (numbers : List ℕ) (log : List Stamping) → Follows (record { numbers = numbers; seen = log }) log
Follows-all numbers log = record { after = ([], refl); own = refl }

pub Follows-nothing : (log : List Stamping) → Follows nothing log
Follows-nothing log = record { after = (log, sym (append-nil log)); own = entries_of-nothing log }

pub Follows-cons : (known : Known) (log : List Stamping) (e : Stamping) → is_in known.numbers e.number ≡ false → Follows known log → Follows known (e ∷ log)
Follows-cons known log e out follows = record {
  after = (e ∷ follows.after.0, ap (λ (r : List Stamping). e ∷ r) follows.after.1);
  own = entries_of-skip known.numbers e log out ∙ follows.own;
}

pub Follows-part : (A B : List ℕ) (seen log : List Stamping) → AreAmong A B → Follows (record { numbers = B; seen = seen }) log → Follows (record { numbers = A; seen = seen }) log
Follows-part A B seen log among follows = record {
  after = follows.after;
  own = sym (entries_of-within A B among log) ∙ ap (entries_of A) follows.own ∙ entries_of-within A B among seen;
}

-- ---- what a seat knows fits the log
pub Fits-cons : (seats : ℕ) (log : List Stamping) (v : View) (e : Stamping) → is_in v.numbers e.number ≡ false → Fits seats log v → Fits seats (e ∷ log) v
Fits-cons seats log v e out fits = record {
  count = fits.count;
  below = fits.below;
  first = Follows-cons v.first log e (not_among v.first.numbers v.numbers e.number fits.first_among out) fits.first;
  second = Follows-cons v.second log e (not_among v.second.numbers v.numbers e.number fits.second_among out) fits.second;
  first_among = fits.first_among;
  second_among = fits.second_among;
}

-- a seat that has just seen the whole log
pub Fits-view_of : (seats own_seats : ℕ) (numbers : List ℕ) (log : List Stamping) → (0 < own_seats → own_seats ≡ seats) → ((n : ℕ) → is_in numbers n ≡ true → n < seats) → Fits seats log (view_of own_seats numbers log)
Fits-view_of seats own_seats numbers log count below = record {
  count = count;
  below = below;
  first = Follows-all numbers log;
  second = Follows-nothing log;
  first_among = λ n h. h;
  second_among = λ n h. absurd (false≢true h);
}

-- ---- the last stamp
pub least_above-last_of : (seats : ℕ) (run : List Stamping) → IsLegalRun seats run → least_above (stamps_of run) ≡ after (last_of run)
least_above-last_of seats [] legal = refl
least_above-last_of seats (e ∷ past) legal =
    omega (arith, least_above-le_from_All (stamps_of past) e.stamp legal.0.least.may_give.above_all)

-- ---- the numbers from one on
pub is_in-range : (len from n : ℕ) → is_in (range_with_len from len) n ≡ true → (from ≤ n) × (n < from + len)
is_in-range zero from n h = absurd (false≢true h)
is_in-range (suc len) from n h =
    ⊎_elim
    (λ here. let e = eqb-true from n here in (omega (arith, e), omega (arith, e)))
    (λ there. let later = is_in-range len (from + 1) n there in (omega (arith, later.0), omega (arith, later.1)))
    (or_cases (from == n) (is_in (range_with_len (from + 1) len) n) h)

-- ---- all numbers
pub entries_of-all : (seats : ℕ) (numbers : List ℕ) (run : List Stamping) → ((n : ℕ) → n < seats → is_in numbers n ≡ true) → IsLegalRun seats run → entries_of numbers run ≡ run
entries_of-all seats numbers [] all legal = refl
entries_of-all seats numbers (e ∷ run) all legal =
    entries_of-take numbers e run (all e.number legal.0.of_a_seat) ∙ ap (λ (r : List Stamping). e ∷ r) (entries_of-all seats numbers run all legal.1)

-- ---- each stamp lies in its lease
pub All-in_lease : (seats : ℕ) (run : List Stamping) → IsLegalRun seats run → All (λ (entry : Stamping). Holds entry.lease entry.stamp) run
All-in_lease seats [] legal = All-nil (λ (entry : Stamping). Holds entry.lease entry.stamp)
All-in_lease seats (e ∷ run) legal =
    All-cons (λ (entry : Stamping). Holds entry.lease entry.stamp) e run (legal.0.least.may_give.from_lease, legal.0.in_lease) (All-in_lease seats run legal.1)
