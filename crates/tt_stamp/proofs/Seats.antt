-- What the steps of a sequencer tell of a seat.
use Rattle.std.proofs.Common.{◌≡◌, ℕ, suc, ◌+◌, ◌-◌, ◌<◌, ◌≤◌, ◌==◌, true, false, List, [], ◌∷◌, ◌++◌, Option, Some, None, ⊎_elim, refl, sym, ap, ◌∙◌, subst, arith, append_assoc}
use Rattle.std.specs.Option.{SomeIff}
use Rattle.std.specs.List.{range_with_len}
use Rattle.std.proofs.lemmas.Bool.{eqb-true, or_cases, false≢true}
use Rattle.atomic_table.specs.Seated.{TableId}
use Rattle.tt_span.specs.Interval.{Interval}
use Rattle.tt_stamp.specs.Stamping.{is_in, entries_of, IsLegalRun, Continues, SeatState, IsSameSeat, SeatLooks, Gives, Unites}
use Rattle.tt_stamp.specs.Sequencing.{view_of, Follows, HasLooked, HasGiven, joined_view, state_of}
use Rattle.tt_stamp.specs.declared.stampings.Stamping.{Stamping}
use Rattle.tt_stamp.specs.declared.stampings.Known.{Known}
use Rattle.tt_stamp.specs.declared.stampings.View.{View}
use Rattle.tt_stamp.proofs.Stamps.{after}
use Rattle.tt_stamp.proofs.Runs.{entries_of-take, entries_of-within, AreAmong-append_left, AreAmong-append_right, is_in-range}

-- ---- a stamp was given
given_at : (t : TableId) (seats : ℕ) (numbers : List ℕ) (seen before : List Stamping) (number latest floor : ℕ) (lease : Interval) (stamp : ℕ) → is_in numbers number ≡ true → Follows (record { numbers = numbers; seen = seen }) before → IsLegalRun seats (record { number = number; latest = latest; floor = floor; lease = lease; stamp = stamp } ∷ before) → Gives (state_of t (view_of seats numbers seen)) (state_of t (view_of seats numbers (record { number = number; latest = latest; floor = floor; lease = lease; stamp = stamp } ∷ before))) latest floor lease stamp
given_at t seats numbers seen before number latest floor lease stamp mine follows legal =
    let entry : Stamping = record { number = number; latest = latest; floor = floor; lease = lease; stamp = stamp } in
    record {
      same = record { table = refl; seats = refl; numbers = refl; legal = legal; mine = refl };
      number = number;
      of_seat = mine;
      between = follows.after.0;
      after = ap (λ (r : List Stamping). entry ∷ r) follows.after.1;
      own = entries_of-take numbers entry before mine ∙ ap (λ (r : List Stamping). entry ∷ r) follows.own;
    }

pub Gives-from_step : (t u : TableId) (v w : View) (latest floor : ℕ) (lease : Interval) (stamp : ℕ) → u ≡ t → v ≡ view_of v.seats v.numbers v.first.seen → 0 < v.seats → HasGiven v latest floor lease stamp w → Gives (state_of t v) (state_of u w) latest floor lease stamp
Gives-from_step t u v w latest floor lease stamp table one opened given =
    let entry : Stamping = record { number = given.number; latest = latest; floor = floor; lease = lease; stamp = stamp } in
    let follows = subst (λ (k : Known). Follows k given.before) (ap (λ (x : View). x.first) one) given.first in
    let legal = subst (λ (x : View). IsLegalRun v.seats x.first.seen) given.is (given.legal opened) in
    subst (λ (x : TableId). Gives (state_of t v) (state_of x w) latest floor lease stamp) (sym table)
    (subst (λ (x : View). Gives (state_of t v) (state_of t x) latest floor lease stamp) (sym given.is) (given_at t v.seats v.numbers v.first.seen given.before given.number latest floor lease stamp given.of_seat follows legal))

-- ---- one look after another
pub Continues-trans : (a b c : List Stamping) → Continues a b → Continues b c → Continues a c
Continues-trans a b c f g =
    (g.0 ++ f.0, g.1 ∙ ap (λ (r : List Stamping). g.0 ++ r) f.1 ∙ sym (append_assoc g.0 f.0 a))

same_trans : (a b c : SeatState) → IsSameSeat a b → IsSameSeat b c → IsSameSeat a c
same_trans a b c f g = record {
  table = g.table ∙ f.table;
  seats = g.seats ∙ f.seats;
  numbers = g.numbers ∙ f.numbers;
  legal = g.legal;
  mine = g.mine;
}

pub SeatLooks-trans : (a b c : SeatState) → SeatLooks a b → SeatLooks b c → SeatLooks a c
SeatLooks-trans a b c f g = record {
  same = same_trans a b c f.same g.same;
  after = Continues-trans a.seen b.seen c.seen f.after g.after;
  own = g.own ∙ f.own;
}

pub Gives-after_look : (a b c : SeatState) (latest floor : ℕ) (lease : Interval) (stamp : ℕ) → SeatLooks a b → Gives b c latest floor lease stamp → Gives a c latest floor lease stamp
Gives-after_look a b c latest floor lease stamp f g =
    let entry : Stamping = record { number = g.number; latest = latest; floor = floor; lease = lease; stamp = stamp } in
    record {
      same = same_trans a b c f.same g.same;
      number = g.number;
      of_seat = subst (λ (ns : List ℕ). is_in ns g.number ≡ true) f.same.numbers g.of_seat;
      between = g.between ++ f.after.0;
      after = g.after ∙ ap (λ (r : List Stamping). entry ∷ (g.between ++ r)) f.after.1 ∙ ap (λ (r : List Stamping). entry ∷ r) (sym (append_assoc g.between f.after.0 a.seen));
      own = g.own ∙ ap (λ (r : List Stamping). entry ∷ r) f.own;
    }

-- ---- the last stamp, from the word
pub last_from_word : (o r : Option ℕ) (word : ℕ) → word ≡ after o → SomeIff r (1 ≤ word) (word - 1) → r ≡ o
last_from_word None None word e h = refl
last_from_word None (Some x) word e h = absurd (omega (arith, e, h.0))
last_from_word (Some s) None word e h = absurd (h (omega (arith, e)))
last_from_word (Some s) (Some x) word e h = ap (λ (n : ℕ). Some n) (omega (arith, e, h.1))

-- ---- two seats were joined
pub Unites-from_look : (t s u : TableId) (v w x : View) (found : ℕ) → u ≡ t → v ≡ view_of v.seats v.numbers v.first.seen → w ≡ view_of w.seats w.numbers w.first.seen → 0 < v.seats → HasLooked (joined_view v w) found x → Unites (state_of t v) (state_of s w) (state_of u x)
Unites-from_look t s u v w x found table one other opened looked =
    let numbers : x.numbers ≡ v.numbers ++ w.numbers = ap (λ (y : View). y.numbers) looked.is in
    let seats : x.seats ≡ v.seats = ap (λ (y : View). y.seats) looked.is in
    let run : List Stamping = x.first.seen in
    let first = subst (λ (k : Known). Follows k run) (ap (λ (y : View). y.first) one) looked.first in
    let second = subst (λ (k : Known). Follows k run) (ap (λ (y : View). y.first) other) looked.second in
    let own : entries_of x.numbers run ≡ entries_of (v.numbers ++ w.numbers) run = ap (λ (ns : List ℕ). entries_of ns run) numbers in
    record {
      table = table;
      seats = seats;
      numbers = numbers;
      after_first = first.after;
      after_second = second.after;
      own = refl;
      own_of_first = ap (entries_of v.numbers) own ∙ entries_of-within v.numbers (v.numbers ++ w.numbers) (AreAmong-append_left v.numbers w.numbers) run ∙ first.own;
      own_of_second = ap (entries_of w.numbers) own ∙ entries_of-within w.numbers (v.numbers ++ w.numbers) (AreAmong-append_right v.numbers w.numbers) run ∙ second.own;
      legal = subst (λ (n : ℕ). IsLegalRun n run) (sym seats) (looked.legal opened);
    }

-- ---- the numbers that are still to be dealt
pub range-next : (k n : ℕ) → k < n → range_with_len k (n - k) ≡ k ∷ range_with_len (k + 1) (n - (k + 1))
range-next k n h =
    let e : n - k ≡ suc (n - (k + 1)) = omega (arith, h) in
    ap (λ (m : ℕ). range_with_len k m) e

pub range-distinct : (k n m : ℕ) → is_in (k ∷ []) m ≡ true → is_in (range_with_len (k + 1) (n - (k + 1))) m ≡ true → ⊥
range-distinct k n m here there =
    let later = is_in-range (n - (k + 1)) (k + 1) m there in
    ⊎_elim
    (λ e. omega (arith, later.0, eqb-true k m e))
    (λ e. false≢true e)
    (or_cases (k == m) false here)
