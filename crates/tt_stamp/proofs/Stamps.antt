-- The stamp that is computed is the least that may be given.
use Rattle.std.proofs.Common.{◌≡◌, ℕ, ◌+◌, ◌<◌, ◌≤◌, max, nat_lt, cond, Bool, true, false, List, [], ◌∷◌, All, Option, Some, None, unwrap_or, Result, Ok, Err, IfOk, IsErrOf, refl, sym, ap, subst, ◌∙◌, arith}
use Rattle.std.proofs.lemmas.Bool.{ltb-true, ltb-false}
use Rattle.std.proofs.lemmas.List.Elements.{All-nil, All-cons, All-head, All-tail}
use Rattle.tt_span.specs.Time.{max_time}
use Rattle.tt_span.specs.Interval.{Interval, Holds, whole}
use Rattle.tt_stamp.specs.Stamp.{max_ahead, MayGive, IsLeastStamp, HasNoStamp, IsPastLease, IsTooFar, IsAnswer, least_above, least_from, stamp_of, greatest_of}
use Rattle.tt_stamp.specs.declared.faults.StampFault.{StampFault}
use Rattle.tt_stamp.specs.declared.faults.StampFault.TheVariants.{UsedUp, FloorTooFar, LeaseOver}

-- the number after the greatest stamp, or 0 where there is none
abbrev pub after : Option ℕ → ℕ
after None = 0
after (Some s) = s + 1

after-greatest : (s : ℕ) (last : Option ℕ) → max (s + 1) (after last) ≡ max s (unwrap_or last 0) + 1
after-greatest s None = omega arith
after-greatest s (Some t) = omega arith

pub least_above-from_greatest : (given : List ℕ) → least_above given ≡ after (greatest_of given)
least_above-from_greatest [] = refl
least_above-from_greatest (s ∷ given) =
    ap (λ n. max (s + 1) n) (least_above-from_greatest given) ∙ after-greatest s (greatest_of given)

pub least_above-le_from_All : (given : List ℕ) (s : ℕ) → All (λ t. t < s) given → least_above given ≤ s
least_above-le_from_All [] s all = omega arith
least_above-le_from_All (t ∷ given) s all =
    let here : t < s = All-head (λ t. t < s) t given all in
    omega (arith, least_above-le_from_All given s (All-tail (λ t. t < s) t given all))

pub All-from_least_above-le : (given : List ℕ) (s : ℕ) → least_above given ≤ s → All (λ t. t < s) given
All-from_least_above-le [] s h = All-nil (λ t. t < s)
All-from_least_above-le (t ∷ given) s h =
    All-cons (λ t. t < s) t given (omega arith) (All-from_least_above-le given s (omega arith))

pub MayGive-from_least_from : (given : List ℕ) (latest floor : ℕ) (lease : Interval) (s : ℕ) → least_from given latest floor lease ≤ s → s ≤ max_time → MayGive given latest floor lease s
MayGive-from_least_from given latest floor lease s from in_time = record {
  in_time = in_time;
  from_latest = omega arith;
  from_floor = omega arith;
  from_lease = omega arith;
  above_all = All-from_least_above-le given s (omega arith);
}

pub least_from-le : (given : List ℕ) (latest floor : ℕ) (lease : Interval) (s : ℕ) → MayGive given latest floor lease s → least_from given latest floor lease ≤ s
least_from-le given latest floor lease s may =
    omega (arith, least_above-le_from_All given s may.above_all, may.from_latest, may.from_floor, may.from_lease)

pub IsLeastStamp-least_from : (given : List ℕ) (latest floor : ℕ) (lease : Interval) → least_from given latest floor lease ≤ max_time → IsLeastStamp given latest floor lease (least_from given latest floor lease)
IsLeastStamp-least_from given latest floor lease in_time = record {
  may_give = MayGive-from_least_from given latest floor lease _ (omega arith) in_time;
  least = λ t may. least_from-le given latest floor lease t may;
}

pub HasNoStamp-past_max : (given : List ℕ) (latest floor : ℕ) (lease : Interval) → max_time < least_from given latest floor lease → HasNoStamp given latest floor lease
HasNoStamp-past_max given latest floor lease past s may =
    omega (arith, least_from-le given latest floor lease s may, may.in_time)

pub IsPastLease-past_end : (given : List ℕ) (latest floor : ℕ) (lease : Interval) → least_from given latest floor lease ≤ max_time → lease.hi < least_from given latest floor lease → IsPastLease given latest floor lease
IsPastLease-past_end given latest floor lease in_time past =
    (least_from given latest floor lease, IsLeastStamp-least_from given latest floor lease in_time, past)

-- where the least stamp is past the lease's end, none that may be given is not
pub past_end-IsPastLease : (given : List ℕ) (latest floor : ℕ) (lease : Interval) (s : ℕ) → IsPastLease given latest floor lease → MayGive given latest floor lease s → lease.hi < s
past_end-IsPastLease given latest floor lease s past may =
    omega (arith, past.1.least s may, past.2)

answer_in_lease : (given : List ℕ) (latest floor : ℕ) (lease : Interval) (over : Bool) → nat_lt lease.hi (least_from given latest floor lease) ≡ over → (¬ IsTooFar latest floor) → least_from given latest floor lease ≤ max_time → IsAnswer given latest floor lease (cond over (Err LeaseOver) (Ok (least_from given latest floor lease)))
answer_in_lease given latest floor lease true e near in_time =
    (near, IsPastLease-past_end given latest floor lease in_time (ltb-true _ _ e))
answer_in_lease given latest floor lease false e near in_time =
    (near, IsLeastStamp-least_from given latest floor lease in_time, ltb-false _ _ e)

answer_in_time : (given : List ℕ) (latest floor : ℕ) (lease : Interval) (used : Bool) → nat_lt max_time (least_from given latest floor lease) ≡ used → (¬ IsTooFar latest floor) → IsAnswer given latest floor lease (cond used (Err UsedUp) (cond (nat_lt lease.hi (least_from given latest floor lease)) (Err LeaseOver) (Ok (least_from given latest floor lease))))
answer_in_time given latest floor lease true e near =
    (near, HasNoStamp-past_max given latest floor lease (ltb-true _ _ e))
answer_in_time given latest floor lease false e near =
    answer_in_lease given latest floor lease _ refl near (ltb-false _ _ e)

-- the answer by the least number above all stamps given
abbrev stamp_by : ℕ → ℕ → Interval → ℕ → Result ℕ StampFault
stamp_by latest floor lease above =
    let least : ℕ = max (max (max latest floor) lease.lo) above in
    cond (nat_lt (latest + max_ahead) floor) (Err FloorTooFar) (cond (nat_lt max_time least) (Err UsedUp) (cond (nat_lt lease.hi least) (Err LeaseOver) (Ok least)))

answer_by_floor : (given : List ℕ) (latest floor : ℕ) (lease : Interval) (far : Bool) → nat_lt (latest + max_ahead) floor ≡ far → IsAnswer given latest floor lease (cond far (Err FloorTooFar) (cond (nat_lt max_time (least_from given latest floor lease)) (Err UsedUp) (cond (nat_lt lease.hi (least_from given latest floor lease)) (Err LeaseOver) (Ok (least_from given latest floor lease)))))
answer_by_floor given latest floor lease true e = ltb-true _ _ e
answer_by_floor given latest floor lease false e =
    answer_in_time given latest floor lease _ refl (λ far. omega (arith, ltb-false _ _ e, far))

pub IsAnswer-stamp_of : (given : List ℕ) (latest floor : ℕ) (lease : Interval) → IsAnswer given latest floor lease (stamp_of given latest floor lease)
IsAnswer-stamp_of given latest floor lease = answer_by_floor given latest floor lease _ refl

-- ---- a stamp lies in its lease
held_by_answer : (given : List ℕ) (latest floor : ℕ) (lease : Interval) (r : Result ℕ StampFault) → IsAnswer given latest floor lease r → IfOk r (λ s. Holds lease s)
held_by_answer given latest floor lease (Ok s) answer = (answer.1.may_give.from_lease, answer.2)
held_by_answer given latest floor lease (Err fault) answer = tt

pub Holds-stamp_of : (given : List ℕ) (latest floor : ℕ) (lease : Interval) → IfOk (stamp_of given latest floor lease) (λ s. Holds lease s)
Holds-stamp_of given latest floor lease =
    held_by_answer given latest floor lease (stamp_of given latest floor lease) (IsAnswer-stamp_of given latest floor lease)

-- the whole of time is never over
pub whole_lease : (given : List ℕ) (latest floor : ℕ) → ¬ IsErrOf (stamp_of given latest floor whole) LeaseOver
whole_lease given latest floor over =
    let answer : IsAnswer given latest floor whole (Err LeaseOver) = subst (IsAnswer given latest floor whole) over (IsAnswer-stamp_of given latest floor whole) in
    omega (arith, answer.1.1.may_give.in_time, answer.1.2)

-- ---- the greatest stamp
greatest_below_after : (s : ℕ) (last : Option ℕ) → after last ≤ s → max s (unwrap_or last 0) ≡ s
greatest_below_after s None h = omega arith
greatest_below_after s (Some t) h = omega arith

-- a stamp that is above every one given is the greatest
pub greatest_of-cons : (given : List ℕ) (s : ℕ) → least_above given ≤ s → greatest_of (s ∷ given) ≡ Some s
greatest_of-cons given s h =
    ap (λ n. Some n) (greatest_below_after s (greatest_of given) (omega (arith, least_above-from_greatest given)))

-- the answer depends on the greatest of the stamps given alone
pub stamp_of-same_greatest : (given other : List ℕ) (latest floor : ℕ) (lease : Interval) → greatest_of given ≡ greatest_of other → stamp_of given latest floor lease ≡ stamp_of other latest floor lease
stamp_of-same_greatest given other latest floor lease e =
    ap (stamp_by latest floor lease) (least_above-from_greatest given ∙ ap after e ∙ sym (least_above-from_greatest other))

-- a stamp that is given is the greatest
pub greatest_of-given : (given : List ℕ) (latest floor : ℕ) (lease : Interval) (s : ℕ) → stamp_of given latest floor lease ≡ Ok s → greatest_of (s ∷ given) ≡ Some s
greatest_of-given given latest floor lease s e =
    let answer : IsAnswer given latest floor lease (Ok s) = subst (IsAnswer given latest floor lease) e (IsAnswer-stamp_of given latest floor lease) in
    greatest_of-cons given s (least_above-le_from_All given s answer.1.may_give.above_all)
