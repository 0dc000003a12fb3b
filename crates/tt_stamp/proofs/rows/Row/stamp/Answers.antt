use Rattle.std.proofs.Common.{◌≡◌, refl, arith}
use Rattle.tt_stamp.specs.Stamp.{least_from}
use Rattle.tt_stamp.proofs.Stamps.{IsLeastStamp-least_from, HasNoStamp-past_max, IsPastLease-past_end, past_end-IsPastLease, greatest_of-cons}
use Rattle.tt_stamp.proofs.rows.Row.stamp.Goals as goal

pub returns-then-stamp-gt-MAX_TIME-clause-used_up :
    goal.returns-then-stamp-gt-MAX_TIME-clause-used_up
returns-then-stamp-gt-MAX_TIME-clause-used_up c given e =
    let free = c.least_free.ensures.value given e in (
      λ _. (λ far. omega arith, HasNoStamp-past_max given c.args.reading.now.hi c.args.floor c.args.lease.now (omega arith)),
      λ _. refl,
    )

pub returns-then-stamp-gt-MAX_TIME-clause-lease_over :
    goal.returns-then-stamp-gt-MAX_TIME-clause-lease_over
returns-then-stamp-gt-MAX_TIME-clause-lease_over c given e =
    let free = c.least_free.ensures.value given e in (
      λ other. absurd (cc),
      λ past. absurd (HasNoStamp-past_max given c.args.reading.now.hi c.args.floor c.args.lease.now (omega arith) (past.1.0) (past.1.1.may_give)),
    )

pub returns-then-stamp-hi-clause-used_up : goal.returns-then-stamp-hi-clause-used_up
returns-then-stamp-hi-clause-used_up c given e =
    let free = c.least_free.ensures.value given e in (
      λ other. absurd (cc),
      λ none. absurd (none.1 _ (IsLeastStamp-least_from given c.args.reading.now.hi c.args.floor c.args.lease.now (omega arith)).may_give),
    )

pub returns-then-stamp-hi-clause-lease_over : goal.returns-then-stamp-hi-clause-lease_over
returns-then-stamp-hi-clause-lease_over c given e =
    let free = c.least_free.ensures.value given e in (
      λ _. (λ far. omega arith, IsPastLease-past_end given c.args.reading.now.hi c.args.floor c.args.lease.now (omega arith) (omega arith)),
      λ _. refl,
    )

pub returns-clause-least : goal.returns-clause-least
returns-clause-least c given e =
    let free = c.least_free.ensures.value given e in
    let is : least_from given c.args.reading.now.hi c.args.floor c.args.lease.now ≡ c.max-stamp.result = omega arith in
    rw is at (IsLeastStamp-least_from given c.args.reading.now.hi c.args.floor c.args.lease.now (omega arith))

pub returns-clause-used_up : goal.returns-clause-used_up
returns-clause-used_up c given e =
    let free = c.least_free.ensures.value given e in (
      λ other. absurd (cc),
      λ none. absurd (none.1 c.max-stamp.result (returns-clause-least c given e).may_give),
    )

pub returns-clause-lease_over : goal.returns-clause-lease_over
returns-clause-lease_over c given e = (
  λ other. absurd (cc),
  λ past. absurd (omega (arith, past_end-IsPastLease given c.args.reading.now.hi c.args.floor c.args.lease.now c.max-stamp.result past.1 (returns-clause-least c given e).may_give, c.if-stamp-hi.false, c.hi.ensures.value)),
)

pub returns-clause-greatest : goal.returns-clause-greatest
returns-clause-greatest c given e =
    let free = c.least_free.ensures.value given e in
    greatest_of-cons given c.max-stamp.result (omega arith)
