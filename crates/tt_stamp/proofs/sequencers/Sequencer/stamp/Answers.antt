use Rattle.std.proofs.Common.{ℕ, subst, arith}
use Rattle.tt_stamp.specs.Stamping.{Gives, stamps_of}
use Rattle.tt_stamp.proofs.Stamps.{HasNoStamp-past_max, IsPastLease-past_end}
use Rattle.tt_stamp.proofs.Seats.{SeatLooks-trans, Gives-after_look}
use Rattle.tt_stamp.proofs.sequencers.Sequencer.stamp.Goals as goal

pub returns-then-stamp-gt-MAX_TIME-clause-stamps :
    goal.returns-then-stamp-gt-MAX_TIME-clause-stamps
returns-then-stamp-gt-MAX_TIME-clause-stamps g c = (
  λ far. omega arith,
  c.loop.invariant.looked,
  HasNoStamp-past_max (stamps_of c.loop.seat.seen) c.args.reading.now.hi c.args.floor c.args.lease.now (omega (arith, c.if-stamp-gt-MAX_TIME.true, c.max-stamp.ensures, c.max-least.ensures, c.max.ensures, c.lo.ensures.value, c.latest-latest.ensures.value, c.loop.invariant.last_word)),
)

pub returns-then-stamp-hi-clause-stamps : goal.returns-then-stamp-hi-clause-stamps
returns-then-stamp-hi-clause-stamps g c = (
  λ far. omega arith,
  c.loop.invariant.looked,
  IsPastLease-past_end (stamps_of c.loop.seat.seen) c.args.reading.now.hi c.args.floor c.args.lease.now
      (omega (arith, c.if-stamp-gt-MAX_TIME.false, c.max-stamp.ensures, c.max-least.ensures, c.max.ensures, c.lo.ensures.value, c.latest-latest.ensures.value, c.loop.invariant.last_word))
      (omega (arith, c.if-stamp-hi.true, c.hi.ensures.value, c.max-stamp.ensures, c.max-least.ensures, c.max.ensures, c.lo.ensures.value, c.latest-latest.ensures.value, c.loop.invariant.last_word)),
)

pub returns-in-Ok-clause-stamps : goal.returns-in-Ok-clause-stamps
returns-in-Ok-clause-stamps g c = (
  λ far. omega arith,
  subst (λ (latest : ℕ). Gives c.args.seat.now c.try_stamp.new.seat latest c.args.floor c.args.lease.now c.max-stamp.result) c.latest-latest.ensures.value (Gives-after_look c.args.seat.now c.loop.seat c.try_stamp.new.seat c.latest-latest.result c.args.floor c.args.lease.now c.max-stamp.result c.loop.invariant.looked c.in-Ok.ensures.given),
  omega arith,
  (omega arith, omega arith),
)

pub loop-preserved : goal.loop-preserved
loop-preserved g c = record {
  looked = SeatLooks-trans c.args.seat.now c.loop.seat c.try_stamp.new.seat c.loop.invariant.looked c.in-Err.ensures.missed.0;
  last_word = c.in-Err.ensures.missed.1;
}
