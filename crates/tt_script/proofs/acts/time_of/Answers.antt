use Rattle.std.proofs.Common.{refl}
use Rattle.tt_script.proofs.Times.{time_of-other, time_of-parsed, time_of-unparsed}
use Rattle.tt_script.proofs.acts.time_of.Goals as goal

pub returns-then-not-begins_plainly : goal.returns-then-not-begins_plainly
returns-then-not-begins_plainly c = time_of-other c.args.digits.now (rw c.as_bytes.ensures.value at (c.if-not-begins_plainly.ensures.other refl))

pub returns-in_default : goal.returns-in_default
returns-in_default c = time_of-unparsed c.args.digits.now c.parse.result c.in_default.field-0 c.parse.ensures.value.0 c.in_default.is

pub returns-then-time-le-MAX_TIME : goal.returns-then-time-le-MAX_TIME
returns-then-time-le-MAX_TIME c =
    let plain = rw c.as_bytes.ensures.value at (c.if-not-begins_plainly.ensures.plain refl) in
    time_of-parsed c.args.digits.now c.parse.result c.in-Ok.time plain.0 plain.1 c.parse.ensures.value.0 c.in-Ok.is c.if-time-le-MAX_TIME.true
