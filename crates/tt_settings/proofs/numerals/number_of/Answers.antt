use Rattle.std.proofs.Common.{refl, arith}
use Rattle.tt_settings.proofs.Decimals.{number_of-other, number_of-parsed, number_of-unparsed}
use Rattle.tt_settings.proofs.numerals.number_of.Goals as goal

pub returns-then-not-begins_plainly-clause-value : goal.returns-then-not-begins_plainly-clause-value
returns-then-not-begins_plainly-clause-value c = number_of-other c.args.most c.args.digits.now (omega arith) (rw c.as_bytes.ensures.value at (c.if-not-begins_plainly.ensures.other refl))

pub returns-in_default-clause-value : goal.returns-in_default-clause-value
returns-in_default-clause-value c = number_of-unparsed c.args.most c.args.digits.now c.parse.result c.in_default.field-0 (omega arith) c.parse.ensures.value.0 c.in_default.is

pub returns-then-number-most-clause-value : goal.returns-then-number-most-clause-value
returns-then-number-most-clause-value c =
    let plain = rw c.as_bytes.ensures.value at (c.if-not-begins_plainly.ensures.plain refl) in
    number_of-parsed c.args.most c.args.digits.now c.parse.result c.in-Ok.number (omega arith) plain.0 plain.1 c.parse.ensures.value.0 c.in-Ok.is c.if-number-most.true
