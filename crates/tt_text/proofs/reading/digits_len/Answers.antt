use Rattle.std.proofs.lemmas.Bool.{OnTrue_at}
use Rattle.std.proofs.lemmas.Int.Digits.{digits_more}
use Rattle.tt_text.proofs.reading.digits_len.Goals as goal

pub loop-count-preserved : goal.loop-count-preserved
loop-count-preserved c =
    digits_more 10 c.args.bytes.now c.loop-count.count c.loop-count-test.true c.loop-count.invariant (OnTrue_at c.if-not-is_ascii_digit.false c.is_ascii_digit.ensures.bound)
