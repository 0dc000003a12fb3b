use Rattle.tt_text.proofs.Whole.{no_line, no_line_further, whole_line}
use Rattle.tt_text.proofs.reading.numbers_behind.Goals as goal

pub returns-in_default : goal.returns-in_default
returns-in_default c =
    record { read = no_line c.args.word.now c.args.line.now c.in_default.ensures.read }

pub returns-then-end-line : goal.returns-then-end-line
returns-then-end-line c =
    record { read = no_line_further c.args.word.now c.args.line.now c.in-Some.numbers.items c.in-Some.end c.if-end-line.true c.in-Some.ensures.read.1 }

pub returns : goal.returns
returns c =
    record { read = whole_line c.args.word.now c.args.line.now c.in-Some.numbers.items c.in-Some.end c.if-end-line.false c.in-Some.ensures.read.1 }
