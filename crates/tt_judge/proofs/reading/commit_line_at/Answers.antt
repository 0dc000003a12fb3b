use Rattle.std.proofs.Common.{drop, sym, ◌∙◌}
use Rattle.tt_text.specs.Line.{line_of}
use Rattle.tt_text.specs.Reading.{Anything, AreNumbers}
use Rattle.tt_text.proofs.Fronts.{ReadsNothing-parts, ReadsNothing-whole, Reads-whole}
use Rattle.tt_judge.specs.HistoryText.{commit_word, numbers_of, IsLine}
use Rattle.tt_judge.proofs.CommitLines.{AreNumbers-numbers_of, one-numbers_of}
use Rattle.tt_judge.proofs.reading.commit_line_at.Goals as goal

pub returns-in_err-numbers : goal.returns-in_err-numbers
returns-in_err-numbers c =
    rw c.from_residual.ensures (ReadsNothing-parts (line_of commit_word) AreNumbers Anything numbers_of IsLine AreNumbers-numbers_of (drop c.args.at c.args.text.now) c.in_err-numbers.ensures.read)

pub returns-in_err-line : goal.returns-in_err-line
returns-in_err-line c =
    rw c.from_residual-in_err-line.ensures (ReadsNothing-whole (line_of commit_word) AreNumbers Anything numbers_of IsLine AreNumbers-numbers_of (drop c.args.at c.args.text.now) c.in_ok-numbers.numbers.items (drop c.in_ok-numbers.next c.args.text.now) c.in_ok-numbers.ensures.read.1 (λ w fits same. c.in_err-line.ensures w fits (same ∙ sym c.deref.ensures.0)))

pub returns : goal.returns
returns c = (
  c.in_ok-numbers.ensures.read.0,
  Reads-whole (line_of commit_word) AreNumbers Anything numbers_of IsLine AreNumbers-numbers_of (drop c.args.at c.args.text.now) one-numbers_of c.in_ok-numbers.numbers.items (drop c.in_ok-numbers.next c.args.text.now) c.in_ok-numbers.ensures.read.1 c.in_ok-line.line c.in_ok-line.ensures.0 (c.in_ok-line.ensures.1 ∙ c.deref.ensures.0),
)
