use Rattle.std.proofs.Common.{drop, sym, ◌∙◌}
use Rattle.tt_text.specs.Line.{line_of}
use Rattle.tt_cert.specs.Text.{numbers_of, IsStretch}
use Rattle.tt_text.specs.Reading.{Anything, AreNumbers}
use Rattle.tt_text.proofs.Fronts.{ReadsNothing-parts, ReadsNothing-whole, Reads-whole}
use Rattle.tt_cert.proofs.Parts.{AreNumbers-numbers_of, one-numbers_of}
use Rattle.tt_cert.proofs.reading.stretch_at.Goals as goal

pub returns-in_err-numbers : goal.returns-in_err-numbers
returns-in_err-numbers c =
    rw c.from_residual.ensures (ReadsNothing-parts (line_of c.args.word.now) AreNumbers Anything numbers_of IsStretch AreNumbers-numbers_of (drop c.args.at c.args.text.now) c.in_err-numbers.ensures.read)

pub returns-in_err-stretch : goal.returns-in_err-stretch
returns-in_err-stretch c =
    rw c.from_residual-in_err-stretch.ensures (ReadsNothing-whole (line_of c.args.word.now) AreNumbers Anything numbers_of IsStretch AreNumbers-numbers_of (drop c.args.at c.args.text.now) c.in_ok-numbers.numbers.items (drop c.in_ok-numbers.next c.args.text.now) c.in_ok-numbers.ensures.read.1 (λ w fits same. c.in_err-stretch.ensures w fits (same ∙ sym c.deref.ensures.0)))

pub returns : goal.returns
returns c = (
  c.in_ok-numbers.ensures.read.0,
  Reads-whole (line_of c.args.word.now) AreNumbers Anything numbers_of IsStretch AreNumbers-numbers_of (drop c.args.at c.args.text.now) one-numbers_of c.in_ok-numbers.numbers.items (drop c.in_ok-numbers.next c.args.text.now) c.in_ok-numbers.ensures.read.1 c.in_ok-stretch.stretch c.in_ok-stretch.ensures.0 (c.in_ok-stretch.ensures.1 ∙ c.deref.ensures.0),
)
