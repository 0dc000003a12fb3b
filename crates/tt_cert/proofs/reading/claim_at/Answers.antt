use Rattle.std.proofs.Common.{drop, sym, ◌∙◌}
use Rattle.tt_span.specs.Interval.{IsInterval}
use Rattle.tt_text.specs.Line.{line_of, ends_of}
use Rattle.tt_cert.specs.Text.{claim_word}
use Rattle.tt_text.specs.Reading.{Anything, AreNumbers}
use Rattle.tt_text.proofs.Fronts.{ReadsNothing-parts, ReadsNothing-whole, Reads-whole}
use Rattle.tt_text.proofs.Lines.{AreNumbers-ends_of, one-ends_of}
use Rattle.tt_cert.proofs.reading.claim_at.Goals as goal

pub returns-in_err-numbers : goal.returns-in_err-numbers
returns-in_err-numbers c =
    rw c.from_residual.ensures (ReadsNothing-parts (line_of claim_word) AreNumbers Anything ends_of IsInterval AreNumbers-ends_of (drop c.args.at c.args.text.now) c.in_err-numbers.ensures.read)

pub returns-in_err-claim : goal.returns-in_err-claim
returns-in_err-claim c =
    rw c.from_residual-in_err-claim.ensures (ReadsNothing-whole (line_of claim_word) AreNumbers Anything ends_of IsInterval AreNumbers-ends_of (drop c.args.at c.args.text.now) c.in_ok-numbers.numbers.items (drop c.in_ok-numbers.next c.args.text.now) c.in_ok-numbers.ensures.read.1 (λ w fits same. c.in_err-claim.ensures w fits (same ∙ sym c.deref.ensures.0)))

pub returns : goal.returns
returns c = (
  c.in_ok-numbers.ensures.read.0,
  Reads-whole (line_of claim_word) AreNumbers Anything ends_of IsInterval AreNumbers-ends_of (drop c.args.at c.args.text.now) one-ends_of c.in_ok-numbers.numbers.items (drop c.in_ok-numbers.next c.args.text.now) c.in_ok-numbers.ensures.read.1 c.in_ok-claim.claim c.in_ok-claim.ensures.0 (c.in_ok-claim.ensures.1 ∙ c.deref.ensures.0),
)
