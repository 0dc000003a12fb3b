use Rattle.std.proofs.Common.{drop, sym, ◌∙◌}
use Rattle.ttd_commands.specs.SpansText.{span_word}
use Rattle.ttd_commands.proofs.spans_text.span_at.Goals as goal

pub returns-in_err-numbers : goal.returns-in_err-numbers
returns-in_err-numbers c =
    rw c.from_residual.ensures (c.text_laws.ensures.no_span span_word (drop c.args.at c.args.text.now) c.in_err-numbers.ensures.read)

pub returns-in_err-span : goal.returns-in_err-span
returns-in_err-span c =
    rw c.from_residual-in_err-span.ensures (c.text_laws.ensures.other_ends span_word (drop c.args.at c.args.text.now) c.in_ok-numbers.numbers.items (drop c.in_ok-numbers.next c.args.text.now) c.in_ok-numbers.ensures.read.1 (λ w fits same. c.in_err-span.ensures w fits (same ∙ sym c.deref.ensures.0)))

pub returns : goal.returns
returns c = (
  c.in_ok-numbers.ensures.read.0,
  c.text_laws.ensures.span span_word (drop c.args.at c.args.text.now) c.in_ok-numbers.numbers.items (drop c.in_ok-numbers.next c.args.text.now) c.in_ok-numbers.ensures.read.1 c.in_ok-span.span c.in_ok-span.ensures.0 (c.in_ok-span.ensures.1 ∙ c.deref.ensures.0),
)
