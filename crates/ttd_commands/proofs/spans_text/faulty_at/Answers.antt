use Rattle.std.proofs.Common.{drop, sym, ◌∙◌}
use Rattle.ttd_commands.specs.SpansText.{faulty_word}
use Rattle.ttd_commands.proofs.spans_text.faulty_at.Goals as goal

pub returns-in_err-numbers : goal.returns-in_err-numbers
returns-in_err-numbers c =
    rw c.from_residual.ensures (c.text_laws.ensures.no_number faulty_word (drop c.args.at c.args.text.now) c.in_err-numbers.ensures.read)

pub returns-in_err-faulty : goal.returns-in_err-faulty
returns-in_err-faulty c =
    rw c.from_residual-in_err-faulty.ensures (c.text_laws.ensures.other_numbers faulty_word (drop c.args.at c.args.text.now) c.in_ok-numbers.numbers.items (drop c.in_ok-numbers.next c.args.text.now) c.in_ok-numbers.ensures.read.1 (λ w fits same. c.in_err-faulty.ensures w fits (same ∙ sym c.deref.ensures.0)))

pub returns : goal.returns
returns c = (
  c.in_ok-numbers.ensures.read.0,
  c.text_laws.ensures.number faulty_word (drop c.args.at c.args.text.now) c.in_ok-numbers.numbers.items (drop c.in_ok-numbers.next c.args.text.now) c.in_ok-numbers.ensures.read.1 c.in_ok-faulty.faulty c.in_ok-faulty.ensures.0 (c.in_ok-faulty.ensures.1 ∙ c.deref.ensures.0),
)
