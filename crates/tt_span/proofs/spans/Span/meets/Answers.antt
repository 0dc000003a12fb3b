use Rattle.std.proofs.Common.{arith}
use Rattle.std.specs.Prelude.{max}
use Rattle.std.proofs.lemmas.Grind.{common_steps}
use Rattle.tt_span.proofs.spans.Span.meets.Goals as goal

pub returns-then-self-other : goal.returns-then-self-other
returns-then-self-other c = (
  λ h. (max c.self.inside.lo c.other.inside.lo, (grind (arith, common_steps), grind (arith, common_steps)), (grind (arith, common_steps), grind (arith, common_steps))),
  λ w. grind (arith, common_steps),
)
