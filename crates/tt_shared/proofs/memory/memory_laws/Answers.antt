use Rattle.std.proofs.Common.{inl, inr}
use Rattle.tt_shared.proofs.memory.memory_laws.Goals as goal

pub returns : goal.returns
returns c = λ n p before after stops. elim stops [
  | inl first ↦ inl first.0
  | inr second ↦ inr (second.0.bytes, second.1.0, second.2.0)
]
