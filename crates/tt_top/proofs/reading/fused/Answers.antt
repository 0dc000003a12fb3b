use Rattle.std.proofs.Common.{ℕ, List, ◌∙◌, ap}
use Rattle.std.specs.Prelude.{Option}
use Rattle.tt_top.specs.View.{span_if, fused_of}
use Rattle.tt_top.proofs.reading.fused.Goals as goal

pub returns : goal.returns
unfolding fused_of
returns c = c.span_in.ensures ∙ ap (λ (line : Option (List ℕ)). span_if line) c.nth.ensures
