-- One more source agrees again, or not.
use Rattle.std.proofs.Common.{ℕ, ◌++◌, [], ◌∷◌, List, arith, ap, ◌∙◌, sym}
use Rattle.arrayvec.specs.ArrayVec.{ArrayVec, array_vec_len}
use Rattle.tt_telemetry.proofs.Numbers.{numbers-no, numbers-yes}
use Rattle.tt_telemetry.proofs.troubles.agreeing_among.Goals as goal
use Rattle.tt_telemetry.proofs.troubles.agreeing_among.Goals.{then-agrees_again, else-agrees_again}

pub loop-source-preserved : goal.loop-source-preserved
loop-source-preserved c =
    elim c.if-agrees_again.branch [
      | then-agrees_again w ↦ record {
        value = ap (λ (v : ArrayVec ℕ). v.items) w.agreeing-is ∙ w.push.ensures.items ∙ ap (λ (l : List ℕ). l ++ c.loop-source.source ∷ []) c.loop-source.invariant.value
            ∙ sym (numbers-yes _ c.loop-source.source (sym c.agrees_again.ensures ∙ w.if-agrees_again.true));
        few = omega (arith, ap array_vec_len w.agreeing-is, w.push.ensures.len, c.loop-source.invariant.few);
      }
      | else-agrees_again w ↦ record {
        value = ap (λ (v : ArrayVec ℕ). v.items) w.agreeing-is ∙ c.loop-source.invariant.value ∙ sym (numbers-no _ c.loop-source.source (sym c.agrees_again.ensures ∙ w.if-agrees_again.false));
        few = omega (arith, ap array_vec_len w.agreeing-is, c.loop-source.invariant.few);
      }
    ]
