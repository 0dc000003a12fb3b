-- To one more source a packet could not be sent, or not.
use Rattle.std.proofs.Common.{ℕ, ◌++◌, [], ◌∷◌, List, arith, ap, ◌∙◌, sym}
use Rattle.arrayvec.specs.ArrayVec.{ArrayVec, array_vec_len}
use Rattle.std.proofs.lemmas.Bool.{le-ltb, lt-ltb}
use Rattle.tt_telemetry.proofs.Numbers.{numbers-no, numbers-yes}
use Rattle.tt_telemetry.proofs.records.unsent_sources.Goals as goal
use Rattle.tt_telemetry.proofs.records.unsent_sources.Goals.{then-unsent-source, else-unsent-source}

pub loop-source-preserved : goal.loop-source-preserved
loop-source-preserved c =
    elim c.if-unsent-source.branch [
      | then-unsent-source w ↦ record {
        value = ap (λ (v : ArrayVec ℕ). v.items) w.lost-is ∙ w.push.ensures.items ∙ ap (λ (l : List ℕ). l ++ c.loop-source.source ∷ []) c.loop-source.invariant.value
            ∙ sym (numbers-yes _ c.loop-source.source (lt-ltb _ _ w.if-unsent-source.true));
        few = omega (arith, ap array_vec_len w.lost-is, w.push.ensures.len, c.loop-source.invariant.few);
      }
      | else-unsent-source w ↦ record {
        value = ap (λ (v : ArrayVec ℕ). v.items) w.lost-is ∙ c.loop-source.invariant.value ∙ sym (numbers-no _ c.loop-source.source (le-ltb _ _ w.if-unsent-source.false));
        few = omega (arith, ap array_vec_len w.lost-is, c.loop-source.invariant.few);
      }
    ]
