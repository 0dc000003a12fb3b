use Rattle.std.proofs.Common.{◌≡◌, ℕ, ◌+◌, ◌*◌, ◌/◌, ◌%◌, ◌∙◌, ap, sym, subst}
use Rattle.std.specs.Int.{div_ceil}
use Rattle.tt_span.specs.Drift.{widening, IsWidening}
use Rattle.tt_span.proofs.Widening.{least-widening, parts-widening}
use Rattle.tt_span.proofs.drifts.Drift.widen.Goals as goal

-- what is computed, where the parts per million are those of the drift
computed : (ppm p d w : ℕ) → p ≡ ppm → w ≡ div_ceil (d % 1000000 * p) 1000000 → d / 1000000 * p + w ≡ widening ppm d
computed ppm p d w e f = ap (λ n. d / 1000000 * p + n) f ∙ parts-widening p d ∙ ap (λ n. widening n d) e

pub returns-clause-value : goal.returns-clause-value
returns-clause-value c =
    computed c.args.self.now c.from-ppm.result c.args.d c.div_ceil.result (c.from-ppm.ensures ∙ c.self.view_is) c.div_ceil.ensures

pub returns-clause-least : goal.returns-clause-least
returns-clause-least c =
    let value = computed c.args.self.now c.from-ppm.result c.args.d c.div_ceil.result (c.from-ppm.ensures ∙ c.self.view_is) c.div_ceil.ensures in
    subst (λ (w : ℕ). IsWidening c.args.self.now c.args.d w) (sym value) (least-widening c.args.self.now c.args.d)
