use Rattle.std.proofs.Common.{◌≡◌, ℕ, ◌<◌, length, subst, sym, refl, arith}
use Rattle.std.specs.Prelude.{◌↔◌, IsOk, IsErrOf, MatchOption}
use Rattle.std.specs.Option.{ok_or}
use Rattle.tt_fuse.specs.declared.fusion.FuseFault.TheVariants.{NoPoint}
use Rattle.tt_fuse.specs.Fusion.{IsPossibleTime, IsFusion, HasNoPossibleTime, CanBeFused}
use Rattle.tt_fuse.specs.Stated.{spans_at}
use Rattle.tt_fuse.proofs.Answering.{refused-none, answered-some}
use Rattle.tt_fuse.proofs.Walking.{length-spans_at}
use Rattle.tt_fuse.proofs.scaled.Ends.fuse.Goals as goal

-- as many spans as there are sources
each_span : (c : goal.After-ok_or) → length (spans_at c.args.self.now c.args.clock c.args.sources) ≡ c.args.sources
each_span c =
    let can : CanBeFused c.args.sources c.args.faulty = c.in_ok-check_counts.ensures.taken.0 refl in
    length-spans_at c.args.self.now c.args.clock c.args.sources c.fused.ensures.valid.each_source can.not_too_many

can_spans : (c : goal.After-ok_or) → CanBeFused (length (spans_at c.args.self.now c.args.clock c.args.sources)) c.args.faulty
can_spans c = subst (λ (n : ℕ). CanBeFused n c.args.faulty) (sym (each_span c)) (c.in_ok-check_counts.ensures.taken.0 refl)

-- what was found, for so many sources
fused_spans : (c : goal.After-ok_or) → MatchOption c.fused.result (HasNoPossibleTime (spans_at c.args.self.now c.args.clock c.args.sources) c.args.faulty) (λ span. IsFusion (spans_at c.args.self.now c.args.clock c.args.sources) c.args.faulty span)
fused_spans c =
    let can : CanBeFused c.args.sources c.args.faulty = c.in_ok-check_counts.ensures.taken.0 refl in
    let enough : c.args.faulty < c.args.sources = omega (arith, can.enough) in
    c.fused.ensures.fused c.args.sources enough can.not_too_many c.requires.among

pub returns-clause-no_point : goal.returns-clause-no_point
returns-clause-no_point c =
    let spans = spans_at c.args.self.now c.args.clock c.args.sources in
    rw c.ok_or.ensures.value (subst (λ (n : ℕ). IsErrOf (ok_or c.fused.result NoPoint) NoPoint ↔ (CanBeFused n c.args.faulty × HasNoPossibleTime spans c.args.faulty)) (each_span c)
    (refused-none NoPoint spans c.args.faulty c.fused.result (can_spans c) (fused_spans c)))

pub returns-clause-answered : goal.returns-clause-answered
returns-clause-answered c =
    let spans = spans_at c.args.self.now c.args.clock c.args.sources in
    rw c.ok_or.ensures.value (subst (λ (n : ℕ). IsOk (ok_or c.fused.result NoPoint) ↔ (CanBeFused n c.args.faulty × ((x : ℕ) × IsPossibleTime spans c.args.faulty x))) (each_span c)
    (answered-some NoPoint spans c.args.faulty c.fused.result (can_spans c) (fused_spans c)))
