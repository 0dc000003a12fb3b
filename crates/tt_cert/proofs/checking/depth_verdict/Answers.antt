use Rattle.std.proofs.Common.{◌≡◌, ℕ, Bool, List, inl, inr, refl, sym, subst, rules}
use Rattle.std.specs.Prelude.{Result, Err, IsTrue, ◌↔◌}
use Rattle.tt_span.specs.Interval.{Interval}
use Rattle.std.proofs.lemmas.Bool.{both_ways}
use Rattle.tt_cert.specs.declared.certificate.Stretch.{Stretch}
use Rattle.tt_cert.specs.declared.faults.CertFault.{CertFault}
use Rattle.tt_cert.specs.declared.faults.CertFault.TheVariants.{TooDeep}
use Rattle.tt_cert.specs.Valid.{AreShallow, NameDepths, IsDepthVerdict}
use Rattle.tt_cert.proofs.checking.depth_verdict.Goals as goal
use Rattle.tt_cert.proofs.checking.depth_verdict.Goals.{else-below_named-via-then-below_named+else-above_named, else-below_named-via-else-below_named}

pub returns-in_err-below_named : goal.returns-in_err-below_named
returns-in_err-below_named c =
    let spans = c.args.spans.now in
    let deep : AreShallow spans c.args.need c.args.certificate.now.below → ⊥ = subst (λ (xs : List Stretch). AreShallow spans c.args.need xs → ⊥) c.below.ensures.value (c.in_err-below_named.ensures.1) in
    let same : c.from_residual.result ≡ Err TooDeep = search rules in
    subst (λ (r : Result (Unit {0}) CertFault). IsDepthVerdict spans c.args.need c.args.certificate.now r) (sym same) (inl (refl, λ shallow. deep shallow.0))

pub returns-in_err-above_named : goal.returns-in_err-above_named
returns-in_err-above_named c =
    let spans = c.args.spans.now in
    let deep : AreShallow spans c.args.need c.args.certificate.now.above → ⊥ = subst (λ (xs : List Stretch). AreShallow spans c.args.need xs → ⊥) c.above.ensures.value (c.in_err-above_named.ensures.1) in
    let same : c.from_residual-in_err-above_named.result ≡ Err TooDeep = search rules in
    subst (λ (r : Result (Unit {0}) CertFault). IsDepthVerdict spans c.args.need c.args.certificate.now r) (sym same) (inl (refl, λ shallow. deep shallow.1))

-- what is known of stretches that are told so
abbrev AreJudged : List Interval → ℕ → Bool → List Stretch → Type 0
AreJudged spans need named xs = AreShallow spans need xs × (IsTrue named ↔ NameDepths spans xs)

pub returns-then-above_named : goal.returns-then-above_named
returns-then-above_named c =
    let below = subst (AreJudged c.args.spans.now c.args.need c.in_ok-below_named.below_named) c.below.ensures.value c.in_ok-below_named.ensures in
    let above = subst (AreJudged c.args.spans.now c.args.need c.in_ok-above_named.above_named) c.above.ensures.value c.in_ok-above_named.ensures in
    ((below.0, above.0), (below.1.0 c.if-below_named.true, above.1.0 c.if-above_named.true))

pub returns-else-below_named : goal.returns-else-below_named
returns-else-below_named c =
    let below = subst (AreJudged c.args.spans.now c.args.need c.in_ok-below_named.below_named) c.below.ensures.value c.in_ok-below_named.ensures in
    let above = subst (AreJudged c.args.spans.now c.args.need c.in_ok-above_named.above_named) c.above.ensures.value c.in_ok-above_named.ensures in
    inr (
      refl,
      (below.0, above.0),
      λ named.
          elim c.else-below_named.branch [
            | else-below_named-via-then-below_named+else-above_named w ↦ both_ways c.in_ok-above_named.above_named w.if-above_named.false (above.1.1 named.1)
            | else-below_named-via-else-below_named w ↦ both_ways c.in_ok-below_named.below_named w.if-below_named.false (below.1.1 named.0)
          ],
    )
