use Rattle.std.proofs.Common.{◌≡◌, ℕ, ◌+◌, Option, length, subst, sym, refl, arith, take, ap, ◌∙◌}
use Rattle.std.specs.Prelude.{count_by, is_some}
use Rattle.std.specs.Int.{from_bool}
use Rattle.tt_judge.specs.declared.judging.Violation.{Violation}
use Rattle.tt_judge.specs.Order.{IsGreatestIfAny}
use Rattle.tt_judge.specs.Sweep.{IsFirstSoFar}
use Rattle.tt_judge.proofs.Sweeping.{IsJudged, IsJudged-none, IsJudged-more, violations-whole, first-whole, entry_fails}
use Rattle.tt_judge.proofs.judging.judge_in_order.Goals as goal

pub loop-arrival-init : goal.loop-arrival-init
loop-arrival-init c = IsJudged-none c.args.commits.now c.args.arrivals.now c.args.endings.now

pub pass-passed-requires-clause-before : goal.pass-passed-requires-clause-before
pass-passed-requires-clause-before c = λ place among. c.loop-arrival.invariant.before place among c.loop-arrival.arrival-index (omega arith) (omega arith)

pub violation_of-violation-requires-clause-inside : goal.violation_of-violation-requires-clause-inside
violation_of-violation-requires-clause-inside c = c.requires.arrivals.inside c.loop-arrival.arrival-index (omega arith)

pub violation_of-violation-requires-clause-greatest : goal.violation_of-violation-requires-clause-greatest
violation_of-violation-requires-clause-greatest c =
    subst (λ (t : ℕ). IsGreatestIfAny c.args.commits.now t c.pass-passed.result.greatest) (c.requires.arrivals.timed c.loop-arrival.arrival-index (omega arith)) c.pass-passed.ensures.greatest

pub loop-arrival-preserved : goal.loop-arrival-preserved
loop-arrival-preserved c =
    let history = c.args.commits.now in
    let arrivals = c.args.arrivals.now in
    let endings = c.args.endings.now in
    let index = c.loop-arrival.arrival-index in
    let count = c.pass-passed.result.count in
    let greatest = c.pass-passed.result.greatest in
    let verdict = c.violation_of-violation.result in
    let made = IsJudged-more history arrivals endings c.requires.arrivals index c.loop-arrival.passed.count c.loop-arrival.violations count c.loop-arrival.passed.greatest greatest
    c.loop-arrival.first verdict _ (omega arith) refl c.loop-arrival.invariant c.pass-passed.ensures.passed c.pass-passed.ensures.before c.violation_of-violation.ensures in
    let tallied : c.from-violations.result ≡ from_bool (is_some verdict) = c.from-violations.ensures ∙ ap from_bool c.is_some.ensures in
    subst (λ (n : ℕ). IsJudged history arrivals endings (index + 1) count greatest (c.loop-arrival.violations + n) c.or-first.result) (sym tallied)
    (subst (λ (f : Option Violation). IsJudged history arrivals endings (index + 1) count greatest (c.loop-arrival.violations + from_bool (is_some verdict)) f) (sym c.or-first.ensures) made)

pub returns-clause-violations : goal.returns-clause-violations
returns-clause-violations c =
    let history = c.args.commits.now in
    let arrivals = c.args.arrivals.now in
    let at_end : c.loop-arrival.arrival-index ≡ length arrivals = omega arith in
    violations-whole history arrivals c.args.endings.now c.requires.arrivals c.loop-arrival.violations
    (subst (λ (n : ℕ). c.loop-arrival.violations ≡ count_by (entry_fails history) (take n arrivals)) at_end c.loop-arrival.invariant.counted)

pub returns-clause-first : goal.returns-clause-first
returns-clause-first c =
    let history = c.args.commits.now in
    let arrivals = c.args.arrivals.now in
    let at_end : c.loop-arrival.arrival-index ≡ length arrivals = omega arith in
    first-whole history arrivals c.args.endings.now c.requires.arrivals c.loop-arrival.first
    (subst (λ (n : ℕ). IsFirstSoFar history arrivals n c.loop-arrival.first) at_end c.loop-arrival.invariant.found)
