use Rattle.std.proofs.Common.{◌≡◌, ◌+◌, ℕ, arith, ap, sym, subst, ◌∙◌}
use Rattle.std.specs.Prelude.{is_some}
use Rattle.std.specs.Int.{from_bool}
use Rattle.tt_judge.proofs.TermSweeping.{swept-none, AreConflictsSoFar, conflicts-none, conflicts-more, conflicts-whole}
use Rattle.tt_judge.proofs.terms.conflicts_in_order.Goals as goal

pub loop-place-init : goal.loop-place-init
loop-place-init c = record { swept = swept-none c.args.rule c.args.commits.now; judged = conflicts-none c.args.rule c.args.commits.now }

pub loop-place-preserved : goal.loop-place-preserved
loop-place-preserved c =
    let place = c.loop-place.place in
    let verdict = c.conflict_of-verdict.result in
    let tallied : c.from-count.result ≡ from_bool (is_some verdict) = c.from-count.ensures ∙ ap from_bool c.is_some.ensures in
    let more = conflicts-more c.args.rule c.args.commits.now place c.loop-place.count c.loop-place.first verdict c.sooner-first.result (omega arith)
    c.loop-place.invariant.judged c.conflict_of-verdict.ensures c.sooner-first.ensures in
    record {
      swept = c.pass-leaders.ensures.swept;
      judged = subst (λ (n : ℕ). AreConflictsSoFar c.args.rule c.args.commits.now (place + 1) (c.loop-place.count + n) c.sooner-first.result) (sym tallied) more;
    }

pub returns : goal.returns
returns c = conflicts-whole c.args.rule c.args.commits.now c.loop-place.count c.loop-place.first c.loop-place.place (omega arith) c.loop-place.invariant.judged
