use Rattle.std.proofs.Common.{arith}
use Rattle.tt_judge.proofs.TermSweeping.{swept-other_group, swept-other_rank}
use Rattle.tt_judge.proofs.terms.reach.Goals as goal
use Rattle.tt_judge.proofs.terms.reach.Goals.{then-key-leaders-via-then-key-leaders, then-key-leaders-via-else-key-leaders+then-key-leaders-2}

pub returns-then-key-leaders-clause-swept : goal.returns-then-key-leaders-clause-swept
returns-then-key-leaders-clause-swept c =
    swept-other_group c.args.rule c.args.commits.now c.requires.order c.args.place c.requires.inside c.args.leaders c.requires.swept c.key_of-key.result c.key_of-key.ensures
    (λ shard group. elim c.then-key-leaders.branch [
      | then-key-leaders-via-then-key-leaders w ↦ omega (arith, w.if-key-leaders.true, shard)
      | then-key-leaders-via-else-key-leaders+then-key-leaders-2 w ↦ omega (arith, w.if-key-leaders-2.true, group)
    ])

pub returns-then-key-leaders-3-clause-swept : goal.returns-then-key-leaders-3-clause-swept
returns-then-key-leaders-3-clause-swept c =
    swept-other_rank c.args.rule c.args.commits.now c.requires.order c.args.place c.requires.inside c.args.leaders c.requires.swept c.key_of-key.result c.key_of-key.ensures
    (omega (arith, c.if-key-leaders.false)) (omega (arith, c.if-key-leaders-2.false)) (λ same. omega (arith, c.if-key-leaders-3.true, same))
