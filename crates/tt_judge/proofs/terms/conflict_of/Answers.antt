use Rattle.std.proofs.Common.{Option, subst, arith}
use Rattle.tt_judge.specs.declared.history.ShardCommit.{ShardCommit}
use Rattle.tt_judge.specs.TermSweep.{IsEarlierInGroup, IsLeaderIfAny}
use Rattle.tt_judge.proofs.TermSweeping.{verdict-none, verdict-above, verdict-some}
use Rattle.tt_judge.proofs.terms.conflict_of.Goals as goal

pub returns-in-Some : goal.returns-in-Some
returns-in-Some c =
    let leads = subst (λ (e : Option ShardCommit). IsLeaderIfAny (IsEarlierInGroup c.args.rule c.args.leaders.key) c.args.commits.now c.args.place e) c.in-Some.is c.requires.swept.earlier in
    verdict-some c.args.rule c.args.commits.now c.requires.order c.args.place c.requires.inside c.args.leaders c.requires.swept c.requires.key c.in-Some.earlier leads
    (omega (arith, c.if-later-earlier.true))

pub returns-in_default : goal.returns-in_default
returns-in_default c =
    let leads = subst (λ (e : Option ShardCommit). IsLeaderIfAny (IsEarlierInGroup c.args.rule c.args.leaders.key) c.args.commits.now c.args.place e) c.in-Some.is c.requires.swept.earlier in
    verdict-above c.args.rule c.args.commits.now c.requires.order c.args.place c.requires.inside c.args.leaders c.requires.swept c.requires.key c.in-Some.earlier leads
    (omega (arith, c.if-later-earlier.false))

pub returns-in_default-2 : goal.returns-in_default-2
returns-in_default-2 c =
    let none = subst (λ (e : Option ShardCommit). IsLeaderIfAny (IsEarlierInGroup c.args.rule c.args.leaders.key) c.args.commits.now c.args.place e) c.in_default.is c.requires.swept.earlier in
    verdict-none c.args.rule c.args.commits.now c.requires.order c.args.place c.requires.inside c.args.leaders c.requires.swept c.requires.key none
