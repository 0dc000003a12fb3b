use Rattle.tt_judge.proofs.TermSweeping.{swept-pass}
use Rattle.tt_judge.proofs.terms.pass.Goals as goal

pub returns : goal.returns
returns c = record {
  swept = swept-pass c.args.rule c.args.commits.now c.requires.order c.args.place c.requires.inside c.args.leaders c.requires.swept c.requires.key c.exceeding.result c.exceeding.ensures;
}
