use Rattle.std.proofs.Common.{rules}
use Rattle.tt_live.specs.Running.{IsNodeOf}
use Rattle.tt_live.proofs.Running.{run_is}
use Rattle.tt_live.proofs.lives.run.Goals as goal

pub returns-clause-run : goal.returns-clause-run
returns-clause-run g c =
    let is : IsNodeOf c.args.live.now c.args.config c.in_ok-end.end = search rules in
    run_is c.args.live.now c.args.config c.in_ok-end.end c.end_of.result is c.end_of.ensures.tells
