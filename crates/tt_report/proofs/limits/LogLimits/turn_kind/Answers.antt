use Rattle.tt_report.proofs.limits.LogLimits.turn_kind.Goals as goal
use Rattle.tt_report.proofs.Places.{turned-kinds}
use Rattle.tt_report.specs.Left.{of_kind}

pub returns : goal.returns
returns c = record {
  stands = λ past stands.
      turned-kinds past c.args.kind c.in-Some.kind c.args.self.now.kinds _ _ c.in-Some.is stands (c.turn.ensures.stands (of_kind c.in-Some.kind past));
}
