use Rattle.tt_report.proofs.limits.LogLimits.admit.Goals as goal
use Rattle.tt_report.proofs.Places.{kept-kinds}
use Rattle.tt_report.specs.Log.{kind_of}
use Rattle.tt_report.specs.Left.{of_kind}

pub returns-clause-stands : goal.returns-clause-stands
returns-clause-stands c past stands =
    let kind = kind_of c.args.line.event in
    kept-kinds past kind c.kind_of.result _ c.args.self.now.kinds _ _ c.kind_of.ensures.value stands (c.admit.ensures.stands (of_kind kind past))
