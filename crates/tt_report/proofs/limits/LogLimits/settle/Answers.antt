use Rattle.tt_report.proofs.limits.LogLimits.settle.Goals as goal
use Rattle.tt_report.proofs.Places.{kept-kinds}
use Rattle.tt_report.specs.Log.{kind_of}
use Rattle.tt_report.specs.Left.{of_kind}

pub returns : goal.returns
returns c = record {
  stands = λ past stands. kept-kinds past (kind_of c.args.event) c.kind_of.result _ c.args.self.now.kinds _ _ c.kind_of.ensures.value stands (c.settle.ensures.stands (of_kind (kind_of c.args.event) past));
}
