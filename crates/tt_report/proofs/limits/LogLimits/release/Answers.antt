use Rattle.std.proofs.Common.{refl, rules}
use Rattle.std.proofs.lemmas.Option.{slice_get-get_or}
use Rattle.tt_report.proofs.limits.LogLimits.release.Goals as goal
use Rattle.tt_report.proofs.Places.{kept-kinds}
use Rattle.tt_report.specs.Left.{of_kind}

pub returns-clause-says : goal.returns-clause-says
returns-clause-says c past stands = c.release.ensures.says (of_kind c.args.kind past) (stands c.args.kind _ (slice_get-get_or c.args.self.now.kinds c.args.kind _ (search rules)))

pub returns-clause-stands : goal.returns-clause-stands
returns-clause-stands c past stands =
    kept-kinds past c.args.kind c.args.kind _ c.args.self.now.kinds _ _ refl stands (c.release.ensures.stands (of_kind c.args.kind past))
