use Rattle.std.proofs.Common.{ap, ◌∙◌}
use Rattle.tt_stamp.specs.Stamp.{greatest_of}
use Rattle.tt_stamp_rows.proofs.Table.{greatest_of-push}
use Rattle.tt_stamp_rows.proofs.tables.Table.begin.Goals as goal

pub invariant_of-self : goal.invariant_of-self
invariant_of-self c =
    ap greatest_of c.push.ensures.items
    ∙ greatest_of-push c.self.inside.given.items c.in-Ok.stamp
    ∙ c.in-Ok.ensures.greatest c.self.inside.given.items c.self.invariant
