use Rattle.std.proofs.Common.{subst, ◌∙◌}
use Rattle.tt_stamp_rows.specs.Table.{Commits, IsBound}
use Rattle.tt_stamp_rows.proofs.Table.{watermark-by, same_commits}
use Rattle.tt_stamp_rows.proofs.tables.Table.watermark.Goals as goal

pub returns : goal.returns
returns c =
    watermark-by c.args.self.now c.args.earliest c.bound_of.result c.checked_sub.result
    (subst (λ (commits : Commits). IsBound commits c.args.earliest c.bound_of.result)
    (same_commits c.as_slice.result.now c.self.inside.given.items c.as_slice-2.result.now c.self.inside.ended.items c.as_slice.ensures.value c.as_slice-2.ensures.value ∙ c.self.view_is)
    c.bound_of.ensures)
    c.checked_sub.ensures
