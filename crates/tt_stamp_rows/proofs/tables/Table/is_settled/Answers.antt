use Rattle.std.proofs.Common.{subst, ◌∙◌, ◌↔◌, IsTrue}
use Rattle.tt_stamp_rows.specs.Table.{Commits, IsSettled}
use Rattle.tt_stamp_rows.proofs.Table.{same_commits}
use Rattle.tt_stamp_rows.proofs.tables.Table.is_settled.Goals as goal

pub returns : goal.returns
returns c =
    subst (λ (commits : Commits). IsTrue c.are_settled.result ↔ IsSettled commits c.args.t)
    (same_commits c.as_slice.result.now c.self.inside.given.items c.as_slice-2.result.now c.self.inside.ended.items c.as_slice.ensures.value c.as_slice-2.ensures.value ∙ c.self.view_is)
    c.are_settled.ensures
