use Rattle.std.proofs.Common.{◌∷◌, ap, sym, ◌∙◌, subst}
use Rattle.tt_stamp.specs.History.{MayFollow, IsNextReceipt}
use Rattle.tt_stamp.specs.declared.commits.Entry.{Entry}
use Rattle.tt_stamp.specs.declared.commits.Entry.TheVariants.{Passed}
use Rattle.tt_stamp.specs.declared.commits.Receipt.{Receipt}
use Rattle.tt_stamp.proofs.Forgetting.{IsNextReceipt-one, some-next}
use Rattle.tt_stamp.proofs.books.Book.follow.Goals as goal

pub pass-requires : goal.pass-requires
pass-requires c =
    let next : IsNextReceipt c.args.self.now c.in-Passed.receipt = subst (λ (e : Entry). MayFollow c.args.self.now e) c.in-Passed.is c.requires in
    some-next c.args.self.now c.in-Passed.receipt next

pub returns-in-Passed-clause-ok : goal.returns-in-Passed-clause-ok
returns-in-Passed-clause-ok c =
    let next : IsNextReceipt c.args.self.now c.in-Passed.receipt = subst (λ (e : Entry). MayFollow c.args.self.now e) c.in-Passed.is c.requires in
    let (other, earliest, may, is) = c.pass.ensures.next in
    is ∙ ap (λ (r : Receipt). Passed r ∷ c.args.self.now) (IsNextReceipt-one c.args.self.now other c.in-Passed.receipt may next earliest) ∙ ap (λ (e : Entry). e ∷ c.args.self.now) (sym c.in-Passed.is)
