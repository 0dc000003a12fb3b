use Rattle.std.proofs.Common.{◌≡◌, ◌∙◌, reverse, ap}
use Rattle.tt_node.proofs.SharedBooks.{earlier_by}
use Rattle.tt_node.proofs.shared_books.Kept.queue.Goals as goal

pub returns-clause-earlier : goal.returns-clause-earlier
returns-clause-earlier g c =
    let is : c.catch_up.new.self.items ≡ reverse c.self.inside.book = ap (λ k. k.items) c.catch_up.ensures.same ∙ c.self.invariant.1 in
    rw (← c.self.view_is, ← c.view.view_is) (earlier_by c.view.inside.glance.items c.catch_up.new.self.items c.self.inside.book c.catch_up.ensures.begins is)
