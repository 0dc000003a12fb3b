use Rattle.std.proofs.Common.{◌≡◌, ◌≤◌, ◌∙◌, List, ap, sym, arith, length}
use Rattle.tt_daemon.specs.Publication.{Publication}
use Rattle.tt_publish.proofs.Beginnings.{longer_first, longer_second, longer_begins}
use Rattle.tt_publish.proofs.publications.Latest.learn.Goals as goal

pub returns-then-self-other-clause-longer : goal.returns-then-self-other-clause-longer
returns-then-self-other-clause-longer c =
    let xs : List Publication = c.self.inside.glance.items in
    let ys : List Publication = c.other.inside.glance.items in
    let new : List Publication = c.drop.inside.glance.items in
    let less : length xs ≤ length ys = omega (arith, c.self.invariant.0, c.other.invariant.0) in
    let same : new ≡ ys = ap (λ k. k.items) (c.drop.view_is ∙ (c.copied.ensures ∙ sym c.other.view_is)) in
    rw (← c.self.view_is, ← c.other.view_is) (longer_second xs ys new c.compare.ensures less same)

pub returns-then-self-other-clause-seen : goal.returns-then-self-other-clause-seen
returns-then-self-other-clause-seen c =
    longer_begins c.args.self.now.items c.args.other.now.items c.drop.inside.glance.items (returns-then-self-other-clause-longer c)

pub returns-else-self-other-clause-longer : goal.returns-else-self-other-clause-longer
returns-else-self-other-clause-longer c =
    let xs : List Publication = c.self.inside.glance.items in
    let ys : List Publication = c.other.inside.glance.items in
    let less : length ys ≤ length xs = omega (arith, c.self.invariant.0, c.other.invariant.0) in
    rw (← c.self.view_is, ← c.other.view_is) (longer_first xs ys c.compare.ensures less)
