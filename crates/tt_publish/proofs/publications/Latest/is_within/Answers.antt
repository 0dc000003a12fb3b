use Rattle.tt_publish.proofs.Beginnings.{begins_by}
use Rattle.tt_publish.proofs.publications.Latest.is_within.Goals as goal

pub returns : goal.returns
returns c =
    rw (← c.self.view_is, ← c.other.view_is) (begins_by c.self.inside.glance.items c.other.inside.glance.items c.self.inside.number c.other.inside.number c.self.invariant.0 c.other.invariant.0 c.compare.ensures)
