use Rattle.tt_consistency.proofs.Judging.{stamps-ordered, seen-consistent, within-consistent}
use Rattle.tt_consistency.proofs.orders.order_laws.Goals as goal

pub returns : goal.returns
returns g c = record {
  ordered = stamps-ordered g.C.Clock.gives g.C.Clock.failed g.V.Presence.says g.D.Clock.gives g.D.Clock.failed g.W.Presence.says;
  consistent = seen-consistent g.C.Clock.gives g.C.Clock.failed g.V.Presence.says;
  consistent_within = within-consistent;
}
