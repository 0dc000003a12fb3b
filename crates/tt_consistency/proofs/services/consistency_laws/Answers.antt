use Rattle.tt_consistency.proofs.Serving.{served-timed, seen-timed}
use Rattle.tt_consistency.proofs.services.consistency_laws.Goals as goal

pub returns : goal.returns
returns g c = record {
  ordered = λ machine other_machine earlier later number stamp begun released other_number other_stamp other_begun running served other_running other_served.
      c.order_laws.ensures.ordered earlier later number stamp begun released other_number other_stamp other_begun
      (served-timed g.C.Clock.gives g.C.Clock.failed g.V.Presence.says machine running earlier served)
      (served-timed g.D.Clock.gives g.D.Clock.failed g.W.Presence.says other_machine other_running later other_served);
  consistent = λ machines history running seen.
      c.order_laws.ensures.consistent history (seen-timed g.C.Clock.gives g.C.Clock.failed g.V.Presence.says machines history running seen);
}
