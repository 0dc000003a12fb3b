use Rattle.tt_consistency.proofs.Cutting.{assumed-first, cut-runs, cut-holds, cut-meets, cut-timed, cut-leased, read-cut, session-cut, whole-cut, whole-in, cuts-consistent}
use Rattle.tt_consistency.proofs.LeastCuts.{cut-breaks, least-cut, least-there, told-split}
use Rattle.tt_consistency.proofs.cuts.cut_laws.Goals as goal

pub returns : goal.returns
returns g c = record {
  runs = cut-runs g.C.Clock.gives g.C.Clock.failed g.V.Presence.says;
  publications_hold = cut-holds g.C.Clock.gives g.C.Clock.failed g.V.Presence.says;
  publications_meet = cut-meets g.C.Clock.gives g.C.Clock.failed g.V.Presence.says;
  readings_hold = λ waits cut session is inside.
      cut-timed g.C.Clock.gives g.C.Clock.failed g.V.Presence.says waits cut is session inside;
  ordered = λ waits other_waits cut other_cut earlier later number stamp begun released other_number other_stamp other_begun is inside other_is other_inside committed begins order.
      c.order_laws.ensures.ordered earlier later number stamp begun released other_number other_stamp other_begun
      (cut-timed g.C.Clock.gives g.C.Clock.failed g.V.Presence.says waits cut is earlier inside)
      (cut-timed g.D.Clock.gives g.D.Clock.failed g.W.Presence.says other_waits other_cut other_is later other_inside) committed begins order;
  consistent = cuts-consistent g.C.Clock.gives g.C.Clock.failed g.V.Presence.says;
  leased = cut-leased g.C.Clock.gives g.C.Clock.failed g.V.Presence.says;
  sessions = session-cut g.C.Clock.gives g.C.Clock.failed g.V.Presence.says;
  there = least-there g.C.Clock.gives g.C.Clock.failed g.V.Presence.says;
  splits = told-split;
  least = least-cut g.C.Clock.gives g.C.Clock.failed g.V.Presence.says;
  unmet_breaks = cut-breaks g.C.Clock.gives g.C.Clock.failed g.V.Presence.says;
  no_more = assumed-first g.C.Clock.gives g.C.Clock.failed g.V.Presence.says;
  no_more_read = read-cut g.C.Clock.gives g.C.Clock.failed g.V.Presence.says;
  wholes = λ waits lived session times is served.
      (whole-cut g.C.Clock.gives g.C.Clock.failed g.V.Presence.says waits lived is, whole-in g.C.Clock.gives g.C.Clock.failed g.V.Presence.says waits lived session times is served);
}
