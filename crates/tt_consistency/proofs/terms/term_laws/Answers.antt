use Rattle.tt_consistency.proofs.Terming.{grants-apart, grants-rise, terms-crossing, terms-judged, terms-rise}
use Rattle.tt_consistency.proofs.WorkedTerms.{worked}
use Rattle.tt_consistency.proofs.terms.term_laws.Goals as goal

pub returns : goal.returns
returns g c = record {
  terms = terms-rise g.C.Clock.gives g.C.Clock.failed g.V.Presence.says g.D.Clock.gives g.D.Clock.failed g.W.Presence.says;
  rising = grants-rise g.C.Clock.gives g.C.Clock.failed g.V.Presence.says g.D.Clock.gives g.D.Clock.failed g.W.Presence.says;
  apart = grants-apart g.C.Clock.gives g.C.Clock.failed g.V.Presence.says g.D.Clock.gives g.D.Clock.failed g.W.Presence.says;
  judged = terms-judged g.C.Clock.gives g.C.Clock.failed g.V.Presence.says;
  worked = worked g.C.Clock.gives g.C.Clock.failed g.V.Presence.says;
  crossing = terms-crossing g.C.Clock.gives g.C.Clock.failed g.V.Presence.says;
}
