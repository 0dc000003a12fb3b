use Rattle.tt_consistency.proofs.Leasing.{leases-apart, session-leased, session-machine, session-outside}
use Rattle.tt_consistency.proofs.orders.lease_laws.Goals as goal

pub returns-clause-leased : goal.returns-clause-leased
returns-clause-leased g c = session-leased g.C.Clock.gives g.C.Clock.failed g.V.Presence.says

pub returns-clause-apart : goal.returns-clause-apart
returns-clause-apart g c = leases-apart g.C.Clock.gives g.C.Clock.failed g.V.Presence.says g.D.Clock.gives g.D.Clock.failed g.W.Presence.says

pub returns-clause-machine : goal.returns-clause-machine
returns-clause-machine g c = session-machine g.C.Clock.gives g.C.Clock.failed g.V.Presence.says

pub returns-clause-stampers : goal.returns-clause-stampers
returns-clause-stampers g c = session-outside g.C.Clock.gives g.C.Clock.failed g.V.Presence.says
