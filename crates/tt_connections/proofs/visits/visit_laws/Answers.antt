use Rattle.std.proofs.Common.{refl}
use Rattle.tt_connections.proofs.Turning.{post-same, post-both}
use Rattle.tt_connections.proofs.Visiting.{stands_at-first, stands_at-later}
use Rattle.tt_connections.proofs.visits.visit_laws.Goals as goal

pub returns-clause-first : goal.returns-clause-first
returns-clause-first g c = λ waits client post. stands_at-first g.C.Clock.gives g.C.Clock.failed g.V.Presence.says waits client post

pub returns-clause-later : goal.returns-clause-later
returns-clause-later g c = λ waits client. stands_at-later g.C.Clock.gives g.C.Clock.failed g.V.Presence.says waits client

pub returns-clause-same : goal.returns-clause-same
returns-clause-same g c = λ post. post-same post post refl

pub returns-clause-both : goal.returns-clause-both
returns-clause-both g c = post-both
