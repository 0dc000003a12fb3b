use Rattle.std.proofs.Common.{ap}
use Rattle.tt_node.proofs.Running.{first-rounds}
use Rattle.tt_node.proofs.nodes.first_rounds.Goals as goal

pub returns-clause-runs : goal.returns-clause-runs
returns-clause-runs g c =
    first-rounds g.C.Clock.gives g.C.Clock.failed g.L.Link.does g.L.Link.failed _ _ _ _ _ _ _ _ _ _ _ _ c.requires.nothing (ap (λ told. told.items) c.tell.ensures)
    c.daemon_rounds-did.ensures.course c.daemon_rounds-did.ensures.grew c.daemon_rounds-did.ensures.done c.daemon_rounds-did.ensures.few
    c.daemon_rounds-did.ensures.link_fails c.daemon_rounds-did.ensures.clock_fails c.daemon_rounds-did.ensures.rounds_fault
