use Rattle.tt_rounds.proofs.Leading.{Reports-made}
use Rattle.tt_rounds.proofs.rounds.daemon_rounds.Goals as goal

pub returns-clause-course : goal.returns-clause-course
returns-clause-course g c =
    let (tally, reports, did) = c.report_rounds.ensures.course in
    (tally, Reports-made g.C.Clock.gives g.L.Link.does _ _ _ _ _ _ _ _ _ _ _ reports, did)
