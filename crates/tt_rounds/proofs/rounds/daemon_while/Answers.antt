use Rattle.tt_rounds.proofs.Leading.{Reports-made}
use Rattle.tt_rounds.proofs.rounds.daemon_while.Goals as goal

pub returns-clause-course : goal.returns-clause-course
returns-clause-course g c =
    let (rounds, tally, reports, did, lets) = c.rounds_with.ensures.course in
    (rounds, tally, Reports-made g.C.Clock.gives g.L.Link.does _ _ _ _ _ _ _ _ _ _ _ reports, did, lets)
