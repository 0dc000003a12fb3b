use Rattle.std.proofs.Common.{arith, refl}
use Rattle.tt_rounds.proofs.Scheduling.{counted-course, counted-done, told-counts}
use Rattle.tt_rounds.proofs.rounds.report_rounds.Goals as goal

pub returns-clause-course : goal.returns-clause-course
returns-clause-course g c =
    let (rounds, tally, reports, did, lets) = c.rounds_with-reported.ensures.course in
    (tally, counted-course g.C.Clock.gives g.L.Link.does _ _ _ _ _ _ _ _ _ _ _ _ _ _ _ refl (omega arith) did lets c.rounds_with-reported.ensures.scheduled reports, told-counts _ _ _ did)

pub returns-clause-done : goal.returns-clause-done
returns-clause-done g c = counted-done _ _ _ _ refl (omega arith) c.rounds_with-reported.ensures.scheduled
