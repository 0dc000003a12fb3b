use Rattle.std.proofs.Common.{◌≡◌, Err}
use Rattle.std.proofs.lemmas.Result.{err_from_is_err_and}
use Rattle.tt_rounds.specs.Fusing.{fusions_in}
use Rattle.tt_rounds.specs.declared.faults.NodeFault.TheVariants.{ClockFailed}
use Rattle.tt_rounds.proofs.Leading.{round-unsent, round-unpolled, round-polled, turns-ended, turns-unread, turns-fused}
use Rattle.tt_rounds.proofs.Fusings.{device-ends}
use Rattle.tt_rounds.proofs.rounds.round.Goals as goal

pub returns-in_err-sent-clause-course : goal.returns-in_err-sent-clause-course
returns-in_err-sent-clause-course g c =
    let p = err_from_is_err_and c.from_residual.result c.from_residual.ensures.1 in
    let e : c.from_residual.result ≡ Err ClockFailed = cc (p.1, p.2, c.in_err-sent.ensures.fault) in
    rw e (round-unsent g.C.Clock.gives g.L.Link.does _ _ _ _ _ _ _ c.begin.ensures.begins c.in_err-sent.ensures.failed)

pub returns-in_err-poll_all-clause-course : goal.returns-in_err-poll_all-clause-course
returns-in_err-poll_all-clause-course g c =
    let p = err_from_is_err_and c.from_residual-in_err-poll_all.result c.from_residual-in_err-poll_all.ensures.1 in
    let e : c.from_residual-in_err-poll_all.result ≡ Err c.in_err-poll_all.field-0.0 = cc (p.1, p.2) in
    rw e (round-unpolled g.C.Clock.gives g.L.Link.does _ _ _ _ _ _ _ _ _ _ _ _ c.begin.ensures.begins c.in_ok-sent.ensures.gave
    (c.in_err-poll_all.ensures.course (fusions_in c.args.teller.now.items)))

pub returns-in_err-all_turns-clause-course : goal.returns-in_err-all_turns-clause-course
returns-in_err-all_turns-clause-course g c =
    let p = err_from_is_err_and c.from_residual-in_err-all_turns.result c.from_residual-in_err-all_turns.ensures.1 in
    let e : c.from_residual-in_err-all_turns.result ≡ Err c.in_err-all_turns.field-0.0 = cc (p.1, p.2) in
    rw e (round-polled g.C.Clock.gives g.L.Link.does _ _ _ _ _ _ _ _ _ _ _ _ _ _ _ _ c.begin.ensures.begins c.in_ok-sent.ensures.gave
    (c.in_ok-poll_all.ensures.course (fusions_in c.args.teller.now.items))
    (turns-ended g.C.Clock.gives g.L.Link.does _ _ _ _ _ _ _ _ _ _ (c.in_err-all_turns.ensures.course (fusions_in c.args.teller.now.items))))

pub returns-in_err-now-clause-course : goal.returns-in_err-now-clause-course
returns-in_err-now-clause-course g c =
    let p = err_from_is_err_and c.from_residual-in_err-now.result c.from_residual-in_err-now.ensures.1 in
    let e : c.from_residual-in_err-now.result ≡ Err ClockFailed = cc (p.1, p.2, c.in_err-now.ensures.fault) in
    rw e (round-polled g.C.Clock.gives g.L.Link.does _ _ _ _ _ _ _ _ _ _ _ _ _ _ _ _ c.begin.ensures.begins c.in_ok-sent.ensures.gave
    (c.in_ok-poll_all.ensures.course (fusions_in c.args.teller.now.items))
    (turns-unread g.C.Clock.gives g.L.Link.does _ _ _ _ _ _ _ _ _ _ (c.in_ok-all_turns.ensures.course (fusions_in c.args.teller.now.items)) c.in_err-now.ensures.failed))

pub returns-clause-course : goal.returns-clause-course
returns-clause-course g c =
    round-polled g.C.Clock.gives g.L.Link.does _ _ _ _ _ _ _ _ _ _ _ _ _ _ _ _ c.begin.ensures.begins c.in_ok-sent.ensures.gave
    (c.in_ok-poll_all.ensures.course (fusions_in c.args.teller.now.items))
    (turns-fused g.C.Clock.gives g.L.Link.does _ _ _ _ _ _ _ _ _ _ _ _ _ _ (c.in_ok-all_turns.ensures.course (fusions_in c.args.teller.now.items)) c.in_ok-now.ensures.gave c.fuse.ensures.course)

pub returns-in_err-sent-clause-rounds_fault : goal.returns-in_err-sent-clause-rounds_fault
returns-in_err-sent-clause-rounds_fault g c =
    let p = err_from_is_err_and c.from_residual.result c.from_residual.ensures.1 in
    let e : c.from_residual.result ≡ Err ClockFailed = cc (p.1, p.2, c.in_err-sent.ensures.fault) in
    rw e tt

pub returns-in_err-poll_all-clause-rounds_fault : goal.returns-in_err-poll_all-clause-rounds_fault
returns-in_err-poll_all-clause-rounds_fault g c =
    let p = err_from_is_err_and c.from_residual-in_err-poll_all.result c.from_residual-in_err-poll_all.ensures.1 in
    let e : c.from_residual-in_err-poll_all.result ≡ Err c.in_err-poll_all.field-0.0 = cc (p.1, p.2) in
    rw e (device-ends _ _ c.in_err-poll_all.ensures.rounds_fault)

pub returns-in_err-all_turns-clause-rounds_fault : goal.returns-in_err-all_turns-clause-rounds_fault
returns-in_err-all_turns-clause-rounds_fault g c =
    let p = err_from_is_err_and c.from_residual-in_err-all_turns.result c.from_residual-in_err-all_turns.ensures.1 in
    let e : c.from_residual-in_err-all_turns.result ≡ Err c.in_err-all_turns.field-0.0 = cc (p.1, p.2) in
    rw e (device-ends _ _ c.in_err-all_turns.ensures.rounds_fault)

pub returns-in_err-now-clause-rounds_fault : goal.returns-in_err-now-clause-rounds_fault
returns-in_err-now-clause-rounds_fault g c =
    let p = err_from_is_err_and c.from_residual-in_err-now.result c.from_residual-in_err-now.ensures.1 in
    let e : c.from_residual-in_err-now.result ≡ Err ClockFailed = cc (p.1, p.2, c.in_err-now.ensures.fault) in
    rw e tt
