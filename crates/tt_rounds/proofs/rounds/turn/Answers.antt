use Rattle.std.proofs.Common.{◌≡◌, Err}
use Rattle.std.proofs.lemmas.Result.{err_from_is_err_and}
use Rattle.tt_rounds.proofs.Leading.{turn-broke, turn-nothing, turn-unread, turn-taken, turn-refused}
use Rattle.tt_rounds.specs.declared.faults.NodeFault.TheVariants.{LinkFailed, ClockFailed}
use Rattle.tt_rounds.proofs.rounds.turn.Goals as goal

pub returns-in_err-source-clause-course : goal.returns-in_err-source-clause-course
returns-in_err-source-clause-course g c = λ items.
    let p = err_from_is_err_and c.from_residual.result c.from_residual.ensures.1 in
    let e : c.from_residual.result ≡ Err LinkFailed = cc (p.1, p.2, c.in_err-source.ensures.fault) in
    rw e (turn-broke g.C.Clock.gives g.L.Link.does _ _ _ _ items _ _ c.in_err-source.ensures.did)

pub returns-in_default-clause-course : goal.returns-in_default-clause-course
returns-in_default-clause-course g c = λ items.
    turn-nothing g.C.Clock.gives g.L.Link.does _ _ _ _ items _ _ (rw c.in_default.is at c.in_ok-source.ensures.did)

pub returns-in_err-now-clause-course : goal.returns-in_err-now-clause-course
returns-in_err-now-clause-course g c = λ items.
    let p = err_from_is_err_and c.from_residual-in_err-now.result c.from_residual-in_err-now.ensures.1 in
    let e : c.from_residual-in_err-now.result ≡ Err ClockFailed = cc (p.1, p.2, c.in_err-now.ensures.fault) in
    rw e (turn-unread g.C.Clock.gives g.L.Link.does _ _ _ _ _ items _ _ _ (rw c.in-Some.is at c.in_ok-source.ensures.did) c.in_err-now.ensures.failed)

pub returns-in-Ok-clause-course : goal.returns-in-Ok-clause-course
returns-in-Ok-clause-course g c = λ items.
    turn-taken g.C.Clock.gives g.L.Link.does _ _ _ _ _ _ items _ _ _ _ _ (rw c.in-Some.is at c.in_ok-source.ensures.did) c.in_ok-now.ensures.gave c.in-Ok.ensures.taken c.in-Ok.ensures.keeps_config c.accept.ensures

pub returns-in-Err-clause-course : goal.returns-in-Err-clause-course
returns-in-Err-clause-course g c = λ items.
    rw c.refuse_packet.ensures (turn-refused g.C.Clock.gives g.L.Link.does _ _ _ _ _ _ items _ _ _ _ _ _ (rw c.in-Some.is at c.in_ok-source.ensures.did) c.in_ok-now.ensures.gave c.in-Err.ensures.refused c.in-Err.ensures.unchanged c.refuse.ensures)

pub returns-in_err-source-clause-rounds_fault : goal.returns-in_err-source-clause-rounds_fault
returns-in_err-source-clause-rounds_fault g c =
    let p = err_from_is_err_and c.from_residual.result c.from_residual.ensures.1 in
    let e : c.from_residual.result ≡ Err LinkFailed = cc (p.1, p.2, c.in_err-source.ensures.fault) in
    rw e tt

pub returns-in_err-now-clause-rounds_fault : goal.returns-in_err-now-clause-rounds_fault
returns-in_err-now-clause-rounds_fault g c =
    let p = err_from_is_err_and c.from_residual-in_err-now.result c.from_residual-in_err-now.ensures.1 in
    let e : c.from_residual-in_err-now.result ≡ Err ClockFailed = cc (p.1, p.2, c.in_err-now.ensures.fault) in
    rw e tt
