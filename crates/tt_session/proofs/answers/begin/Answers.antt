use Rattle.tt_session.proofs.Releasing.{begins_released, begins_refused}
use Rattle.tt_session.proofs.answers.begin.Goals as goal

pub returns-in-Ok : goal.returns-in-Ok
returns-in-Ok g c =
    begins_released g.S.Service.allows _ _ _ c.args.waits c.args.number c.args.floor c.in-Ok.stamp c.args.last.now c.release.new.last c.release.result c.in-Ok.ensures c.release.ensures

pub returns-in-Err : goal.returns-in-Err
returns-in-Err g c =
    begins_refused g.S.Service.allows _ _ c.args.waits c.args.number c.args.floor c.in-Err.fault c.args.last.now c.in-Err.ensures
