use Rattle.std.proofs.Common.{Ok, Err}
use Rattle.tt_session.proofs.Releasing.{leases}
use Rattle.tt_session.proofs.answers.lease.Goals as goal

pub returns-in-Ok : goal.returns-in-Ok
returns-in-Ok g c = leases g.S.Service.allows _ _ c.args.lo c.args.hi (Ok tt) c.args.last.now c.in-Ok.ensures

pub returns-in-Err : goal.returns-in-Err
returns-in-Err g c = leases g.S.Service.allows _ _ c.args.lo c.args.hi (Err c.in-Err.fault) c.args.last.now c.in-Err.ensures
