use Rattle.std.proofs.Common.{subst}
use Rattle.slab.specs.Slab.{get}
use Rattle.tt_workers.specs.Worker.{WorkerState, HasWorked}
use Rattle.tt_workers.proofs.workers.Worker.law.Goals as goal

pub returns : goal.returns
returns g c = record { worked = subst (λ (w : WorkerState). HasWorked w.first w.post (get w.sessions)) c.self.view_is c.self.invariant.worked }
