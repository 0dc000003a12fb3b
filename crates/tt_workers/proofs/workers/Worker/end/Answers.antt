use Rattle.tt_workers.proofs.Working.{session-ends}
use Rattle.tt_workers.proofs.workers.Worker.end.Goals as goal

pub invariant_of-self : goal.invariant_of-self
invariant_of-self g c =
    let first = c.self.inside.first.value in
    record {
      is_there = c.self.invariant.is_there;
      worked = session-ends first _ c.self.inside.sessions c.try_remove.new.self c.args.place c.try_remove.ensures.updates c.self.invariant.worked;
    }
