use Rattle.tt_workers.proofs.Working.{session-begins}
use Rattle.tt_workers.proofs.workers.Worker.begin.Goals as goal

pub invariant_of-self : goal.invariant_of-self
invariant_of-self g c =
    let said = c.insert.ensures in
    let first = c.self.inside.first.value in
    record {
      is_there = c.self.invariant.is_there;
      worked =
          session-begins first _ c.self.inside.sessions c.insert.new.self c.args.session c.insert.result c.requires.is_new said.was_vacant said.updates said.err
          c.self.invariant.worked;
    }
