use Rattle.tt_workers.proofs.Hearing.{same-on, sent-last, sent-on}
use Rattle.tt_workers.proofs.sessions.Session.perform.Goals as goal

pub returns-then-send-clause-on : goal.returns-then-send-clause-on
returns-then-send-clause-on g c = sent-on c.args.self.now c.args.post c.set_waits.new.self c.send.new.self c.set_waits.ensures.same c.send.ensures.same c.send.ensures.kept

pub returns-else-send-clause-over : goal.returns-else-send-clause-over
returns-else-send-clause-over g c = sent-last c.args.self.now c.args.post c.set_waits.new.self c.send.new.self c.set_waits.ensures.same c.send.ensures.same c.send.ensures.kept

pub returns-in_default-task-clause-on : goal.returns-in_default-task-clause-on
returns-in_default-task-clause-on g c = same-on c.args.self.now c.args.post c.set_waits.new.self c.set_waits.ensures.same
