-- A try that did not fail was done, and one that failed has its cause.
use Rattle.tt_sharing.proofs.Closing.{kept_is, no_number, told_is, was_caused, was_done}
use Rattle.tt_sharing.proofs.sharing.Sharing.put.Goals as goal

pub returns-clause-written : goal.returns-clause-written
returns-clause-written g c = λ b.
    let done = was_done c.write.result c.number_in-failed.result c.is_none.result c.number_in-failed.ensures c.is_none.ensures b c.write.ensures.written in
    let none = no_number c.write.result c.number_in-failed.result c.is_none.result c.number_in-failed.ensures c.is_none.ensures b in (
      done.0,
      done.1,
      done.2,
      done.3,
      kept_is c.args.self.now c.write.new.self c.settle-event.new.self done.1 c.args.span c.number_in-failed.result c.args.poll c.args.now c.settle-event.ensures.kept done.4 none,
      told_is c.args.self.now c.write.new.self done.1 c.args.span c.number_in-failed.result c.settle-event.result c.settle-event.ensures.told done.4 none,
    )

pub returns-clause-cause : goal.returns-clause-cause
returns-clause-cause g c = λ b due before e.
    was_caused c.write.result c.number_in-failed.result c.is_none.result c.number_in-failed.ensures c.is_none.ensures b (c.write.ensures.cause before e)
