use Rattle.tt_history.proofs.Adding.{shown_more}
use Rattle.tt_history.proofs.numbers.ShownNumber.look.Goals as goal

pub returns-clause-rises : goal.returns-clause-rises
returns-clause-rises g c = rw (← c.self.view_is) (shown_more c.self.inside.seen.log c.load.new.seen.log c.load.ensures.5)
