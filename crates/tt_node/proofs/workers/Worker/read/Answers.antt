use Rattle.std.proofs.Common.{◌∙◌, ap, ◌++◌, ◌∷◌, []}
use Rattle.tt_node.specs.Working.GivesNone.{NotRead, FailedAfter}
use Rattle.tt_node.proofs.workers.Worker.read.Goals as goal

pub returns-clause-read : goal.returns-clause-read
returns-clause-read g c = rw (← c.self.view_is) (record {
  first = c.in_ok-before.before;
  last = c.in-Ok-show.after;
  clock = c.show.new.clock;
  later = c.now.new.clock;
  shown_first = c.in_ok-before.ensures.gave;
  looks = c.in-Ok.ensures.looks;
  shown_last = c.in-Ok-show.ensures.gave;
  noted = c.push_reserved.ensures.items ∙ ap (λ notes. notes ++ record { before = c.in_ok-before.before; after = c.in-Ok-show.after; reading = c.in-Ok.reading } ∷ []) c.reserve.ensures.items;
})

pub returns-in-Err-clause-refused : goal.returns-in-Err-clause-refused
returns-in-Err-clause-refused g c = rw (← c.self.view_is) (NotRead c.in_ok-before.before c.show.new.clock c.in-Err.fault c.number-in-Err.ensures c.in_ok-before.ensures.gave c.in-Err.ensures.looks)

pub returns-in-Err-show-clause-refused : goal.returns-in-Err-show-clause-refused
returns-in-Err-show-clause-refused g c =
    rw (← c.self.view_is) (FailedAfter c.in_ok-before.before c.show.new.clock c.now.new.clock c.in-Ok.reading c.in-Err-show.ensures.failed.0 c.in_ok-before.ensures.gave c.in-Ok.ensures.looks c.in-Err-show.ensures.failed.1 c.in-Err-show.ensures.failed.2)
