use Rattle.std.proofs.Common.{length, ap, ◌∙◌}
use Rattle.tt_stamp.specs.History.{waiting_of, release_of}
use Rattle.tt_stamp.specs.Book.{history_of}
use Rattle.tt_stamp.proofs.InOrder.{length-release_of-divided, IsNonDecreasingBy-waiting_of}
use Rattle.tt_stamp.proofs.books.Book.releasable.Goals as goal

pub count_below-requires : goal.count_below-requires
count_below-requires c =
    IsNonDecreasingBy-waiting_of (history_of c.self.inside) c.self.inside.waiting.items c.self.invariant.waits

pub returns : goal.returns
returns c = record {
  value =
      length-release_of-divided c.self.inside.waiting.items c.earliest.result c.count_below.result c.count_below.ensures.within c.count_below.ensures.divided
      ∙ ap (λ waiting. length (release_of waiting c.earliest.result)) (c.self.invariant.waits ∙ ap waiting_of c.self.view_is)
      ∙ ap (λ earliest. length (release_of (waiting_of c.args.self.now) earliest)) c.earliest.ensures.value;
}
