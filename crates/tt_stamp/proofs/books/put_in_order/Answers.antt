use Rattle.std.proofs.Common.{◌∙◌, arith}
use Rattle.tt_stamp.proofs.InOrder.{insert-new, IsNonDecreasingBy-waiting_of}
use Rattle.tt_stamp.proofs.Kept.{on_succeeded}
use Rattle.tt_stamp.proofs.books.put_in_order.Goals as goal

pub count_below-place-requires : goal.count_below-place-requires
count_below-place-requires c = IsNonDecreasingBy-waiting_of c.requires.order.0 c.args.waiting.now.items c.requires.order.1

pub insert-requires : goal.insert-requires
insert-requires c = omega (arith, c.count_below-place.ensures.within)

pub returns-clause-items : goal.returns-clause-items
returns-clause-items c =
    on_succeeded c.insert.result _ c.insert.ensures.full c.requires.room c.insert.ensures.items
    ∙ insert-new c.requires.order.0 c.args.waiting.now.items c.count_below-place.result c.args.stamp c.args.id c.requires.order.1 c.requires.order.2 c.count_below-place.ensures.within c.count_below-place.ensures.divided

pub returns-clause-len : goal.returns-clause-len
returns-clause-len c = on_succeeded c.insert.result _ c.insert.ensures.full c.requires.room c.insert.ensures.len
