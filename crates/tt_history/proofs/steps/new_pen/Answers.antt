use Rattle.std.proofs.Common.{ap, sym, ◌∙◌}
use Rattle.tt_history.proofs.Adding.{begins_moves}
use Rattle.tt_history.proofs.steps.new_pen.Goals as goal

pub compare_exchange-requires : goal.compare_exchange-requires
compare_exchange-requires g c =
    let h = c.requires in
    let offer = c.plain-offer.ensures in
    let pen = c.no_pen-pen.ensures in
    let book = sym (ap (λ w. w.book) h) in (
      ap (λ w. w.tracked) h,
      book,
      pen.0 ∙ book,
      offer.0,
      rw (ap (λ w. w.key) h, pen.1, offer.3) (begins_moves c.args.seen.now.log c.plain-offer.result.ask),
    )
