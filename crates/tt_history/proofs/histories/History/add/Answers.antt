use Rattle.std.proofs.Common.{◌≡◌, ◌∙◌, Some, ap, sym}
use Rattle.tt_history.specs.Chains.{pen_of, word_of}
use Rattle.tt_history.proofs.Adding.{adds_moves}
use Rattle.tt_history.proofs.histories.History.add.Goals as goal

pub compare_exchange-requires : goal.compare_exchange-requires
compare_exchange-requires g c =
    let kept = c.self.invariant in
    let offer = c.plain-offer.ensures in
    let book = sym (ap (λ w. w.book) kept.0) in
    let v = c.self.inside.seen.log in
    let asks : c.plain-offer.result.ask.item ≡ Some c.args.item.now = ap (λ w. w.item) offer.1 in
    let none : c.plain-offer.result.ask.shown ≡ 0 = ap (λ w. w.shown) offer.1 in
    let key : c.self.inside.pen.nib.key ≡ pen_of c.plain-offer.result.ask.chain v = kept.3 ∙ ap (λ w. pen_of w.chain v) (sym offer.1) in (
      ap (λ w. w.tracked) kept.0,
      book,
      kept.1 ∙ book,
      offer.0,
      rw (ap (λ w. w.key) kept.0, offer.3) (adds_moves v c.plain-offer.result.ask c.self.inside.pen.nib c.args.item.now asks none kept.2 key),
    )

pub invariant_of-self : goal.invariant_of-self
invariant_of-self g c =
    let kept = c.self.invariant in
    let offer = c.plain-offer.ensures in
    let next = c.new_pen-next.ensures in
    let step = c.compare_exchange.ensures in
    let log = c.compare_exchange.new.seen.log in
    let asks : c.plain-offer.result.ask.item ≡ Some c.args.item.now = ap (λ w. w.item) offer.1 in
    let told = step.7 c.args.item.now asks in (
      kept.0 ∙ ap word_of (sym step.0),
      next.book.1 ∙ (ap (λ s. s.book) c.again-looked.ensures ∙ sym step.0),
      next.right,
      sym (ap (λ w. pen_of w.chain log) (sym offer.1) ∙ (told.1 ∙ ap (λ w. w.next) offer.1)),
    )
