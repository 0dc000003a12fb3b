use Rattle.std.proofs.Common.{◌≡◌, ◌≤◌, ◌∙◌, ap, sym, subst}
use Rattle.crossbeam_utils.specs.Padded.{padded_value}
use Rattle.tt_history.specs.Chains.{number_word_of, shown_of}
use Rattle.tt_history.specs.Known.{HistoryNumber}
use Rattle.tt_history.proofs.Adding.{raises_moves}
use Rattle.tt_history.proofs.numbers.ShownNumber.raise.Goals as goal

pub compare_exchange-requires : goal.compare_exchange-requires
compare_exchange-requires g c =
    let word : c.deref-2.result.now ≡ number_word_of c.self.inside.seen.book = c.deref-2.ensures ∙ (ap padded_value c.deref.ensures ∙ c.self.invariant) in
    let offer = c.plain-offer.ensures in
    let pen = c.no_pen-pen.ensures in
    let book = sym (ap (λ w. w.book) word) in
    let known : c.args.number ≤ shown_of c.self.inside.seen.log = subst (λ (s : HistoryNumber). c.args.number ≤ s.number) (sym c.self.view_is) c.requires.known in (
      ap (λ w. w.tracked) word,
      book,
      pen.0 ∙ book,
      offer.0,
      rw (ap (λ w. w.key) word, pen.1, offer.3) (raises_moves c.self.inside.seen.log c.plain-offer.result.ask c.args.number known (ap (λ e. e.item) offer.1) (ap (λ e. e.shown) offer.1)),
    )
