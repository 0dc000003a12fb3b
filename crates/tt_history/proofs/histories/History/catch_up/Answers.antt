use Rattle.std.proofs.Common.{◌≡◌, ◌∙◌, ℕ, ap, sym, subst}
use mathlib.Core.List.{IsPrefix}
use Rattle.tt_history.specs.Chains.{chain_of, items_of, pen_of, word_of}
use Rattle.tt_history.proofs.Adding.{looks_moves, items_prefix}
use Rattle.tt_history.proofs.Prefixes.{prefix_trans}
use Rattle.tt_history.proofs.histories.History.catch_up.Goals as goal

pub compare_exchange-requires : goal.compare_exchange-requires
compare_exchange-requires g c =
    let kept = c.self.invariant in
    let offer = c.plain-offer.ensures in
    let book = sym (ap (λ w. w.book) kept.0) in (
      ap (λ w. w.tracked) kept.0,
      c.learn.ensures.0 ∙ book,
      kept.1 ∙ book,
      offer.0,
      rw (ap (λ w. w.key) kept.0, offer.3) (looks_moves c.learn.new.self.log c.plain-offer.result.ask c.self.inside.pen.nib kept.2),
    )

pub invariant_of-self : goal.invariant_of-self
invariant_of-self g c =
    let kept = c.self.invariant in
    let offer = c.plain-offer.ensures in
    let step = c.compare_exchange.ensures in
    let log = c.compare_exchange.new.seen.log in
    let chained : c.plain-offer.result.ask.chain ≡ chain_of c.self.inside.first.log = ap (λ w. w.chain) offer.1 in
    let key : c.self.inside.pen.nib.key ≡ pen_of c.plain-offer.result.ask.chain c.self.inside.seen.log = kept.3 ∙ ap (λ k. pen_of k c.self.inside.seen.log) (sym chained) in
    let told = step.7.1 c.self.inside.seen.log c.learn.ensures.2 key in
    let book : c.compare_exchange.new.seen.book ≡ c.self.inside.seen.book = step.0 ∙ c.learn.ensures.0 in (
      kept.0 ∙ ap word_of (sym book),
      step.5 ∙ (kept.1 ∙ sym book),
      ap (λ n. n.right) step.7.0 ∙ kept.2,
      ap (λ n. n.key) step.7.0 ∙ sym (ap (λ k. pen_of k log) (sym chained) ∙ told.1),
    )

pub returns-clause-same : goal.returns-clause-same
returns-clause-same g c =
    let kept = c.self.invariant in
    let offer = c.plain-offer.ensures in
    let step = c.compare_exchange.ensures in
    let log = c.compare_exchange.new.seen.log in
    let chain : ℕ = chain_of c.self.inside.first.log in
    let chained : c.plain-offer.result.ask.chain ≡ chain = ap (λ w. w.chain) offer.1 in
    let key : c.self.inside.pen.nib.key ≡ pen_of c.plain-offer.result.ask.chain c.self.inside.seen.log = kept.3 ∙ ap (λ k. pen_of k c.self.inside.seen.log) (sym chained) in
    let told = step.7.1 c.self.inside.seen.log c.learn.ensures.2 key in
    let book : c.compare_exchange.new.seen.book ≡ c.self.inside.seen.book = step.0 ∙ c.learn.ensures.0 in
    let past : items_of chain log ≡ items_of chain c.self.inside.seen.log = subst (λ k. items_of k log ≡ items_of k c.self.inside.seen.log) chained told.0 in
    ap (λ b. record { source = record { book = b; chain = chain }; items = items_of chain log }) book
    ∙ (ap (λ p. record { source = record { book = c.self.inside.seen.book; chain = chain }; items = p }) past ∙ c.self.view_is)

pub returns-clause-begins : goal.returns-clause-begins
returns-clause-begins g c =
    let log = c.compare_exchange.new.seen.log in
    let mine : ℕ = chain_of c.self.inside.first.log in
    let theirs : ℕ = chain_of c.other.inside.first.log in
    let one : theirs ≡ mine = ap (λ k. k.source.chain) c.other.view_is ∙ (ap (λ s. s.chain) c.requires ∙ sym (ap (λ k. k.source.chain) c.self.view_is)) in
    let before : IsPrefix c.other.inside.seen.log log = prefix_trans c.other.inside.seen.log c.learn.new.self.log log c.learn.ensures.3 c.compare_exchange.ensures.6 in
    let begins : IsPrefix (items_of theirs c.other.inside.seen.log) (items_of mine log) = subst (λ (k : ℕ). IsPrefix (items_of k c.other.inside.seen.log) (items_of mine log)) (sym one) (items_prefix mine c.other.inside.seen.log log before) in
    subst (λ p. IsPrefix p (items_of mine log)) (ap (λ k. k.items) c.other.view_is) begins
