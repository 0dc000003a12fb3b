use Rattle.std.proofs.Common.{◌≡◌, ◌++◌, ◌∙◌, List, length, reverse, drop, ap, sym}
use Rattle.tt_stamp.specs.History.{waiting_of, release_of, with_receipts}
use Rattle.tt_stamp.specs.declared.commits.Entry.{Entry}
use Rattle.tt_node.proofs.SharedBooks.{receipts_behind, receipts_longer}
use Rattle.tt_node.proofs.shared_books.Kept.release.Goals as goal

pub add_behind-requires : goal.add_behind-requires
add_behind-requires g c =
    let past : List Entry = c.self.inside.book in
    let rs = release_of (waiting_of past) c.args.reading.now.lo in
    let now : c.history.result.now ≡ reverse (with_receipts rs past) = c.history.ensures.entries ∙ ap reverse c.release.ensures.receipts in
    rw (now, c.history-before.ensures.entries) (receipts_longer rs past)

pub invariant_of-self : goal.invariant_of-self
invariant_of-self g c =
    let past : List Entry = c.self.inside.book in
    let rs = release_of (waiting_of past) c.args.reading.now.lo in
    let kept = c.self.invariant in
    let now : c.history.result.now ≡ reverse (with_receipts rs past) = c.history.ensures.entries ∙ ap reverse c.release.ensures.receipts in
    let before : length c.history-before.result.now ≡ length (reverse past) = ap length c.history-before.ensures.entries in
    let items : c.self.inside.history.items ++ drop (length c.history-before.result.now) c.history.result.now ≡ reverse (with_receipts rs past) =
    rw (before, now, kept.1) (receipts_behind rs past) in (
      ap (λ k. k.source) c.add_behind.ensures ∙ kept.0,
      ap (λ k. k.items) c.add_behind.ensures ∙ (items ∙ sym (ap reverse c.release.ensures.receipts)),
    )
