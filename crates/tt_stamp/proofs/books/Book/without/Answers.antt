use Rattle.std.proofs.Common.{List, reverse, take, get_or, sym, subst}
use Rattle.tt_stamp.specs.History.{MayFollow}
use Rattle.tt_stamp.specs.declared.commits.Entry.{Entry}
use Rattle.tt_stamp.proofs.Forgetting.{MayFollow-without, legal-step, is_other_session}
use Rattle.tt_stamp.proofs.books.Book.without.Goals as goal

pub follow-requires : goal.follow-requires
follow-requires c =
    let entries = c.history-entry-items.result.now in
    let i = c.loop-entry.entry-index in
    let entry = get_or entries i _ in
    let step = legal-step c.args.self.now entries i _ c.history-entry-items.ensures.entries c.loop-entry-test.true c.history-entry-items.ensures.legal in
    subst (λ (past : List Entry). MayFollow past entry) (sym c.loop-entry.invariant)
    (MayFollow-without c.args.session (reverse (take i entries)) entry step.1 (is_other_session c.args.session entry c.session_of.result c.session_of.ensures c.if-session_of-session.true) step.0)
