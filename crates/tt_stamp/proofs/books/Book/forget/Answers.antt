use Rattle.std.proofs.Common.{◌≡◌, List, sym, ap, subst, ◌∙◌, ℕ}
use Rattle.std.proofs.lemmas.Bool.{false≢true}
use Rattle.tt_stamp.specs.History.{waiting_of, receipt_of, IsLegalHistory}
use Rattle.tt_stamp.specs.Forgetting.{HasSession}
use Rattle.tt_stamp.specs.declared.commits.Entry.{Entry}
use Rattle.tt_stamp.specs.declared.commits.Id.{Id}
use Rattle.tt_stamp.proofs.Forgetting.{waiting_of-kept, receipt_of-without}
use Rattle.tt_stamp.proofs.books.Book.forget.Goals as goal

pub returns-clause-waiting : goal.returns-clause-waiting
returns-clause-waiting c =
    let legal : IsLegalHistory c.args.self.now = subst IsLegalHistory c.self.view_is c.self.invariant.legal in
    let waits : c.self.inside.waiting.items ≡ waiting_of c.args.self.now = c.self.invariant.waits ∙ ap waiting_of c.self.view_is in
    ap waiting_of (c.drop.view_is ∙ c.in_ok-kept.ensures.ok)
    ∙ waiting_of-kept c.args.session c.args.self.now legal
    (λ there. false≢true (sym c.if-has_session.false ∙ c.has_session.ensures.1 (subst (λ (commits : List (ℕ × Id)). HasSession commits c.args.session) (sym waits) there)))

pub returns-clause-receipts : goal.returns-clause-receipts
returns-clause-receipts c = λ id apart.
    ap (λ (h : List Entry). receipt_of h id) (c.drop.view_is ∙ c.in_ok-kept.ensures.ok) ∙ receipt_of-without c.args.session c.args.self.now id apart
