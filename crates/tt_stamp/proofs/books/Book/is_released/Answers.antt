use Rattle.std.proofs.Common.{◌≡◌, Option, Some, None, sym, ap, ◌∙◌}
use Rattle.std.proofs.lemmas.Option.{MatchOption-at_none, MatchOption-at_some}
use Rattle.tt_stamp.specs.declared.commits.Receipt.{Receipt}
use Rattle.tt_stamp.specs.declared.commits.Entry.{Entry}
use Rattle.tt_stamp.specs.declared.commits.Entry.TheVariants.{Passed}
use Rattle.tt_stamp.specs.declared.commits.Standing.TheVariants.{Waits}
use Rattle.tt_stamp.proofs.Histories.{SaysOf-receipt_of}
use Rattle.tt_stamp.proofs.Kept.{receipt_of-looked_up, IsReceiptKept-looked_up, IfNone-from}
use Rattle.tt_stamp.proofs.books.Book.is_released.Goals as goal

pub returns-in_err-place-clause-value : goal.returns-in_err-place-clause-value
returns-in_err-place-clause-value c =
    c.from_residual.ensures ∙ sym (receipt_of-looked_up c.self.inside c.args.self.now c.args.id None c.self.invariant c.self.view_is c.in_err-place.ensures tt)

pub returns-in_err-place-clause-none : goal.returns-in_err-place-clause-none
returns-in_err-place-clause-none c =
    let none = receipt_of-looked_up c.self.inside c.args.self.now c.args.id None c.self.invariant c.self.view_is c.in_err-place.ensures tt in
    IfNone-from c.from_residual.result _ (MatchOption-at_none _ _ none (SaysOf-receipt_of c.args.self.now c.args.id))

pub returns-in_default-clause-value : goal.returns-in_default-clause-value
returns-in_default-clause-value c =
    sym (receipt_of-looked_up c.self.inside c.args.self.now c.args.id (Some Waits) c.self.invariant c.self.view_is (ap (λ s. Some s) (sym c.in_default.is) ∙ c.in_ok-place.ensures) tt)

pub returns-in_default-clause-none : goal.returns-in_default-clause-none
returns-in_default-clause-none c =
    MatchOption-at_none _ _ (sym (returns-in_default-clause-value c)) (SaysOf-receipt_of c.args.self.now c.args.id)

pub index-requires : goal.index-requires
index-requires c =
    (IsReceiptKept-looked_up c.self.inside c.args.self.now c.args.id c.in-Released.place c.self.invariant c.self.view_is (ap (λ s. Some s) (sym c.in-Released.is) ∙ c.in_ok-place.ensures)).there

pub unreachable-requires : goal.unreachable-requires
unreachable-requires c =
    let kept = IsReceiptKept-looked_up c.self.inside c.args.self.now c.args.id c.in-Released.place c.self.invariant c.self.view_is (ap (λ s. Some s) (sym c.in-Released.is) ∙ c.in_ok-place.ensures) in
    c.in_default-index.not-Passed kept.receipt (c.index.ensures ∙ kept.is c.index.result.now)

same_passed : (r q : Receipt) → ◌≡◌ {A = Entry} (Passed r) (Passed q) → ◌≡◌ {A = Option Receipt} (Some r) (Some q)
same_passed r q e = cc

pub returns-clause-value : goal.returns-clause-value
returns-clause-value c =
    let kept = IsReceiptKept-looked_up c.self.inside c.args.self.now c.args.id c.in-Released.place c.self.invariant c.self.view_is (ap (λ s. Some s) (sym c.in-Released.is) ∙ c.in_ok-place.ensures) in
    same_passed c.in-Passed.receipt kept.receipt (sym c.in-Passed.is ∙ c.index.ensures ∙ kept.is c.index.result.now) ∙ sym kept.found

pub returns-clause-found : goal.returns-clause-found
returns-clause-found c =
    MatchOption-at_some _ _ c.in-Passed.receipt (sym (returns-clause-value c)) (SaysOf-receipt_of c.args.self.now c.args.id)
