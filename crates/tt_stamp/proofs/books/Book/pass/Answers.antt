use Rattle.std.proofs.Common.{◌<◌, List, ◌∷◌, length, slice_get, reverse, is_some, sym, ap, subst, ◌∙◌, refl, arith}
use Rattle.tt_stamp.specs.History.{waiting_of, release_of}
use Rattle.tt_stamp.specs.Book.{history_of}
use Rattle.tt_stamp.specs.declared.commits.Receipt.{Receipt}
use Rattle.tt_stamp.specs.declared.commits.Entry.{Entry}
use Rattle.tt_stamp.specs.declared.commits.Entry.TheVariants.{Passed}
use Rattle.tt_stamp.proofs.Histories.{Ascends-waiting_of, has_id-waits, is_some-standing_of}
use Rattle.tt_stamp.proofs.Releases.{receipt_for, sure-first, release_of-first_sure, IsNextReceipt-first, IsReleaseTurn-next}
use Rattle.tt_stamp.proofs.Kept.{IsBook-passed, reverse-push}
use Rattle.tt_stamp.proofs.books.Book.pass.Goals as goal

pub set-requires-clause-there : goal.set-requires-clause-there
set-requires-clause-there c =
    let past = history_of c.self.inside in
    let first = ap (λ es. slice_get es 0) (sym c.self.invariant.waits ∙ c.in-Some.ensures.items) in
    let some = subst (λ (h : List Entry). 0 < length (release_of (waiting_of h) c.args.earliest)) (sym c.self.view_is) c.requires in
    let sure = sure-first (waiting_of past) c.args.earliest _ (Ascends-waiting_of past) first some in
    let next = IsNextReceipt-first past _ c.args.earliest first sure in
    ap is_some (c.self.invariant.stands c.in-Some.id) ∙ is_some-standing_of past c.self.invariant.legal c.in-Some.id ∙ has_id-waits past c.in-Some.stamp c.in-Some.id next.waits

pub invariant_of-self : goal.invariant_of-self
invariant_of-self c =
    let past = history_of c.self.inside in
    let first = ap (λ es. slice_get es 0) (sym c.self.invariant.waits ∙ c.in-Some.ensures.items) in
    let some = subst (λ (h : List Entry). 0 < length (release_of (waiting_of h) c.args.earliest)) (sym c.self.view_is) c.requires in
    let sure = sure-first (waiting_of past) c.args.earliest _ (Ascends-waiting_of past) first some in
    let next = IsNextReceipt-first past _ c.args.earliest first sure in
    IsBook-passed c.self.inside _ (receipt_for c.args.earliest (c.in-Some.stamp, c.in-Some.id)) (c.in-Some.stamp, c.in-Some.id) c.len-place.result c.self.invariant next c.push_reserved.ensures.items c.in-Some.ensures.items c.set.ensures.order c.set.ensures.standings c.len-place.ensures refl (omega (arith, c.push_reserved.ensures.len, c.push_reserved.ensures.capacity, c.self.invariant.room, ap length c.in-Some.ensures.items))

pub returns-clause-turn : goal.returns-clause-turn
returns-clause-turn c =
    let past = c.args.self.now in
    let first = ap (λ es. slice_get es 0) (sym (c.self.invariant.waits ∙ ap waiting_of c.self.view_is) ∙ c.in-Some.ensures.items) in
    let sure = sure-first (waiting_of past) c.args.earliest _ (Ascends-waiting_of past) first c.requires in
    let next = IsNextReceipt-first past _ c.args.earliest first sure in
    let receipt : Receipt = receipt_for c.args.earliest (c.in-Some.stamp, c.in-Some.id) in
    IsReleaseTurn-next past _ c.args.earliest receipt (ap reverse c.push_reserved.ensures.items ∙ reverse-push c.self.inside.history.items (Passed receipt) ∙ ap (λ (h : List Entry). Passed receipt ∷ h) c.self.view_is) next (sym (release_of-first_sure (waiting_of past) c.args.earliest _ first sure))

pub returns-clause-next : goal.returns-clause-next
returns-clause-next c =
    let past = c.args.self.now in
    let first = ap (λ es. slice_get es 0) (sym (c.self.invariant.waits ∙ ap waiting_of c.self.view_is) ∙ c.in-Some.ensures.items) in
    let sure = sure-first (waiting_of past) c.args.earliest _ (Ascends-waiting_of past) first c.requires in
    let receipt : Receipt = receipt_for c.args.earliest (c.in-Some.stamp, c.in-Some.id) in (
      receipt,
      refl,
      IsNextReceipt-first past _ c.args.earliest first sure,
      ap reverse c.push_reserved.ensures.items ∙ reverse-push c.self.inside.history.items (Passed receipt) ∙ ap (λ (h : List Entry). Passed receipt ∷ h) c.self.view_is,
    )
