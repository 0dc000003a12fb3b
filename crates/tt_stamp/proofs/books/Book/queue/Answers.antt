use Rattle.std.proofs.Common.{[], ◌∷◌, ◌++◌, subst, true, false, is_some, length, refl, sym, ap, ◌∙◌, arith}
use Rattle.std.specs.BTreeMap.{insert_entry}
use Rattle.std.specs.Ordering.{nat_cmp}
use Rattle.std.specs.List.{insert}
use Rattle.tt_stamp.specs.History.{waiting_of}
use Rattle.tt_stamp.specs.Book.{history_of, IsPlaceOf}
use Rattle.tt_stamp.specs.declared.commits.Entry.TheVariants.{Queued}
use Rattle.tt_stamp.proofs.Places.{if_ok}
use Rattle.tt_stamp.proofs.Histories.{MayQueue-from_tests, first_queue_fault-id, first_queue_fault-stamp, first_queue_fault-none}
use Rattle.tt_stamp.proofs.Kept.{has_id-looked_up, has_stamp-looked_up, IsBook-queued, on_ok}
use Rattle.tt_stamp.proofs.books.Book.queue.Goals as goal

pub returns-then-is_some-clause-fault : goal.returns-then-is_some-clause-fault
returns-then-is_some-clause-fault c =
    let there = has_id-looked_up c.self.inside c.args.self.now c.args.id _ true c.self.invariant c.self.view_is (c.is_some.ensures ∙ ap is_some c.get.ensures) c.if-is_some.true in
    rw (first_queue_fault-id c.args.self.now c.args.id c.args.stamp (omega arith) there) refl

pub returns-in_default-clause-fault : goal.returns-in_default-clause-fault
returns-in_default-clause-fault c =
    let new_id = has_id-looked_up c.self.inside c.args.self.now c.args.id _ false c.self.invariant c.self.view_is (c.is_some.ensures ∙ ap is_some c.get.ensures) c.if-is_some.false in
    let there = has_stamp-looked_up c.self.inside c.args.self.now c.args.stamp _ true c.self.invariant c.self.view_is c.deref.ensures.value c.in_default.ensures.there in
    rw (first_queue_fault-stamp c.args.self.now c.args.id c.args.stamp (omega arith) new_id there) refl

pub returns-then-is_err-clause-fault : goal.returns-then-is_err-clause-fault
returns-then-is_err-clause-fault c =
    let new_id = has_id-looked_up c.self.inside c.args.self.now c.args.id _ false c.self.invariant c.self.view_is (c.is_some.ensures ∙ ap is_some c.get.ensures) c.if-is_some.false in
    let new_stamp = has_stamp-looked_up c.self.inside c.args.self.now c.args.stamp _ false c.self.invariant c.self.view_is c.deref.ensures.value c.in-Some.ensures.new.new in
    rw (first_queue_fault-none c.args.self.now c.args.id c.args.stamp (omega arith) new_id new_stamp) refl

pub returns-then-is_err-2-clause-fault : goal.returns-then-is_err-2-clause-fault
returns-then-is_err-2-clause-fault c =
    let new_id = has_id-looked_up c.self.inside c.args.self.now c.args.id _ false c.self.invariant c.self.view_is (c.is_some.ensures ∙ ap is_some c.get.ensures) c.if-is_some.false in
    let new_stamp = has_stamp-looked_up c.self.inside c.args.self.now c.args.stamp _ false c.self.invariant c.self.view_is c.deref.ensures.value c.in-Some.ensures.new.new in
    rw (first_queue_fault-none c.args.self.now c.args.id c.args.stamp (omega arith) new_id new_stamp) refl

pub invariant_of-self-2 : goal.invariant_of-self-2
invariant_of-self-2 c =
    let new_id = has_id-looked_up c.self.inside (history_of c.self.inside) c.args.id _ false c.self.invariant refl (c.is_some.ensures ∙ ap is_some c.get.ensures) c.if-is_some.false in
    let new_stamp = has_stamp-looked_up c.self.inside (history_of c.self.inside) c.args.stamp _ false c.self.invariant refl c.deref.ensures.value c.in-Some.ensures.new.new in
    let room = on_ok c.make_room.result _ (sym c.is_err.ensures.value ∙ c.if-is_err.false) c.make_room.ensures.ok in
    let stands = on_ok c.add.result _ (sym c.is_err-2.ensures.value ∙ c.if-is_err-2.false) c.add.ensures.ok in
    let waiting = c.put_in_order.ensures.items ∙ ap (λ ws. insert_entry nat_cmp ws c.args.stamp c.args.id) c.make_room.ensures.same.1 in
    let may = MayQueue-from_tests (history_of c.self.inside) c.args.id c.args.stamp (omega (arith, ap (λ h. length (waiting_of h)) c.self.view_is)) new_id new_stamp in
    let items = c.push_reserved.ensures.items ∙ ap (λ xs. xs ++ Queued c.args.id c.args.stamp ∷ []) c.make_room.ensures.same.0 in
    let stamps = if_ok c.insert.result _ _ _ (c.insert.ensures.succeeds room.2) c.insert.ensures.items ∙ ap (λ ss. insert ss c.in-Some.place c.args.stamp) c.make_room.ensures.same.2 in
    let goes = subst (λ ss. IsPlaceOf ss c.args.stamp c.in-Some.place) c.deref.ensures.value c.in-Some.ensures.new in
    IsBook-queued c.self.inside _ c.args.id c.args.stamp c.in-Some.place c.self.invariant may items waiting c.add.ensures.order stands goes stamps (omega (arith, c.push_reserved.ensures.len, c.push_reserved.ensures.capacity, room.0, c.put_in_order.ensures.len))

pub returns-clause-fault : goal.returns-clause-fault
returns-clause-fault c =
    let new_id = has_id-looked_up c.self.inside c.args.self.now c.args.id _ false c.self.invariant c.self.view_is (c.is_some.ensures ∙ ap is_some c.get.ensures) c.if-is_some.false in
    let new_stamp = has_stamp-looked_up c.self.inside c.args.self.now c.args.stamp _ false c.self.invariant c.self.view_is c.deref.ensures.value c.in-Some.ensures.new.new in
    rw (first_queue_fault-none c.args.self.now c.args.id c.args.stamp (omega arith) new_id new_stamp) tt

pub returns-clause-may : goal.returns-clause-may
returns-clause-may c = λ ok.
    let new_id = has_id-looked_up c.self.inside c.args.self.now c.args.id _ false c.self.invariant c.self.view_is (c.is_some.ensures ∙ ap is_some c.get.ensures) c.if-is_some.false in
    let new_stamp = has_stamp-looked_up c.self.inside c.args.self.now c.args.stamp _ false c.self.invariant c.self.view_is c.deref.ensures.value c.in-Some.ensures.new.new in
    MayQueue-from_tests c.args.self.now c.args.id c.args.stamp (omega arith) new_id new_stamp
