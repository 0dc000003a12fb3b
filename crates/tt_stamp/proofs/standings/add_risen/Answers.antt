use Rattle.std.proofs.Common.{ℕ, List, ◌==◌, cond, Some, ap, ◌∙◌, subst, sym, arith}
use Rattle.std.specs.Global.{Vec}
use Rattle.std.specs.List.{insert}
use Rattle.tt_stamp.specs.Standings.{IsKeyAt, GoesTo, at_key, risen_in}
use Rattle.tt_stamp.specs.declared.commits.Standing.{Standing}
use Rattle.tt_stamp.specs.declared.commits.Standing.TheVariants.{Waits}
use Rattle.tt_stamp.proofs.Ascending.{numbers_ascend, AreRisen-set, risen_in-kept, risen_in-set, AreRisen-insert, risen_in-insert, OnErr-from}
use Rattle.tt_stamp.proofs.Places.{if_ok}
use Rattle.tt_stamp.proofs.standings.add_risen.Goals as goal

pub find-requires : goal.find-requires
find-requires c = rw c.deref.ensures.value c.requires.sessions_ascend

pub is_above-requires : goal.is_above-requires
is_above-requires c =
    let at : IsKeyAt c.args.sessions.now.items c.from-session.result c.in-Some.place = subst (λ (es : List (ℕ × Vec (ℕ × Standing))). IsKeyAt es c.from-session.result c.in-Some.place) c.deref.ensures.value c.in-Some.ensures.found in
    rw c.deref-in-Some.ensures.value (numbers_ascend c.args.sessions.now.items c.in-Some.place c.index.result.now c.requires c.index.ensures at.within)

pub add_number-requires-clause-order : goal.add_number-requires-clause-order
add_number-requires-clause-order c =
    let at : IsKeyAt c.args.sessions.now.items c.from-session.result c.in-Some.place = subst (λ (es : List (ℕ × Vec (ℕ × Standing))). IsKeyAt es c.from-session.result c.in-Some.place) c.deref.ensures.value c.in-Some.ensures.found in
    numbers_ascend c.args.sessions.now.items c.in-Some.place c.index_mut.result.now c.requires c.index_mut.ensures.value at.within

pub returns-in_err-add_number-clause-order : goal.returns-in_err-add_number-clause-order
returns-in_err-add_number-clause-order c =
    let at : IsKeyAt c.args.sessions.now.items c.from-session.result c.in-Some.place = subst (λ (es : List (ℕ × Vec (ℕ × Standing))). IsKeyAt es c.from-session.result c.in-Some.place) c.deref.ensures.value c.in-Some.ensures.found in
    AreRisen-set c.args.sessions.now.items c.in-Some.place c.index_mut.result.now c.requires c.index_mut.ensures.value c.add_number.new.numbers at.within c.add_number.ensures.order

pub returns-in_err-add_number-clause-err : goal.returns-in_err-add_number-clause-err
returns-in_err-add_number-clause-err c =
    let at : IsKeyAt c.args.sessions.now.items c.args.id.session c.in-Some.place = subst (λ (es : List (ℕ × Vec (ℕ × Standing))). IsKeyAt es c.args.id.session c.in-Some.place) c.deref.ensures.value (subst (λ (s : ℕ). IsKeyAt c.deref.result.now s c.in-Some.place) c.from-session.ensures c.in-Some.ensures.found) in
    OnErr-from c.from_residual.result _ (risen_in-kept c.args.sessions.now.items c.in-Some.place c.index_mut.result.now c.requires c.index_mut.ensures.value c.add_number.new.numbers c.args.id at (λ m. ap (λ (es : List (ℕ × Standing)). at_key es m) c.in_err-add_number.ensures.err))

pub returns-in-Some-clause-order : goal.returns-in-Some-clause-order
returns-in-Some-clause-order c =
    let at : IsKeyAt c.args.sessions.now.items c.from-session.result c.in-Some.place = subst (λ (es : List (ℕ × Vec (ℕ × Standing))). IsKeyAt es c.from-session.result c.in-Some.place) c.deref.ensures.value c.in-Some.ensures.found in
    AreRisen-set c.args.sessions.now.items c.in-Some.place c.index_mut.result.now c.requires c.index_mut.ensures.value c.add_number.new.numbers at.within c.add_number.ensures.order

pub returns-in-Some-clause-ok : goal.returns-in-Some-clause-ok
returns-in-Some-clause-ok c =
    let at : IsKeyAt c.args.sessions.now.items c.args.id.session c.in-Some.place = subst (λ (es : List (ℕ × Vec (ℕ × Standing))). IsKeyAt es c.args.id.session c.in-Some.place) c.deref.ensures.value (subst (λ (s : ℕ). IsKeyAt c.deref.result.now s c.in-Some.place) c.from-session.ensures c.in-Some.ensures.found) in
    risen_in-set c.args.sessions.now.items c.in-Some.place c.index_mut.result.now c.requires c.index_mut.ensures.value c.add_number.new.numbers c.args.id at Waits c.in_ok-add_number.ensures.ok

pub place_for-requires : goal.place_for-requires
place_for-requires c = rw c.deref-2.ensures.value c.requires.sessions_ascend

pub insert-requires : goal.insert-requires
insert-requires c =
    let goes = subst (λ (es : List (ℕ × Vec (ℕ × Standing))). GoesTo es c.from-session.result c.in-Some-place_for.place) c.deref-2.ensures.value c.in-Some-place_for.ensures in
    omega (arith, goes.within, c.reserve.ensures.len)

pub returns-clause-order : goal.returns-clause-order
returns-clause-order c =
    let goes = subst (λ (es : List (ℕ × Vec (ℕ × Standing))). GoesTo es c.from-session.result c.in-Some-place_for.place) c.deref-2.ensures.value c.in-Some-place_for.ensures in
    let room = c.in_ok-reserve.ensures.ok in
    let items = if_ok c.insert.result _ _ _ (c.insert.ensures.succeeds (omega (arith, room))) c.insert.ensures.items ∙ ap (λ (es : List (ℕ × Vec (ℕ × Standing))). insert es c.in-Some-place_for.place (c.from-session.result, c.add_number-2.new.numbers)) c.reserve.ensures.items in
    let none = ap (λ (es : List (ℕ × Vec (ℕ × Standing))). at_key es c.from-session.result) (sym c.deref.ensures.value) ∙ c.in_default.ensures.none in
    rw items (AreRisen-insert c.args.sessions.now.items c.in-Some-place_for.place c.from-session.result c.add_number-2.new.numbers c.requires none goes c.add_number-2.ensures.order)

pub returns-clause-ok : goal.returns-clause-ok
returns-clause-ok c = λ other.
    let room = c.in_ok-reserve.ensures.ok in
    let items = if_ok c.insert.result _ _ _ (c.insert.ensures.succeeds (omega (arith, room))) c.insert.ensures.items ∙ ap (λ (es : List (ℕ × Vec (ℕ × Standing))). insert es c.in-Some-place_for.place (c.from-session.result, c.add_number-2.new.numbers)) c.reserve.ensures.items in
    let none = ap (λ (es : List (ℕ × Vec (ℕ × Standing))). at_key es c.from-session.result) (sym c.deref.ensures.value) ∙ c.in_default.ensures.none in
    let at = ap (λ (s : ℕ). insert c.args.sessions.now.items c.in-Some-place_for.place (s, c.add_number-2.new.numbers)) c.from-session.ensures in
    ap (λ (es : List (ℕ × Vec (ℕ × Standing))). risen_in es other) (items ∙ at)
    ∙ risen_in-insert c.args.sessions.now.items c.in-Some-place_for.place c.args.id c.add_number-2.new.numbers Waits (ap (at_key c.args.sessions.now.items) (sym c.from-session.ensures) ∙ none) (λ m. c.in_ok-add_number-2.ensures.ok m ∙ ap (λ (es : List (ℕ × Standing)). cond (c.args.id.number == m) (Some Waits) (at_key es m)) c.new-numbers.ensures.items) other
