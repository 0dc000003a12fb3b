use Rattle.std.proofs.Common.{ℕ, List, Option, is_some, ap, ◌∙◌, subst, sym}
use Rattle.std.specs.Global.{Vec}
use Rattle.tt_stamp.specs.Standings.{IsKeyAt, at_key, stands_in}
use Rattle.tt_stamp.specs.declared.commits.Standing.{Standing}
use Rattle.tt_stamp.proofs.Ascending.{numbers_ascend, at_session, AreRisen-set, risen_in-set_if}
use Rattle.tt_stamp.proofs.standings.set_risen.Goals as goal

pub find-requires : goal.find-requires
find-requires c = rw c.deref.ensures.value c.requires.sessions_ascend

pub set_number-requires : goal.set_number-requires
set_number-requires c =
    let at : IsKeyAt c.args.sessions.now.items c.args.id.session c.in-Some.place = subst (λ (es : List (ℕ × Vec (ℕ × Standing))). IsKeyAt es c.args.id.session c.in-Some.place) c.deref.ensures.value (subst (λ (s : ℕ). IsKeyAt c.deref.result.now s c.in-Some.place) c.from.ensures c.in-Some.ensures.found) in
    numbers_ascend c.args.sessions.now.items c.in-Some.place c.index_mut.result.now c.requires c.index_mut.ensures.value at.within

pub returns-in-Some-clause-order : goal.returns-in-Some-clause-order
returns-in-Some-clause-order c =
    let at : IsKeyAt c.args.sessions.now.items c.args.id.session c.in-Some.place = subst (λ (es : List (ℕ × Vec (ℕ × Standing))). IsKeyAt es c.args.id.session c.in-Some.place) c.deref.ensures.value (subst (λ (s : ℕ). IsKeyAt c.deref.result.now s c.in-Some.place) c.from.ensures c.in-Some.ensures.found) in
    AreRisen-set c.args.sessions.now.items c.in-Some.place c.index_mut.result.now c.requires c.index_mut.ensures.value c.set_number.new.numbers at.within c.set_number.ensures.order

pub returns-in-Some-clause-there : goal.returns-in-Some-clause-there
returns-in-Some-clause-there c =
    let at : IsKeyAt c.args.sessions.now.items c.args.id.session c.in-Some.place = subst (λ (es : List (ℕ × Vec (ℕ × Standing))). IsKeyAt es c.args.id.session c.in-Some.place) c.deref.ensures.value (subst (λ (s : ℕ). IsKeyAt c.deref.result.now s c.in-Some.place) c.from.ensures c.in-Some.ensures.found) in
    let here = at_session c.args.sessions.now.items c.in-Some.place c.index_mut.result.now c.requires c.index_mut.ensures.value c.args.id.session at in
    c.set_number.ensures.there ∙ sym (ap (λ (o : Option (Vec (ℕ × Standing))). is_some (stands_in o c.args.id.number)) here)

pub returns-in-Some-clause-standings : goal.returns-in-Some-clause-standings
returns-in-Some-clause-standings c =
    let at : IsKeyAt c.args.sessions.now.items c.args.id.session c.in-Some.place = subst (λ (es : List (ℕ × Vec (ℕ × Standing))). IsKeyAt es c.args.id.session c.in-Some.place) c.deref.ensures.value (subst (λ (s : ℕ). IsKeyAt c.deref.result.now s c.in-Some.place) c.from.ensures c.in-Some.ensures.found) in
    risen_in-set_if c.args.sessions.now.items c.in-Some.place c.index_mut.result.now c.requires c.index_mut.ensures.value c.set_number.new.numbers c.args.id at c.set_number.result c.args.standing c.set_number.ensures.standings

pub returns-in-None-clause-there : goal.returns-in-None-clause-there
returns-in-None-clause-there c =
    let none = ap (λ (es : List (ℕ × Vec (ℕ × Standing))). at_key es c.args.id.session) (sym c.deref.ensures.value) ∙ ap (at_key c.deref.result.now) (sym c.from.ensures) ∙ c.in-None.ensures.none in
    sym (ap (λ (o : Option (Vec (ℕ × Standing))). is_some (stands_in o c.args.id.number)) none)
