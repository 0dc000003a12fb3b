use Rattle.std.proofs.Common.{ℕ, ◌==◌, List, Some, cond, is_some, ap, ◌∙◌, subst, sym}
use Rattle.tt_stamp.specs.Standings.{IsKeyAt, at_key}
use Rattle.tt_stamp.specs.declared.commits.Standing.{Standing}
use Rattle.tt_stamp.proofs.Ascending.{Ascends-set, at_key-set, at_key-here}
use Rattle.tt_stamp.proofs.standings.set_number.Goals as goal

pub returns-clause-order : goal.returns-clause-order
returns-clause-order c =
    let at : IsKeyAt c.args.numbers.now.items c.args.number c.in-Some.place = subst (λ (es : List (ℕ × Standing)). IsKeyAt es c.args.number c.in-Some.place) c.deref.ensures.value c.in-Some.ensures.found in
    Ascends-set c.args.numbers.now.items c.in-Some.place c.index_mut.result.now.0 c.args.standing c.index_mut.result.now c.requires at.within (ap (λ (e : ℕ × Standing). e.0) (sym c.index_mut.ensures.value))

pub returns-clause-there : goal.returns-clause-there
returns-clause-there c =
    let at : IsKeyAt c.args.numbers.now.items c.args.number c.in-Some.place = subst (λ (es : List (ℕ × Standing)). IsKeyAt es c.args.number c.in-Some.place) c.deref.ensures.value c.in-Some.ensures.found in
    sym (ap is_some (at_key-here c.args.numbers.now.items c.in-Some.place c.args.number c.index_mut.result.now c.requires at.within (at.is c.index_mut.result.now)))

pub returns-clause-standings : goal.returns-clause-standings
returns-clause-standings c = λ other.
    let at : IsKeyAt c.args.numbers.now.items c.args.number c.in-Some.place = subst (λ (es : List (ℕ × Standing)). IsKeyAt es c.args.number c.in-Some.place) c.deref.ensures.value c.in-Some.ensures.found in
    at_key-set c.args.numbers.now.items c.in-Some.place c.index_mut.result.now.0 c.args.standing c.index_mut.result.now other c.requires at.within (ap (λ (e : ℕ × Standing). e.0) (sym c.index_mut.ensures.value))
    ∙ ap (λ (n : ℕ). cond (n == other) (Some c.args.standing) (at_key c.args.numbers.now.items other)) (ap (λ (e : ℕ × Standing). e.0) c.index_mut.ensures.value ∙ at.is c.index_mut.result.now)
