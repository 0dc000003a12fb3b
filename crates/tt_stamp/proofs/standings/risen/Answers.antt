use Rattle.std.proofs.Common.{ℕ, List, get_or, Some, Option, ap, ◌∙◌, subst, sym}
use Rattle.std.specs.Global.{Vec}
use Rattle.tt_stamp.specs.Standings.{IsKeyAt, at_key, stands_in}
use Rattle.tt_stamp.specs.declared.commits.Standing.{Standing}
use Rattle.tt_stamp.proofs.Ascending.{numbers_ascend, at_session, at_key-here}
use Rattle.tt_stamp.proofs.standings.risen.Goals as goal

pub returns-in_err-session : goal.returns-in_err-session
returns-in_err-session c =
    let none = ap (at_key c.args.sessions.now) (sym c.from.ensures) ∙ c.in_err-session.ensures.none in
    c.from_residual.ensures ∙ sym (ap (λ (o : Option (Vec (ℕ × Standing))). stands_in o c.args.id.number) none)

pub find-requires-2 : goal.find-requires-2
find-requires-2 c =
    rw (c.deref.ensures.value ∙ ap (λ (y : ℕ × Vec (ℕ × Standing)). y.1.items) (sym c.index-sessions-session.is)) (numbers_ascend c.args.sessions.now c.in_ok-session.session c.index-sessions-session.result c.requires c.index-sessions-session.is c.in_ok-session.ensures.found.within)

pub returns-in_err-number : goal.returns-in_err-number
returns-in_err-number c =
    let at : IsKeyAt c.args.sessions.now c.args.id.session c.in_ok-session.session = subst (λ (s : ℕ). IsKeyAt c.args.sessions.now s c.in_ok-session.session) c.from.ensures c.in_ok-session.ensures.found in
    let here = at_session c.args.sessions.now c.in_ok-session.session c.index-sessions-session.result c.requires c.index-sessions-session.is c.args.id.session at in
    let none = ap (λ (es : List (ℕ × Standing)). at_key es c.args.id.number) (sym (c.deref.ensures.value ∙ ap (λ (y : ℕ × Vec (ℕ × Standing)). y.1.items) (sym c.index-sessions-session.is))) ∙ c.in_err-number.ensures.none in
    c.from_residual-in_err-number.ensures ∙ sym (ap (λ (o : Option (Vec (ℕ × Standing))). stands_in o c.args.id.number) here ∙ none)

pub returns : goal.returns
returns c =
    let at : IsKeyAt c.args.sessions.now c.args.id.session c.in_ok-session.session = subst (λ (s : ℕ). IsKeyAt c.args.sessions.now s c.in_ok-session.session) c.from.ensures c.in_ok-session.ensures.found in
    let here = at_session c.args.sessions.now c.in_ok-session.session c.index-sessions-session.result c.requires c.index-sessions-session.is c.args.id.session at in
    let ascend = numbers_ascend c.args.sessions.now c.in_ok-session.session c.index-sessions-session.result c.requires c.index-sessions-session.is at.within in
    let place : IsKeyAt c.index-sessions-session.result.1.items c.args.id.number c.in_ok-number.number = subst (λ (es : List (ℕ × Standing)). IsKeyAt es c.args.id.number c.in_ok-number.number) (c.deref.ensures.value ∙ ap (λ (y : ℕ × Vec (ℕ × Standing)). y.1.items) (sym c.index-sessions-session.is)) c.in_ok-number.ensures.found in
    let value = at_key-here c.index-sessions-session.result.1.items c.in_ok-number.number c.args.id.number c.index.result.now ascend place.within (place.is c.index.result.now) in
    ap (λ (e : ℕ × Standing). Some e.1) c.index.ensures
    ∙ ap (λ (y : ℕ × Vec (ℕ × Standing)). Some ((get_or y.1.items c.in_ok-number.number c.index.result.now).1)) (sym c.index-sessions-session.is)
    ∙ sym (ap (λ (o : Option (Vec (ℕ × Standing))). stands_in o c.args.id.number) here ∙ value)
