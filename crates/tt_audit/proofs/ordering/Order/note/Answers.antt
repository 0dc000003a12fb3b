use Rattle.std.proofs.Common.{◌≡◌, ℕ, List, ◌∷◌, Option, ◌∙◌, ap, ap₂, sym}
use Rattle.std.proofs.Common.{subst₂}
use Rattle.tt_stamp.specs.declared.commits.Receipt.{Receipt}
use Rattle.tt_audit.specs.declared.ordering.Position.{Position}
use Rattle.tt_audit.specs.declared.ordering.Stamping.{Stamping}
use Rattle.tt_audit.specs.Violations.{receipts_in, asked_by}
use Rattle.tt_audit.specs.Ordering.{OrderState, KeepsOrder, highest_after, marks_after, is_stamping_reached}
use Rattle.tt_audit.proofs.Late.{KeepsOrder-noted, is_late-reached}
use Rattle.tt_audit.proofs.ordering.Order.note.Goals as goal

pub returns-clause-keeps : goal.returns-clause-keeps
returns-clause-keeps c = λ past keeps.
    let old = c.args.self.now in
    let event = c.args.event.now in
    let reply = c.args.reply.now in
    let inside : OrderState = record { released = c.self.inside.released; before = c.self.inside.before } in
    let opened : inside ≡ c.mark.new.self = c.self.view_is in
    let asked : c.mark.new.self ≡ record old { before = marks_after old.before (asked_by event.action reply) old.released } =
    c.mark.ensures ∙ ap (λ (o : Option Position). record { released = old.released; before = marks_after old.before o old.released }) c.asked_by.ensures in
    let risen : c.highest-self-inside.result ≡ highest_after old.released (receipts_in reply) =
    c.highest-self-inside.ensures
    ∙ ap₂ (λ (o : Option ℕ) (rs : List Receipt). highest_after o rs) (ap (λ (s : OrderState). s.released) (opened ∙ asked)) c.released_by.ensures in
    let P : Option ℕ → List (List (Option ℕ)) → Type 0 = λ o cells. KeepsOrder (record { event = event; reply = reply } ∷ past) (record { released = o; before = cells }) in
    subst₂ P (sym risen) (sym (ap (λ (s : OrderState). s.before) (opened ∙ asked))) (KeepsOrder-noted past old keeps event reply c.requires.asked)

pub returns-clause-late : goal.returns-clause-late
returns-clause-late c = λ past keeps.
    c.is_late-late.ensures
    ∙ ap (λ (o : Option Stamping). is_stamping_reached c.args.self.now.before o) c.stamped_by.ensures
    ∙ is_late-reached past c.args.self.now keeps _ c.requires.stamped
