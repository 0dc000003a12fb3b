use Rattle.std.proofs.Common.{◌≡◌, List, length, reverse, [], Option, subst, sym, ◌∙◌, ap, arith}
use Rattle.tt_world.specs.declared.events.Event.{Event}
use Rattle.tt_world.specs.declared.events.Reply.{Reply}
use Rattle.tt_world.specs.Reply.{replies_from}
use Rattle.tt_world.specs.Assumptions.{NoBreach}
use Rattle.tt_world.specs.Headline.{ReadingsHold, ExternallyConsistent}
use Rattle.tt_audit.specs.declared.reports.Broken.{Broken}
use Rattle.tt_audit.specs.Breaking.{IsFirstBreach}
use Rattle.tt_audit.proofs.Following.{length-replies_from, all-placed}
use Rattle.tt_audit.proofs.Releasing.{released-few}
use Rattle.tt_audit.proofs.Keeping.{none-wrong, none-late}
use Rattle.tt_audit.proofs.audits.audit_in.Goals as goal

pub released-requires : goal.released-requires
released-requires c =
    let configs = c.args.configs.now in
    let events = c.args.events.now in
    let are = c.replies-replies.ensures ∙ c.requires.replies in
    let long = ap (λ (rs : List Reply). length rs) are ∙ length-replies_from configs [] events in
    let few = released-few configs events c.replies-replies.result.now are long (record { few = c.requires.few; valid = c.requires.configurations }) (λ past life. c.run_laws.ensures.legal_books configs past life) in
    omega (arith, few)

pub violations-requires-clause-long : goal.violations-requires-clause-long
violations-requires-clause-long c =
    ap (λ (rs : List Reply). length rs) (c.replies-replies.ensures ∙ c.requires.replies) ∙ length-replies_from c.args.configs.now [] c.args.events.now

pub violations-requires-clause-placed : goal.violations-requires-clause-placed
violations-requires-clause-placed c =
    all-placed c.args.configs.now c.args.events.now c.replies-replies.result.now (record { few = c.requires.few; valid = c.requires.configurations }) (c.replies-replies.ensures ∙ c.requires.replies)

pub first_broken-requires-clause-long : goal.first_broken-requires-clause-long
first_broken-requires-clause-long c =
    ap (λ (rs : List Reply). length rs) (c.replies-replies.ensures ∙ c.requires.replies) ∙ length-replies_from c.args.configs.now [] c.args.events.now

pub returns-clause-kept : goal.returns-clause-kept
returns-clause-kept c = λ none.
    let configs = c.args.configs.now in
    let events : List Event = c.args.events.now in
    let all : List Reply = c.replies-replies.result.now in
    let are : all ≡ replies_from configs [] events = c.replies-replies.ensures ∙ c.requires.replies in
    let long : length all ≡ length events = ap (λ (rs : List Reply). length rs) are ∙ length-replies_from configs [] events in
    let unbroken : NoBreach configs (reverse events) = subst (λ (o : Option Broken). IsFirstBreach configs events o) none c.in_ok-first_broken.ensures in
    let holds : ReadingsHold configs events all =
    subst (λ (rs : List Reply). ReadingsHold configs events rs) (sym are) (c.run_laws.ensures.readings_hold configs events c.requires.configurations c.requires.can_be) in
    let ordered : ExternallyConsistent configs events all =
    subst (λ (rs : List Reply). ExternallyConsistent configs events rs) (sym are) (c.run_laws.ensures.externally_consistent configs events c.requires.configurations c.requires.can_be) in
    let breaches = λ (past : List Event). c.run_laws.ensures.breaches configs past in (
      c.wrong_readings.ensures ∙ none-wrong configs events all long breaches unbroken holds ordered,
      c.violations.ensures.value ∙ none-late configs events all long breaches unbroken holds ordered,
    )
