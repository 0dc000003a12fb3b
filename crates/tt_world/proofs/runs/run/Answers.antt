use Rattle.std.proofs.Common.{◌≡◌, [], List, ap, ◌∙◌, sym, subst, reverse, take, arith}
use Rattle.std.proofs.lemmas.List.{take_all}
use Rattle.tt_world.specs.declared.events.Event.{Event}
use Rattle.tt_world.specs.declared.events.Reply.{Reply}
use Rattle.tt_world.specs.Headline.{AreEvents, ReadingsHold, FusionsAreShortest, NoFusionRefused, StampsAreLeast, StampsInLeases, LeasesKeepStampsApart, ExternallyConsistent}
use Rattle.tt_world.specs.Reply.{replies_from}
use Rattle.tt_world.specs.Bad.{accepted}
use Rattle.tt_world.specs.Publications.{shown_of}
use Rattle.tt_world.specs.State.{WorldState}
use Rattle.tt_world.proofs.Headline.OnRun.{told-all}
use Rattle.tt_world.proofs.Headline.Running.{readings-hold, fusions-shortest, no-fusion-refused}
use Rattle.tt_world.proofs.Headline.Committed.{stamps-least, stamps-in-leases, leases-keep-apart, externally-consistent}
use Rattle.tt_world.proofs.runs.run.Goals as goal
use Rattle.tt_world.proofs.runs.run.Goals.{After-into_shown}

-- the replies are those that are defined
told : (c : After-into_shown) → c.loop-event.replies.items ≡ replies_from c.args.configs.now [] c.args.events.now
told c =
    told-all c.args.configs.now c.args.events.now c.loop-event.event-index (reverse (take c.loop-event.event-index c.args.events.now)) c.loop-event.replies.items _
    c.loop-event-test.false c.loop-event.invariant.told

-- every event is one that can be
known : (c : After-into_shown) → AreEvents c.args.events.now
known c = λ k d h. c.loop-event.invariant.known k d (omega (arith, h, c.loop-event-test.false))

pub returns-clause-readings_hold : goal.returns-clause-readings_hold
returns-clause-readings_hold c =
    subst (λ (rs : List Reply). ReadingsHold c.args.configs.now c.args.events.now rs) (sym (told c))
    (readings-hold c.args.configs.now c.args.events.now c.in_ok-world.ensures.valid (known c))

pub returns-clause-fusions_are_shortest : goal.returns-clause-fusions_are_shortest
returns-clause-fusions_are_shortest c =
    subst (λ (rs : List Reply). FusionsAreShortest c.args.configs.now c.args.events.now rs) (sym (told c))
    (fusions-shortest c.args.configs.now c.args.events.now c.in_ok-world.ensures.valid)

pub returns-clause-no_fusion_refused : goal.returns-clause-no_fusion_refused
returns-clause-no_fusion_refused c =
    subst (λ (rs : List Reply). NoFusionRefused c.args.configs.now c.args.events.now rs) (sym (told c))
    (no-fusion-refused c.args.configs.now c.args.events.now c.in_ok-world.ensures.valid (known c))

pub returns-clause-stamps_are_least : goal.returns-clause-stamps_are_least
returns-clause-stamps_are_least c =
    subst (λ (rs : List Reply). StampsAreLeast c.args.configs.now c.args.events.now rs) (sym (told c))
    (stamps-least c.args.configs.now c.args.events.now)

pub returns-clause-externally_consistent : goal.returns-clause-externally_consistent
returns-clause-externally_consistent c =
    subst (λ (rs : List Reply). ExternallyConsistent c.args.configs.now c.args.events.now rs) (sym (told c))
    (externally-consistent c.args.configs.now c.args.events.now c.in_ok-world.ensures.valid (known c))

pub returns-clause-shown : goal.returns-clause-shown
returns-clause-shown c =
    let events = c.args.events.now in
    let all : take c.loop-event.event-index events ≡ events = take_all c.loop-event.event-index events c.loop-event-test.false in
    c.into_shown.ensures.value
    ∙ ap (λ (w : WorldState). w.shown) c.loop-event.invariant.stands
    ∙ ap (λ (es : List Event). shown_of c.args.configs.now (accepted c.args.configs.now (reverse es))) all

pub returns-clause-stamps_in_leases : goal.returns-clause-stamps_in_leases
returns-clause-stamps_in_leases c =
    subst (λ (rs : List Reply). StampsInLeases c.args.configs.now c.args.events.now rs) (sym (told c))
    (stamps-in-leases c.args.configs.now c.args.events.now)

pub returns-clause-leases_keep_apart : goal.returns-clause-leases_keep_apart
returns-clause-leases_keep_apart c =
    subst (λ (rs : List Reply). LeasesKeepStampsApart c.args.configs.now c.args.events.now rs) (sym (told c))
    (leases-keep-apart c.args.configs.now c.args.events.now)
