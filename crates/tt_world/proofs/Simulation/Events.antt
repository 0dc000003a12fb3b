-- One event makes of what a run has left what the run with that event leaves, and the reply is the one that is defined.
use Rattle.std.proofs.Common.{◌≡◌, ℕ, ◌<◌, cond, Bool, List, ◌∷◌, length, Some, None, refl, ap, ◌∙◌, ltb-true}
use Rattle.std.specs.Prelude.{Ok, Err}
use Rattle.std.proofs.lemmas.Bool.{and_parts, not-false}
use Rattle.tt_source.specs.Table.{poll_of}
use Rattle.tt_world.specs.Life.{life_at}
use Rattle.tt_world.specs.declared.faults.WorldFault.{WorldFault}
use Rattle.tt_world.specs.declared.faults.WorldFault.TheVariants as bad
use Rattle.tt_world.specs.declared.events.Event.{Event}
use Rattle.tt_world.specs.declared.events.Action.{Action}
use Rattle.tt_world.specs.declared.events.Action.TheVariants.{Send}
use Rattle.tt_daemon.specs.Config.{Configuration}
use Rattle.tt_world.specs.Config.{config_at}
use Rattle.tt_world.specs.Bad.{has_source, breaks_time, first_bad}
use Rattle.tt_world.specs.Reply.{reply_to}
use Rattle.tt_world.specs.State.{WorldState, state_of}
use Rattle.tt_world.specs.Private.Machine.{machine_of}
use Rattle.tt_world.specs.Private.Step.{HasRoom, after_poll, action_outcome, event_outcome}
use Rattle.tt_world.proofs.Histories.Lasting.{Lasts}
use Rattle.tt_world.proofs.Histories.Judging.{passed, good_of}
use Rattle.tt_world.proofs.Simulation.Ranges.{slice_get-made}
use Rattle.tt_world.proofs.Simulation.Waiting.{happens}
use Rattle.tt_world.proofs.Simulation.Turns.{send_on-polled}
use Rattle.tt_world.proofs.Simulation.Stepping.{turn_unless, turn_if, bad_action, acted-state_of}

-- what an event makes of what a run without bad events has left
pub stepped-state_of : (configs : List Configuration) (past : List Event) (event : Event)
    → (first_bad configs past event ≡ None → HasRoom (state_of configs past) event.action) → Lasts configs past
    → event_outcome (state_of configs past) event ≡ turn_unless (first_bad configs past event) (record { state = state_of configs (event ∷ past); reply = reply_to configs past event.action })
stepped-state_of configs past event room lasts =
    turn_if (breaks_time past event) bad.TimeBack _ (bad_action configs past event.action) _
    (λ later. acted-state_of configs past lasts event.at event.action
    (λ good. room (ap (λ (b : Bool). cond b (Some bad.TimeBack) (bad_action configs past event.action)) later ∙ good)))

module _ (configs : List Configuration) (past : List Event) where
  -- a poll that is not bad reaches its table
  stepped-polled : (at m s clock : ℕ) → first_bad configs past (happens at (Send m s clock)) ≡ None
      → event_outcome (state_of configs past) (happens at (Send m s clock))
      ≡ Ok (after_poll (state_of configs past) at m s clock (machine_of (config_at configs m) past (life_at past m)) (poll_of (machine_of (config_at configs m) past (life_at past m)).daemon.table s clock))
  stepped-polled at m s clock good =
      let world : WorldState = state_of configs past in
      let event : Event = happens at (Send m s clock) in
      let time = passed (breaks_time past event) bad.TimeBack _ good in
      let is = good_of configs past event good in
      let named = and_parts _ _ (not-false (has_source configs m s) is.named) in
      let there : m < length configs = ltb-true m (length configs) named.0 in
      ap (λ (b : Bool). cond b (Err bad.TimeBack) (action_outcome world at (Send m s clock))) time.0
      ∙ send_on-polled world at m s clock (machine_of (config_at configs m) past (life_at past m)) _ (slice_get-made (λ k. machine_of (config_at configs k) past (life_at past k)) (length configs) m there)
      (ltb-true s (config_at configs m).sources named.1) is.clock_on refl

  -- what is refused has no need of room
  pub room_if_refused : (fault : WorldFault) (at : ℕ) (action : Action) → event_outcome (state_of configs past) (happens at action) ≡ Err fault
      → first_bad configs past (happens at action) ≡ None → HasRoom (state_of configs past) action
  room_if_refused fault at (Send m s clock) did good = let made = stepped-polled at m s clock good in absurd cc
  room_if_refused fault at _ did good = tt
