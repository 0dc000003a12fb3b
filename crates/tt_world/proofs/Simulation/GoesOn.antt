-- From what one event makes of what is kept, to the runs that it stands for.
use Rattle.std.proofs.Common.{◌≡◌, ℕ, cond, List, ◌∷◌, is_some, Option, Some, None, ap, sym, subst, ◌∙◌, refl}
use Rattle.std.specs.Prelude.{Result, Ok, Err, IfOk, IfErr, OnErr}
use Rattle.tt_world.specs.declared.events.Event.{Event}
use Rattle.tt_world.specs.declared.events.Action.{Action}
use Rattle.tt_world.specs.declared.events.Action.TheVariants.{Send}
use Rattle.tt_world.specs.declared.events.Reply.{Reply}
use Rattle.tt_world.specs.declared.faults.WorldFault.{WorldFault}
use Rattle.tt_world.specs.declared.faults.WorldFault.TheVariants as bad
use Rattle.tt_world.specs.Fault.{bad_reply}
use Rattle.tt_daemon.specs.Config.{Configuration}
use Rattle.tt_world.specs.Bad.{first_bad, accepted}
use Rattle.tt_world.specs.Reply.{TakesMemory, reply_to, reply_unless_bad, reply_of}
use Rattle.tt_world.specs.State.{WorldState, state_of, StandsFor}
use Rattle.tt_world.specs.Private.Step.{Turn, Judged, event_outcome, WantsMemory, HasRoom, IsRefusal, refusal_reply}
use Rattle.tt_world.proofs.Histories.Lasting.{Lasts, Lasts-accepted}
use Rattle.tt_world.proofs.Simulation.Waiting.{happens}
use Rattle.tt_world.proofs.Simulation.Stepping.{turn_unless}
use Rattle.tt_world.proofs.Simulation.Events.{stepped-state_of, room_if_refused}

same_Ok : (a b : Turn WorldState) → ◌≡◌ {A = Judged WorldState} (Ok a) (Ok b) → a ≡ b
same_Ok a b e = ap (turn_or a) e
  where
    turn_or : Turn WorldState → Judged WorldState → Turn WorldState
    turn_or d (Ok turn) = turn
    turn_or d (Err fault) = d

module _ (configs : List Configuration) (past : List Event) (event : Event) where
  -- the events before that were not bad
  abbrev before : List Event
  before = accepted configs past

  -- the reply and the run, by the reason why the event is bad
  abbrev IsThen : Option WorldFault → Reply → WorldState → Type 0
  IsThen o reply new = (reply ≡ reply_unless_bad o (reply_to configs before event.action)) × (new ≡ state_of configs (cond (is_some o) before (event ∷ before)))

  -- an event that made this
  made_then : (new : WorldState) (reply : Reply) (o : Option WorldFault) → Ok (record { state = new; reply = reply }) ≡ turn_unless o (record { state = state_of configs (event ∷ before); reply = reply_to configs before event.action }) → IsThen o reply new
  made_then new reply None did = let same = same_Ok _ _ did in (ap (λ (t : Turn WorldState). t.reply) same, ap (λ (t : Turn WorldState). t.state) same)
  made_then new reply (Some fault) did = absurd cc

  -- an event that was refused
  refused_then : (fault : WorldFault) (o : Option WorldFault) → Err fault ≡ turn_unless o (record { state = state_of configs (event ∷ before); reply = reply_to configs before event.action }) → IsThen o (bad_reply fault) (state_of configs before)
  refused_then fault None did = absurd cc
  refused_then fault (Some other) did = let same : fault ≡ other = cc in (ap bad_reply same, refl)

-- memory that was refused was wanted for the reply to an event that is not bad
takes_if_good : (configs : List Configuration) (past : List Event) (at : ℕ) (action : Action) → Lasts configs past → first_bad configs past (happens at action) ≡ None
    → IsRefusal (WantsMemory action) bad.Memory (event_outcome (state_of configs past) (happens at action)) → TakesMemory (reply_to configs past action)
takes_if_good configs past at (Send m s clock) lasts good refusal = tt
takes_if_good configs past at action lasts good refusal =
    subst (IsRefusal (WantsMemory action) bad.Memory)
    (stepped-state_of configs past (happens at action) (λ _. tt) lasts ∙ ap (λ (o : Option WorldFault). turn_unless o (record { state = state_of configs (happens at action ∷ past); reply = reply_to configs past action })) good) refusal

takes_then : (configs : List Configuration) (past : List Event) (event : Event) (o : Option WorldFault) → Lasts configs past → first_bad configs past event ≡ o
    → IsRefusal (WantsMemory event.action) bad.Memory (event_outcome (state_of configs past) event) → TakesMemory (reply_unless_bad o (reply_to configs past event.action))
takes_then configs past event None lasts is refusal = takes_if_good configs past event.at event.action lasts is refusal
takes_then configs past event (Some fault) lasts is refusal =
    absurd (subst (IsRefusal (WantsMemory event.action) bad.Memory)
    (stepped-state_of configs past event (λ good. some-none (sym is ∙ good)) lasts ∙ ap (λ (o : Option WorldFault). turn_unless o (record { state = state_of configs (event ∷ past); reply = reply_to configs past event.action })) is) refusal)
  where
    some-none : Some fault ≡ None → HasRoom (state_of configs past) event.action
    some-none e = absurd cc

-- an event that was not bad
pub goes_on : (old new : WorldState) (event : Event) (reply : Reply) → HasRoom old event.action → event_outcome old event ≡ Ok (record { state = new; reply = reply }) →
    (configs : List Configuration) (past : List Event) → StandsFor configs past old → (reply ≡ reply_of configs past event) × StandsFor configs (event ∷ past) new
goes_on old new event reply room did configs past stands =
    made_then configs past event new reply (first_bad configs (accepted configs past) event)
    (sym did ∙ ap (λ (w : WorldState). event_outcome w event) stands
    ∙ stepped-state_of configs (accepted configs past) event (λ good. subst (λ (w : WorldState). HasRoom w event.action) stands room) (Lasts-accepted configs past))

-- what a step promises of its answer
pub record Promises (old new : WorldState) (event : Event) (answer : Result Reply WorldFault) : Type 0 where
  pub reply : IfOk answer (λ reply. (configs : List Configuration) (past : List Event) → StandsFor configs past old → (reply ≡ reply_of configs past event) × StandsFor configs (event ∷ past) new)
  pub memory : IfErr answer (λ e. e ≡ bad.Memory)
  pub memory_only : OnErr answer ((configs : List Configuration) (past : List Event) → StandsFor configs past old → TakesMemory (reply_of configs past event))
  pub unchanged : OnErr answer (new ≡ old)

bad_event : (old new : WorldState) (event : Event) (fault : WorldFault) → new ≡ old → event_outcome old event ≡ Err fault → Promises old new event (Ok (bad_reply fault))
bad_event old new event fault same did = record {
  reply = λ configs past stands.
      let here : event_outcome (state_of configs (accepted configs past)) event ≡ Err fault = ap (λ (w : WorldState). event_outcome w event) (sym stands) ∙ did in
      let then = refused_then configs past event fault (first_bad configs (accepted configs past) event)
      (sym here ∙ stepped-state_of configs (accepted configs past) event (room_if_refused configs (accepted configs past) fault event.at event.action here) (Lasts-accepted configs past)) in
      (then.0, same ∙ stands ∙ then.1);
  memory = tt;
  memory_only = tt;
  unchanged = tt;
}

-- an event that was bad, or for which memory was refused
pub refusal_promises : (old new : WorldState) (event : Event) (fault : WorldFault) → new ≡ old → IsRefusal (WantsMemory event.action) fault (event_outcome old event) → Promises old new event (refusal_reply fault)
refusal_promises old new event bad.Memory same did = record {
  reply = tt;
  memory = refl;
  memory_only = λ configs past stands.
      takes_then configs (accepted configs past) event (first_bad configs (accepted configs past) event) (Lasts-accepted configs past) refl (subst (λ (w : WorldState). IsRefusal (WantsMemory event.action) bad.Memory (event_outcome w event)) stands did);
  unchanged = same;
}
refusal_promises old new event fault same did = bad_event old new event fault same did
