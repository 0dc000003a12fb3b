-- The events before each place of a run, and the replies there.
use Rattle.std.proofs.Common.{◌≡◌, ℕ, zero, suc, ◌≤◌, List, [], ◌∷◌, ◌++◌, take, reverse, Some, refl, ap, subst, sym, ◌∙◌, arith}
use Rattle.std.specs.Prelude.{slice_get}
use Rattle.std.specs.List.{AllByRecursion}
use Rattle.std.proofs.lemmas.List.{append_assoc, reverse-append}
use Rattle.std.proofs.lemmas.Option.{same_Some}
use Rattle.tt_world.specs.declared.events.Event.{Event}
use Rattle.tt_world.specs.declared.events.Reply.{Reply}
use Rattle.tt_daemon.specs.Config.{Configuration}
use Rattle.tt_world.specs.Bad.{accepted}
use Rattle.tt_world.specs.Reply.{reply_of, replies_from}
use Rattle.tt_world.proofs.Histories.Sound.{IsAfter, accepted_after}

-- the events before place i of a run that goes on from a past, the newest first
abbrev pub before_place : List Event → List Event → ℕ → List Event
before_place past events zero = past
before_place past [] (suc i) = past
before_place past (event ∷ events) (suc i) = before_place (event ∷ past) events i

pub before_place-reverse : (past events : List Event) (i : ℕ) → before_place past events i ≡ reverse (take i events) ++ past
before_place-reverse past events zero = refl
before_place-reverse past [] (suc i) = refl
before_place-reverse past (event ∷ events) (suc i) =
    before_place-reverse (event ∷ past) events i ∙ sym (append_assoc (reverse (take i events)) (event ∷ []) past) ∙ ap (λ (es : List Event). es ++ past) (sym (reverse-append (event ∷ []) (take i events)))

-- what stands before the next place
pub before_place-next : (past events : List Event) (i : ℕ) (event : Event) → slice_get events i ≡ Some event → before_place past events (suc i) ≡ event ∷ before_place past events i
before_place-next past [] i event e = absurd cc
before_place-next past (first ∷ events) zero event e = ap (λ (x : Event). x ∷ past) (same_Some first event e)
before_place-next past (first ∷ events) (suc i) event e = before_place-next (first ∷ past) events i event e

before_place_onto : (past events : List Event) (i : ℕ) → IsAfter (before_place past events i) past
before_place_onto past events zero = record { later = []; all = refl }
before_place_onto past [] (suc i) = record { later = []; all = refl }
before_place_onto past (event ∷ events) (suc i) =
    let after = before_place_onto (event ∷ past) events i in
    record { later = after.later ++ event ∷ []; all = after.all ∙ sym (append_assoc after.later (event ∷ []) past) }

before_place_after : (past events : List Event) (i j : ℕ) → i ≤ j → IsAfter (before_place past events j) (before_place past events i)
before_place_after past events zero j h = before_place_onto past events j
before_place_after past events (suc i) zero h = absurd (omega arith)
before_place_after past [] (suc i) (suc j) h = record { later = []; all = refl }
before_place_after past (event ∷ events) (suc i) (suc j) h = before_place_after (event ∷ past) events i j (omega arith)

-- what was not bad before a later place comes after what was not bad before an earlier one
pub accepted_before : (configs : List Configuration) (events : List Event) (i j : ℕ) → i ≤ j → IsAfter (accepted configs (before_place [] events j)) (accepted configs (before_place [] events i))
accepted_before configs events i j h =
    let after = before_place_after [] events i j h in
    subst (λ (es : List Event). IsAfter (accepted configs es) (accepted configs (before_place [] events i))) (sym after.all) (accepted_after configs after.later (before_place [] events i))

pub all_before_place : (P : Event → Type 0) (past events : List Event) (i : ℕ) → AllByRecursion P past → AllByRecursion P events → AllByRecursion P (before_place past events i)
all_before_place P past events zero before all = before
all_before_place P past [] (suc i) before all = before
all_before_place P past (event ∷ events) (suc i) before all = all_before_place P (event ∷ past) events i (all.0, before) all.1

-- the event at a place with this reply
pub record IsPlaced (configs : List Configuration) (past events : List Event) (i : ℕ) (reply : Reply) : Type 0 where
  pub event : Event
  pub there : slice_get events i ≡ Some event
  pub replied : reply_of configs (before_place past events i) event ≡ reply

pub placed : (configs : List Configuration) (past events : List Event) (i : ℕ) (reply : Reply) → slice_get (replies_from configs past events) i ≡ Some reply → IsPlaced configs past events i reply
placed configs past [] i reply h = absurd cc
placed configs past (event ∷ events) zero reply h = record { event = event; there = refl; replied = same_Some (reply_of configs past event) reply h }
placed configs past (event ∷ events) (suc i) reply h =
    let rest = placed configs (event ∷ past) events i reply h in
    record { event = rest.event; there = rest.there; replied = rest.replied }

-- the reply to the event at a place
pub replied_at : (configs : List Configuration) (past events : List Event) (i : ℕ) (event : Event) (reply : Reply) → slice_get events i ≡ Some event → slice_get (replies_from configs past events) i ≡ Some reply → reply_of configs (before_place past events i) event ≡ reply
replied_at configs past events i event reply e h =
    let here = placed configs past events i reply h in
    subst (λ (x : Event). reply_of configs (before_place past events i) x ≡ reply) (same_Some here.event event (sym here.there ∙ e)) here.replied
