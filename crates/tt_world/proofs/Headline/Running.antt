-- What is promised of a whole run.
use Rattle.std.proofs.Common.{◌≡◌, List, [], ◌∷◌, ◌++◌, length, Option, Some, refl, ap, subst, sym, ◌∙◌}
use Rattle.std.specs.Prelude.{slice_get, reverse}
use Rattle.std.specs.List.{AllByRecursion}
use Rattle.std.proofs.lemmas.List.{append_assoc, append-nil, reverse-append}
use Rattle.std.proofs.lemmas.List.Elements.{All-from_recursion}
use Rattle.tt_world.specs.declared.events.Event.{Event}
use Rattle.tt_world.specs.declared.events.Action.TheVariants as does
use Rattle.tt_world.specs.declared.events.Reply.{Reply}
use Rattle.tt_world.specs.declared.events.Reply.TheVariants.{Published}
use Rattle.tt_daemon.specs.Config.{Configuration}
use Rattle.tt_world.specs.Reply.{reply_of, replies_from}
use Rattle.tt_world.specs.Headline.{AreConfigurations, IsAction, AreEvents, ReadingsHold, FusionsAreShortest, NoFusionRefused}
use Rattle.tt_world.proofs.Histories.Places.{all_append, all_by_recursion}
use Rattle.tt_world.proofs.Headline.Promises.{reading_holds, fusion_shortest, fusion_not_refused}

reverse_onto : (event : Event) (before past : List Event) → reverse before ++ event ∷ past ≡ reverse (event ∷ before) ++ past
reverse_onto event before past = sym (append_assoc (reverse before) (event ∷ []) past) ∙ ap (λ (events : List Event). events ++ past) (sym (reverse-append (event ∷ []) before))

reply_from : (configs : List Configuration) (past before : List Event) (event : Event) (after : List Event) → slice_get (replies_from configs past (before ++ event ∷ after)) (length before) ≡ Some (reply_of configs (reverse before ++ past) event)
reply_from configs past [] event after = refl
reply_from configs past (first ∷ before) event after =
    reply_from configs (first ∷ past) before event after ∙ ap (λ (events : List Event). Some (reply_of configs events event)) (reverse_onto first before past)

-- the reply at a place of a run is that to its event there
pub reply_at : (configs : List Configuration) (events before : List Event) (event : Event) (after : List Event) → events ≡ before ++ event ∷ after → slice_get (replies_from configs [] events) (length before) ≡ Some (reply_of configs (reverse before) event)
reply_at configs events before event after e =
    ap (λ (all : List Event). slice_get (replies_from configs [] all) (length before)) e ∙ reply_from configs [] before event after ∙ ap (λ (past : List Event). Some (reply_of configs past event)) (append-nil (reverse before))

all_front : (P : Event → Type 0) (front back : List Event) → AllByRecursion P (front ++ back) → AllByRecursion P front
all_front P [] back h = tt
all_front P (event ∷ front) back h = (h.0, all_front P front back h.1)

all_reverse : (P : Event → Type 0) (events : List Event) → AllByRecursion P events → AllByRecursion P (reverse events)
all_reverse P [] h = tt
all_reverse P (event ∷ events) h =
    subst (AllByRecursion P) (sym (reverse-append (event ∷ []) events)) (all_append P (reverse events) (event ∷ []) (all_reverse P events h.1) (h.0, tt))

events_before : (events before : List Event) (event : Event) (after : List Event) → events ≡ before ++ event ∷ after → AreEvents events → AreEvents (reverse before)
events_before events before event after e h =
    let P : Event → Type 0 = λ event. IsAction event.action in
    All-from_recursion P (reverse before) (all_reverse P before (all_front P before (event ∷ after) (subst (AllByRecursion P) e (all_by_recursion P events h))))

same_reply : (a b : Reply) (o : Option Reply) → o ≡ Some a → o ≡ Some b → a ≡ b
same_reply a b o h k = cc

-- every reading of a run holds the true time, if the run keeps the assumptions up to then
pub readings-hold : (configs : List Configuration) (events : List Event) → AreConfigurations configs → AreEvents events → ReadingsHold configs events (replies_from configs [] events)
readings-hold configs events configurations valid before event after reading e replied meets =
    reading_holds configs configurations (reverse before) (events_before events before event after e valid) event reading
    (same_reply (reply_of configs (reverse before) event) _ (slice_get (replies_from configs [] events) (length before)) (reply_at configs events before event after e) replied) meets

-- every span that is published is the least that holds every possible time, whatever the run
pub fusions-shortest : (configs : List Configuration) (events : List Event) → AreConfigurations configs → FusionsAreShortest configs events (replies_from configs [] events)
fusions-shortest configs events configurations before at m clock after number span e replied =
    let event : Event = record { at = at; action = does.Fuse m clock } in
    fusion_shortest configs configurations (reverse before) at m clock number span
    (same_reply (reply_of configs (reverse before) event) (Published number span) (slice_get (replies_from configs [] events) (length before)) (reply_at configs events before event after e) replied)

-- no fusion that is not bad is refused where enough sources are known, if the run keeps the assumptions up to then
pub no-fusion-refused : (configs : List Configuration) (events : List Event) → AreConfigurations configs → AreEvents events → NoFusionRefused configs events (replies_from configs [] events)
no-fusion-refused configs events configurations valid before at m clock after e not_bad known meets =
    let event : Event = record { at = at; action = does.Fuse m clock } in
    let made = fusion_not_refused configs configurations (reverse before) (events_before events before event after e valid) at m clock not_bad known meets in
    (made.0, made.1, reply_at configs events before event after e ∙ ap (λ (reply : Reply). Some reply) made.2)
