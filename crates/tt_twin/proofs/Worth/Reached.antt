-- What the defined twin of an event is worth.
use Rattle.std.proofs.Common.{◌≡◌, ℕ, ◌-◌, ◌<◌, ◌≤◌, Bool, true, false, cond, eqb, ltb, ◌&&◌, ◌||◌, List, [], ◌∷◌, ◌++◌, length, take, reverse, slice_get, Option, Some, None, Result, Ok, Err, refl, ap, subst, sym, ◌∙◌, arith, eq-eqb, append-nil, Global}
use Rattle.std.specs.Prelude.{Vec, IfOk, OnOk}
use Rattle.std.proofs.lemmas.Bool.{or_parts, eqb-false, ltb-false}
use Rattle.std.proofs.lemmas.List.{reverse-append}
use Rattle.tt_span.specs.Time.{max_time, cut}
use Rattle.tt_span.specs.Interval.{Interval, Holds}
use Rattle.tt_span.specs.Drift.{aged}
use Rattle.tt_daemon.specs.Config.{Configuration}
use Rattle.tt_world.specs.Config.{config_at}
use Rattle.tt_world.specs.Life.{life_at}
use Rattle.tt_world.specs.declared.faults.WorldFault.{WorldFault}
use Rattle.tt_world.specs.declared.events.Event.{Event}
use Rattle.tt_world.specs.declared.events.Action.TheVariants as does
use Rattle.tt_world.specs.declared.events.Reply.{Reply}
use Rattle.tt_world.specs.declared.events.Reply.TheVariants as replies
use Rattle.tt_publish.specs.declared.readings.FusedSpan.{FusedSpan}
use Rattle.tt_world.specs.Publications.{publications_of, publication_at, reading_at, seen_of}
use Rattle.tt_world.specs.Bad.{is_unreadable, first_bad, accepted}
use Rattle.tt_world.specs.Reply.{reply_unless_bad, reply_to, reply_of}
use Rattle.tt_world.specs.Headline.{AreConfigurations}
use Rattle.tt_world.proofs.Headline.Promises.{machine_of_worker}
use Rattle.tt_world.proofs.Histories.Judging.{AreGood, good_of, good_accepted, accepted-good}
use Rattle.tt_world.proofs.Histories.Clocks.{reading_of}
use Rattle.tt_world.proofs.Histories.Placing.{before_place-reverse, replied_at}
use Rattle.tt_twin.specs.declared.twins.Side.{Side}
use Rattle.tt_twin.specs.declared.twins.Side.TheVariants.{Low, High}
use Rattle.tt_twin.specs.declared.twin_faults.TwinFault.{TwinFault}
use Rattle.tt_twin.specs.declared.twin_faults.TwinFault.TheVariants.{Machines, Cut}
use Rattle.tt_twin.specs.Twin.{end_of, end_after, twin_from, twin_unless_cut, twin_of_reply, twin_of_event, twin_of}
use Rattle.tt_twin.specs.Looks.{Making, making_of, Look, looks_of}
use Rattle.tt_twin.specs.Alike.{IsTwin, IsRightForLook, IsReadingOf, accepted_to}
use Rattle.tt_twin.proofs.Telling.{past_at}
use Rattle.tt_twin.proofs.Worth.Finding.{IsFound, found}
use Rattle.tt_twin.proofs.Worth.Together.{IsLast, worth, not-narrower}

-- ---- the reply was a reading

pub reading_not_bad : (reason : Option WorldFault) (reply : Reply) (reading : Interval) → reply_unless_bad reason reply ≡ replies.Read reading → (reason ≡ None) × (reply ≡ replies.Read reading)
reading_not_bad None reply reading h = (refl, h)
reading_not_bad (Some fault) reply reading h = absurd cc

interval_of : Reply → Interval
interval_of (replies.Read reading) = reading
interval_of _ = record { lo = 0; hi = 0 }

same_reading : (a b : Interval) → replies.Read a ≡ replies.Read b → a ≡ b
same_reading a b h = cc

-- ---- the twin was not refused

not_refused : (b : Bool) (fault : TwinFault) (r : Result (List Event) TwinFault) (twin : List Event) → cond b (Err fault) r ≡ Ok twin → (b ≡ false) × (r ≡ Ok twin)
not_refused true fault r twin h = absurd cc
not_refused false fault r twin h = (refl, h)

abbrev as_twin : List Event → Result (List Event) TwinFault
as_twin twin = Ok twin

same_twin : (a b : List Event) → as_twin a ≡ as_twin b → a ≡ b
same_twin a b h = cc

-- the end of an interval that has aged is cut
end-aged : (side : Side) (drift d : ℕ) (span : Interval) → end_of side (aged drift span d) ≡ cut (end_after side drift (end_of side span) d)
end-aged Low drift d span = refl
end-aged High drift d span = refl

pub readable_parts : (count seen k : ℕ) → is_unreadable count seen k ≡ false → (0 < k) × (k ≤ count)
readable_parts count seen k h =
    let one = or_parts _ _ h in
    let two = or_parts _ _ one.0 in
    let not_zero : k ≡ 0 → ⊥ = eqb-false k 0 two.0 in
    (omega arith, ltb-false count k two.1)

-- what is known where event k reads, and has a twin
pub record IsReached (configs : List Configuration) (events : List Event) (k : ℕ) (side : Side) (m number : ℕ) (reading : Interval) (twin : List Event) : Type 0 where
  pub worthy : IsTwin configs (accepted_to configs events k) m number (end_of side reading) twin
  pub wide : (span : Interval) → IsRightForLook configs (accepted_to configs events k) m number span → Holds span (end_of side reading)

-- after good events
reached_after : (configs : List Configuration) (past : List Event) (side : Side) (at m w clock number : ℕ) (reading : Interval) (twin : List Event) → AreConfigurations configs → length configs ≤ 8 →
    AreGood configs (record { at = at; action = does.Read m w clock number } ∷ past) →
    reading_at (config_at configs m).drift (publication_at (publications_of (config_at configs m) past (life_at past m)) number) clock ≡ reading →
    twin_unless_cut side configs m clock (making_of configs (record { at = at; action = does.Read m w clock number } ∷ past) m number) (looks_of configs (record { at = at; action = does.Read m w clock number } ∷ past) m number) ≡ Ok twin →
    IsTwin configs (record { at = at; action = does.Read m w clock number } ∷ past) m number (end_of side reading) twin
    × ((span : Interval) → IsRightForLook configs (record { at = at; action = does.Read m w clock number } ∷ past) m number span → Holds span (end_of side reading))
reached_after configs past side at m w clock number reading twin configurations few good reads is =
    let event : Event = record { at = at; action = does.Read m w clock number } in
    let config = config_at configs m in
    let there = machine_of_worker configs m w good.0.named in
    let bounds = readable_parts (length (publications_of config past (life_at past m))) (seen_of past (life_at past m) w) number good.0.publication_there in
    let nil = append-nil (publications_of config past (life_at past m)) in
    let f : IsFound configs (event ∷ past) m number = found configs (event ∷ past) m number good bounds.0 (subst (λ (l : List FusedSpan). number ≤ length l) (sym nil) bounds.1) in
    let moment = reading_of configs past event (life_at past m) clock good.0 refl in
    let looks = looks_of configs (event ∷ past) m number in
    let the_end = end_after side config.drift (end_of side f.making.showing.span) (clock - f.making.showing.clock) in
    let parts = not_refused (ltb max_time the_end) Cut (Ok (twin_from side configs m f.making looks)) twin (ap (λ (o : Option Making). twin_unless_cut side configs m clock o looks) (sym f.is) ∙ is) in
    let within : the_end ≤ max_time = ltb-false max_time the_end parts.0 in
    let mm : eqb m m ≡ true = eq-eqb m m refl in
    let nn : eqb number number ≡ true = eq-eqb number number refl in
    let look : Look = record { worker = w; clock = clock; reading = reading_at config.drift (publication_at (publications_of config past (life_at past m)) number) clock; at = at } in
    let newest : reverse looks ≡ look ∷ reverse (looks_of configs past m number) =
    ap (λ (b : Bool). reverse (looks_of configs past m number ++ cond (b && eqb number number) (look ∷ []) [])) mm
    ∙ ap (λ (b : Bool). reverse (looks_of configs past m number ++ cond b (look ∷ []) [])) nn
    ∙ reverse-append (looks_of configs past m number) (look ∷ []) in
    let last : IsLast configs (event ∷ past) side m number f clock = record {
      look = look;
      looks = reverse (looks_of configs past m number);
      newest = newest;
      now = refl;
      shows = moment.shows;
      in_time = moment.in_time;
      not_cut = within;
    } in
    let uncut : cut the_end ≡ the_end = omega arith in
    let same_end : the_end ≡ end_of side reading =
    sym (
    ap (λ (i : Interval). end_of side i) (sym reads)
    ∙ ap (λ (p : FusedSpan). end_of side (reading_at config.drift p clock)) (sym (ap (λ (l : List FusedSpan). publication_at l number) nil) ∙ f.publication)
    ∙ end-aged side config.drift (clock - f.making.showing.clock) f.making.showing.span ∙ uncut
    ) in (
      subst (λ (l : List Event). IsTwin configs (event ∷ past) m number (end_of side reading) l) (same_twin (twin_from side configs m f.making looks) twin parts.1)
          (subst (λ (x : ℕ). IsTwin configs (event ∷ past) m number x (twin_from side configs m f.making looks)) same_end (worth configs (event ∷ past) side m number clock f configurations few there last)),
      λ span right. subst (λ (x : ℕ). Holds span x) same_end (not-narrower configs (event ∷ past) side m number clock f configurations few there last span right),
    )

-- the defined twin of a reading
pub reached : (configs : List Configuration) (events : List Event) (k : ℕ) (side : Side) (m number : ℕ) (reading : Interval) (twin : List Event) → AreConfigurations configs → IsReadingOf configs events k m number reading → twin_of configs events k side ≡ Ok twin → IsReached configs events k side m number reading twin
reached configs events k side m number reading twin configurations r is =
    let event : Event = record { at = r.at; action = does.Read m r.worker r.clock number } in
    let past = reverse (take k events) in
    let before : reply_of configs past event ≡ replies.Read reading =
    ap (λ (l : List Event). reply_of configs l event) (sym (append-nil past) ∙ sym (before_place-reverse [] events k)) ∙ replied_at configs [] events k event (replies.Read reading) r.asks r.replied in
    let good = reading_not_bad (first_bad configs (accepted configs past) event) (reply_to configs (accepted configs past) event.action) reading before in
    let kept : accepted configs (event ∷ past) ≡ event ∷ accepted configs past = accepted-good configs past event good.0 in
    let parts = not_refused (eqb (length configs) 0 || ltb 8 (length configs)) Machines (twin_of_event side configs past (slice_get events k)) twin is in
    let few : length configs ≤ 8 = ltb-false 8 (length configs) (or_parts _ _ parts.0).1 in
    let defined : twin_unless_cut side configs m r.clock (making_of configs (event ∷ accepted configs past) m number) (looks_of configs (event ∷ accepted configs past) m number) ≡ Ok twin =
    sym (
    ap (λ (o : Option Event). twin_of_event side configs past o) r.asks
    ∙ ap (λ (reply : Reply). twin_of_reply side configs (accepted configs (event ∷ past)) event.action reply) before
    ∙ ap (λ (l : List Event). twin_unless_cut side configs m r.clock (making_of configs l m number) (looks_of configs l m number)) kept
    ) ∙ parts.1 in
    let all = reached_after configs (accepted configs past) side r.at m r.worker r.clock number reading twin configurations few (good_of configs (accepted configs past) event good.0, good_accepted configs past) (same_reading _ reading good.1) defined in
    let same : accepted_to configs events k ≡ event ∷ accepted configs past = ap (λ (l : List Event). accepted configs l) (past_at events k event r.asks) ∙ kept in
    record {
      worthy = subst (λ (l : List Event). IsTwin configs l m number (end_of side reading) twin) (sym same) all.0;
      wide = λ span right. all.1 span (subst (λ (l : List Event). IsRightForLook configs l m number span) same right);
    }

-- so it is with a result that is the defined twin
pub worth-ok : (configs : List Configuration) (events : List Event) (k : ℕ) (side : Side) (r : Result (Vec Event Global) TwinFault) → AreConfigurations configs → IfOk r (λ twin. twin_of configs events k side ≡ Ok twin.items) →
    IfOk r (λ twin. (m number : ℕ) (reading : Interval) → IsReadingOf configs events k m number reading → IsTwin configs (accepted_to configs events k) m number (end_of side reading) twin.items)
worth-ok configs events k side (Ok twin) configurations h = λ m number reading r. (reached configs events k side m number reading twin.items configurations r h).worthy
worth-ok configs events k side (Err e) configurations h = tt

pub wide-ok : (configs : List Configuration) (events : List Event) (k : ℕ) (side : Side) (r : Result (Vec Event Global) TwinFault) → AreConfigurations configs → IfOk r (λ twin. twin_of configs events k side ≡ Ok twin.items) →
    OnOk r ((m number : ℕ) (reading span : Interval) → IsReadingOf configs events k m number reading → IsRightForLook configs (accepted_to configs events k) m number span → Holds span (end_of side reading))
wide-ok configs events k side (Ok twin) configurations h = λ m number reading span r right. (reached configs events k side m number reading twin.items configurations r h).wide span right
wide-ok configs events k side (Err e) configurations h = tt
