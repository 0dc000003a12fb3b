-- One event of a run, with its reply.
use Rattle.std.proofs.Common.{◌≡◌, ℕ, suc, ◌+◌, ◌<◌, Bool, true, false, cond, is_some, List, [], ◌∷◌, ◌++◌, length, get_or, slice_get, take, reverse, Option, Some, None, IfSome, refl, ap, ap₂, subst, ◌∙◌, sym, arith, append-nil, ltb-true, map}
use Rattle.std.specs.List.{zip}
use Rattle.std.specs.Prelude.{◌↔◌, IsTrue}
use Rattle.std.specs.Option.{option_or}
use Rattle.std.proofs.lemmas.Bool.{and_parts, not-false, false≢true}
use Rattle.std.proofs.lemmas.Option.{slice_get-get_or}
use Rattle.std.proofs.lemmas.List.{take_more, reverse-append, length-take-le, map-append}
use Rattle.tt_daemon.specs.Config.{Configuration}
use Rattle.tt_world.specs.Config.{config_at}
use Rattle.tt_world.specs.declared.faults.WorldFault.{WorldFault}
use Rattle.tt_world.specs.declared.events.Event.{Event}
use Rattle.tt_world.specs.declared.events.Action.{Action}
use Rattle.tt_world.specs.declared.events.Action.TheVariants.{Arrive, Stamp}
use Rattle.tt_world.specs.declared.events.Reply.{Reply}
use Rattle.tt_world.specs.declared.events.Reply.TheVariants as replies
use Rattle.tt_world.specs.Past.{clock_reading}
use Rattle.tt_world.specs.Bad.{has_worker, first_bad, accepted}
use Rattle.tt_world.specs.Reply.{IsBadReply, reply_to, reply_unless_bad, reply_of, replies_from}
use Rattle.tt_world.specs.Assumptions.{drift_breach, falsity_breach, breach_of, NoBreach}
use Rattle.tt_world.proofs.Headline.Laws.{accepted-reply}
use Rattle.tt_world.proofs.Histories.Judging.{good_of, good_accepted, accepted-good}
use Rattle.tt_world.proofs.Histories.Lasting.{Lasts-accepted}
use Rattle.tt_world.proofs.Histories.Placing.{before_place, before_place-reverse, replied_at}
use Rattle.tt_audit.specs.Violations.{Answered, asked_by, stamped_by, answered_of}
use Rattle.tt_audit.specs.Ordering.{IsPlace, IsPlaced}
use Rattle.tt_audit.specs.Watch.{WatchState, nothing_watched, KeepsWatch, IsWatchable, watch_after, breach_seen}
use Rattle.tt_audit.proofs.Noting.{IsSetting, KeepsWatch-nothing, IsNext, IsWatchable-next, KeepsWatch-more, breach-seen}

-- ---- a bad event changes nothing

bad_reason : (configs : List Configuration) (past : List Event) (event : Event) (o : Option WorldFault) → first_bad configs (accepted configs past) event ≡ o → (o ≡ None → ⊥)
    → (accepted configs (event ∷ past) ≡ accepted configs past) × (breach_of configs past event ≡ None)
bad_reason configs past event None is some = absurd (some refl)
bad_reason configs past event (Some fault) is some = (
  ap (λ (o : Option WorldFault). cond (is_some o) (accepted configs past) (event ∷ accepted configs past)) is,
  ap (λ (o : Option WorldFault). cond (is_some o) None (option_or (drift_breach configs (accepted configs past) event.at (clock_reading (accepted configs past) event.action)) (falsity_breach configs (accepted configs past) event.action))) is,
)

pub bad-stays : (configs : List Configuration) (past : List Event) (event : Event) → IsBadReply (reply_of configs past event)
    → (accepted configs (event ∷ past) ≡ accepted configs past) × (breach_of configs past event ≡ None)
bad-stays configs past event bad = bad_reason configs past event (first_bad configs (accepted configs past) event) refl (λ none. (accepted-reply configs past event).0 none bad)

-- ---- an event that is not bad

module _ (configs : List Configuration) (past : List Event) (event : Event) (setting : IsSetting configs) (not_bad : ¬ IsBadReply (reply_of configs past event)) where
  reason_is : first_bad configs (accepted configs past) event ≡ None
  reason_is = (accepted-reply configs past event).1 not_bad

  reply_is : reply_of configs past event ≡ reply_to configs (accepted configs past) event.action
  reply_is = ap (λ (o : Option WorldFault). reply_unless_bad o (reply_to configs (accepted configs past) event.action)) reason_is

  breach_is : breach_of configs past event ≡ option_or (drift_breach configs (accepted configs past) event.at (clock_reading (accepted configs past) event.action)) (falsity_breach configs (accepted configs past) event.action)
  breach_is = ap (λ (o : Option WorldFault). cond (is_some o) None (option_or (drift_breach configs (accepted configs past) event.at (clock_reading (accepted configs past) event.action)) (falsity_breach configs (accepted configs past) event.action))) reason_is

  pub next-good : IsNext configs (accepted configs past) event.at event.action
  next-good = record {
    setting = setting;
    good = good_accepted configs past;
    known = (Lasts-accepted configs past).known;
    next = good_of configs (accepted configs past) event reason_is;
  }

  pub watchable : (state : WatchState) → KeepsWatch configs (accepted configs past) state → IsWatchable configs state event (reply_of configs past event)
  watchable state keeps = IsWatchable-next configs (accepted configs past) event.at event.action (reply_of configs past event) state next-good keeps.carried

  pub watched-good : (state : WatchState) → KeepsWatch configs (accepted configs past) state → KeepsWatch configs (accepted configs (event ∷ past)) (watch_after configs state event (reply_of configs past event))
  watched-good state keeps =
      subst (λ (es : List Event). KeepsWatch configs es (watch_after configs state event (reply_of configs past event))) (sym (accepted-good configs past event reason_is))
      (subst (λ (r : Reply). KeepsWatch configs (event ∷ accepted configs past) (watch_after configs state event r)) (sym reply_is)
      (KeepsWatch-more configs (accepted configs past) event.at event.action next-good state keeps))

  pub seen-good : (state : WatchState) → KeepsWatch configs (accepted configs past) state → breach_seen configs state event ≡ breach_of configs past event
  seen-good state keeps = breach-seen configs (accepted configs past) event.at event.action next-good state keeps ∙ sym breach_is

-- ---- the event at a place of a run

-- event and reply stand at place n of a run
pub record IsAt (configs : List Configuration) (events : List Event) (n : ℕ) (event : Event) (reply : Reply) : Type 0 where
  pub there : slice_get events n ≡ Some event
  pub replied : reply ≡ reply_of configs (reverse (take n events)) event
  pub next : reverse (take (n + 1) events) ≡ event ∷ reverse (take n events)

pub is-at : (configs : List Configuration) (events : List Event) (all : List Reply) (n : ℕ) (event : Event) (reply : Reply) → all ≡ replies_from configs [] events
    → n < length events → n < length all → event ≡ get_or events n event → reply ≡ get_or all n reply → IsAt configs events n event reply
is-at configs events all n event reply are inside within event_is reply_is =
    let there : slice_get events n ≡ Some event = slice_get-get_or events n event inside ∙ ap Some (sym event_is) in
    let given : slice_get all n ≡ Some reply = slice_get-get_or all n reply within ∙ ap Some (sym reply_is) in
    let before = before_place-reverse [] events n ∙ append-nil (reverse (take n events)) in
    record {
      there = there;
      replied = sym (replied_at configs [] events n event reply there (subst (λ (rs : List Reply). slice_get rs n ≡ Some reply) are given)) ∙ ap (λ (es : List Event). reply_of configs es event) before;
      next = ap (λ (es : List Event). reverse es) (take_more events n event inside ∙ ap (λ (e : Event). take n events ++ e ∷ []) (sym event_is)) ∙ reverse-append (take n events) (event ∷ []);
    }

-- ---- the workers of commits are there

worker_there : (configs : List Configuration) (m w : ℕ) → IsSetting configs → (has_worker configs m w ≡ true) → IsPlace (record { machine = m; worker = w })
worker_there configs m w setting named =
    let parts = and_parts _ _ named in
    let there : m < length configs = ltb-true m _ parts.0 in
    let works : w < (config_at configs m).workers = ltb-true w _ parts.1 in
    (omega (arith, setting.few), omega (arith, works, (setting.valid m there).workers_in))

asked_there : (configs : List Configuration) (past : List Event) (at : ℕ) (action : Action) (reply : Reply) → IsSetting configs → reply ≡ reply_of configs past (record { at = at; action = action }) → IfSome (asked_by action reply) IsPlace
asked_there configs past at (Arrive m w id floor) replies.Arrived setting is =
    let not_bad : ¬ IsBadReply (reply_of configs past (record { at = at; action = Arrive m w id floor })) = subst (λ (r : Reply). ¬ IsBadReply r) is (λ h. h) in
    worker_there configs m w setting (not-false (has_worker configs m w) (next-good configs past (record { at = at; action = Arrive m w id floor }) setting not_bad).next.named)
asked_there configs past at (Arrive m w id floor) _ setting is = tt
asked_there configs past at _ _ setting is = tt

stamped_there : (configs : List Configuration) (past : List Event) (at : ℕ) (action : Action) (reply : Reply) → IsSetting configs → reply ≡ reply_of configs past (record { at = at; action = action })
    → IfSome (stamped_by action reply) (λ s. IsPlace s.place)
stamped_there configs past at (Stamp m w) (replies.Stamped s) setting is =
    let not_bad : ¬ IsBadReply (reply_of configs past (record { at = at; action = Stamp m w })) = subst (λ (r : Reply). ¬ IsBadReply r) is (λ h. h) in
    worker_there configs m w setting (not-false (has_worker configs m w) (next-good configs past (record { at = at; action = Stamp m w }) setting not_bad).next.named)
stamped_there configs past at (Stamp m w) _ setting is = tt
stamped_there configs past at _ _ setting is = tt

pub is-placed : (configs : List Configuration) (past : List Event) (event : Event) (reply : Reply) → IsSetting configs → reply ≡ reply_of configs past event → IsPlaced event.action reply
is-placed configs past event reply setting is = record {
  asked = asked_there configs past event.at event.action reply setting is;
  stamped = stamped_there configs past event.at event.action reply setting is;
}

-- ---- the events so far

-- what is kept is of the events before place n that were not bad, and none of them breaks an assumption
pub record IsWatchedTo (configs : List Configuration) (events : List Event) (n : ℕ) (state : WatchState) : Type 0 where
  pub keeps : KeepsWatch configs (accepted configs (reverse (take n events))) state
  pub none : NoBreach configs (reverse (take n events))

pub watched-nothing : (configs : List Configuration) (events : List Event) → IsWatchedTo configs events 0 nothing_watched
watched-nothing configs events = record { keeps = KeepsWatch-nothing configs; none = tt }

module _ (configs : List Configuration) (events : List Event) (n : ℕ) (event : Event) (reply : Reply) (state : WatchState) (at : IsAt configs events n event reply) (before : IsWatchedTo configs events n state) where
  pub bad-more : IsBadReply reply → IsWatchedTo configs events (n + 1) state
  bad-more bad =
      let stays = bad-stays configs (reverse (take n events)) event (subst (λ (r : Reply). IsBadReply r) at.replied bad) in
      record {
        keeps = subst (λ (es : List Event). KeepsWatch configs es state) (sym (ap (λ (es : List Event). accepted configs es) at.next ∙ stays.0)) before.keeps;
        none = subst (λ (es : List Event). NoBreach configs es) (sym at.next) (stays.1, before.none);
      }

  module _ (setting : IsSetting configs) (not_bad : ¬ IsBadReply reply) where
    still : ¬ IsBadReply (reply_of configs (reverse (take n events)) event)
    still = subst (λ (r : Reply). ¬ IsBadReply r) at.replied not_bad

    pub watchable-here : IsWatchable configs state event reply
    watchable-here = subst (λ (r : Reply). IsWatchable configs state event r) (sym at.replied) (watchable configs (reverse (take n events)) event setting still state before.keeps)

    pub breach-here : breach_seen configs state event ≡ breach_of configs (reverse (take n events)) event
    breach-here = seen-good configs (reverse (take n events)) event setting still state before.keeps

    pub good-more : breach_seen configs state event ≡ None → IsWatchedTo configs events (n + 1) (watch_after configs state event reply)
    good-more none = record {
      keeps = subst (λ (es : List Event). KeepsWatch configs (accepted configs es) (watch_after configs state event reply)) (sym at.next)
          (subst (λ (r : Reply). KeepsWatch configs (accepted configs (event ∷ reverse (take n events))) (watch_after configs state event r)) (sym at.replied) (watched-good configs (reverse (take n events)) event setting still state before.keeps));
      none = subst (λ (es : List Event). NoBreach configs es) (sym at.next) (sym breach-here ∙ none, before.none);
    }

pub not-bad : (b : Bool) (reply : Reply) → (IsTrue b ↔ IsBadReply reply) → b ≡ false → ¬ IsBadReply reply
not-bad true reply iff h bad = absurd cc
not-bad false reply iff h bad = absurd (false≢true (iff.1 bad))

pub is-bad : (b : Bool) (reply : Reply) → (IsTrue b ↔ IsBadReply reply) → b ≡ true → IsBadReply reply
is-bad true reply iff h = iff.0 refl
is-bad false reply iff h = absurd cc

-- ---- commits

-- two lists side by side, with one element more
pub zip-push : {X Y : Type 0} (xs : List X) (ys : List Y) (x : X) (y : Y) → length xs ≡ length ys → zip (xs ++ x ∷ []) (ys ++ y ∷ []) ≡ zip xs ys ++ (x, y) ∷ []
zip-push [] [] x y same = refl
zip-push [] (b ∷ ys) x y same = absurd (omega arith)
zip-push (a ∷ xs) [] x y same = absurd (omega arith)
zip-push {X} {Y} (a ∷ xs) (b ∷ ys) x y same = ap (λ (ps : List (X × Y)). (a, b) ∷ ps) (zip-push xs ys x y (omega arith))

abbrev answered : Event × Reply → Answered
answered p = record { event = p.0; reply = p.1 }

-- one event more with its reply
pub answered_of-more : (events : List Event) (all : List Reply) (n : ℕ) (event : Event) (reply : Reply) → n < length events → n < length all → event ≡ get_or events n event → reply ≡ get_or all n reply
    → answered_of (take (n + 1) events) (take (n + 1) all) ≡ record { event = event; reply = reply } ∷ answered_of (take n events) (take n all)
answered_of-more events all n event reply inside within event_is reply_is =
    ap₂ (λ (es : List Event) (rs : List Reply). answered_of es rs)
    (take_more events n event inside ∙ ap (λ (e : Event). take n events ++ e ∷ []) (sym event_is))
    (take_more all n reply within ∙ ap (λ (r : Reply). take n all ++ r ∷ []) (sym reply_is))
    ∙ ap (λ (ps : List (Event × Reply)). reverse (map answered ps)) (zip-push (take n events) (take n all) event reply (length-take-le n events (omega arith) ∙ sym (length-take-le n all (omega arith))))
    ∙ ap (λ (all : List Answered). reverse all) (map-append answered (zip (take n events) (take n all)) ((event, reply) ∷ []))
    ∙ reverse-append (map answered (zip (take n events) (take n all))) (record { event = event; reply = reply } ∷ [])

-- ---- the replies of a run

pub length-replies_from : (configs : List Configuration) (past events : List Event) → length (replies_from configs past events) ≡ length events
length-replies_from configs past [] = refl
length-replies_from configs past (event ∷ events) = ap (λ (n : ℕ). suc n) (length-replies_from configs (event ∷ past) events)

-- the workers of commits are there in a whole run
pub all-placed : (configs : List Configuration) (events : List Event) (all : List Reply) → IsSetting configs → all ≡ replies_from configs [] events
    → (k : ℕ) (event : Event) (reply : Reply) → slice_get events k ≡ Some event → slice_get all k ≡ Some reply → IsPlaced event.action reply
all-placed configs events all setting are k event reply there given =
    is-placed configs (before_place [] events k) event reply setting
    (sym (replied_at configs [] events k event reply there (subst (λ (rs : List Reply). slice_get rs k ≡ Some reply) are given)))
