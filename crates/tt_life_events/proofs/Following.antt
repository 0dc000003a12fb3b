-- A list of what the threads of a machine did is a run of the model.
use Rattle.std.proofs.Common.{◌≡◌, ◌&&◌, ℕ, suc, zero, ◌^◌, ◌<◌, ◌≤◌, max, Bool, true, false, cond, eqb, List, [], ◌∷◌, ◌++◌, length, Option, Some, None, Ok, refl, sym, ap, subst, ◌∙◌, arith, lt-ltb, append_assoc}
use Rattle.std.specs.Prelude.{IfSome}
use Rattle.std.specs.Option.{option_or}
use Rattle.std.proofs.lemmas.Bool.{eqb-true}
use Rattle.std.proofs.lemmas.List.{append-nil}
use Rattle.tt_span.specs.Time.{max_time}
use Rattle.tt_span.specs.Interval.{Interval}
use Rattle.tt_span.specs.Drift.{Moment}
use Rattle.tt_daemon.specs.Config.{Configuration}
use Rattle.tt_publish.specs.declared.readings.FusedSpan.{FusedSpan}
use Rattle.tt_stamp.specs.Stamping.{IsLegalRun, MayAdd, stamps_of as stamps_alone}
use Rattle.tt_stamp.specs.Stamp.{stamp_of}
use Rattle.tt_stamp.specs.declared.stampings.Stamping.{Stamping}
use Rattle.tt_world.specs.Bad.{first_bad, has_worker}
use Rattle.tt_world.specs.Commits.{reading_since, stamp_given, stamp_held, stamping_of, stamps_of, with_stamp}
use Rattle.tt_world.specs.Config.{config_at}
use Rattle.tt_world.specs.Life.{Life, is_of, life_at}
use Rattle.tt_world.specs.Past.{clock_of, moments_of, sends_of, sends_now, time_of}
use Rattle.tt_world.specs.Publications.{publication_at, publications_of, reading_at, seen_of}
use Rattle.tt_world.specs.Reply.{reply_of, stamping_reply}
use Rattle.tt_world.specs.declared.events.Event.{Event}
use Rattle.tt_world.specs.declared.events.Action.TheVariants as action
use Rattle.tt_world.specs.declared.events.Reply.TheVariants as reply
use Rattle.tt_world.specs.declared.workers.Arrival.{Arrival}
use Rattle.tt_world.proofs.Simulation.Waiting.{happens}
use Rattle.tt_consistency.specs.Running.{Start}
use Rattle.tt_consistency.specs.Steps.{Kept, Step, after_steps, kept_at, new_kept, steps_in}
use Rattle.tt_consistency.specs.Timeline.{AreOf, BeginsLife, Happening, IsForward, Timed, events_at, events_of, moment_of, restarts_of, shows_after, step_of, steps_told}
use Rattle.tt_consistency.specs.Timeline as telling
use Rattle.tt_consistency.proofs.LivingRounds.{goes_on_by-steps}
use Rattle.tt_consistency.proofs.Running.{Reached, told}
use Rattle.tt_life_events.specs.Merging.{Deed, Does, Stamps}
use Rattle.tt_life_events.specs.Acts.{Act, AllReplyAs, CanBe, Gives, Happens, IsNext, IsRunOfAll, IsUnworked, LifeDone, Reads, RepliesAs, Waiting, entries_in, events_by, events_in, if_given, moments_in, published_in, reading_in, seen_in, shown_in, time_in, timeline_in, waits_in}
use Rattle.tt_life_events.proofs.Asked.{IsWaiting, own, own_life, reached-arrive, reached-lease, reached-read, reached-stamp, read-good, read-reply, reply-good, stamp-good, stamp-is, stamping-is}
use Rattle.tt_life_events.proofs.Quiet.{AreSame, happening-same, happening-sends}

forward-from : (a b : ℕ) (h : Happening) → a ≤ b → IsForward b h → IsForward a h
forward-from a b (telling.Does step) less on = (omega (arith, on.0), on.1)
forward-from a b (telling.Answers source nonce span) less on = tt

shows-from : (a b : ℕ) (h : Happening) → a ≤ b → shows_after h a ≤ shows_after h b
shows-from a b (telling.Does step) less = omega arith
shows-from a b (telling.Answers source nonce span) less = less

pub restarts-unworked : (configuration : Configuration) (m at clock lives : ℕ) (life : Life) → IsUnworked configuration (restarts_of m at clock lives) life
restarts-unworked configuration m at clock zero life = record { seen = λ w. refl; stamps = refl }
restarts-unworked configuration m at clock (suc n) life =
    let before = restarts-unworked configuration m at clock n life in
    record { seen = λ w. before.seen w; stamps = before.stamps }

-- ---- what a worker has after its own events

module _ (config : Configuration) (past : List Event) (life : Life) (m at : ℕ) (mine : is_of past life m ≡ true) where
  seen-read : (w clock k v seen : ℕ) → seen_of past life v ≡ seen → (w ≡ v → seen ≤ k) → seen_of (happens at (action.Read m w clock k) ∷ past) life v ≡ cond (eqb w v) k seen
  seen-read w clock k v seen before less =
      ap (λ (b : Bool). cond (b && eqb w v) (max k (seen_of past life v)) (seen_of past life v)) mine
      ∙ ap (λ (n : ℕ). cond (eqb w v) (max k n) n) before
      ∙ by_worker (eqb w v) refl
    where
      by_worker : (b : Bool) → eqb w v ≡ b → cond b (max k seen) seen ≡ cond b k seen
      by_worker true e = let less_here = less (eqb-true w v e) in omega arith
      by_worker false e = refl

  waits-other_read : (w clock k v : ℕ) (waiting : Waiting) → eqb w v ≡ false → IsWaiting config past life v waiting → IsWaiting config (happens at (action.Read m w clock k) ∷ past) life v waiting
  waits-other_read w clock k v waiting e is = record {
    arrival = is.arrival;
    reading =
        ap (λ (b : Bool). option_or (cond (b && eqb w v) (Some (reading_at config.drift (publication_at (publications_of config past life) k) clock)) None) (reading_since config past life v)) mine
        ∙ ap (λ (b : Bool). option_or (cond b (Some (reading_at config.drift (publication_at (publications_of config past life) k) clock)) None) (reading_since config past life v)) e
        ∙ is.reading;
    held = is.held;
    queued = is.queued;
  }

  waits-other_arrive : (w v : ℕ) (arrival : Arrival) (waiting : Waiting) → eqb w v ≡ false → IsWaiting config past life v waiting → IsWaiting config (happens at (action.Arrive m w arrival.id arrival.floor) ∷ past) life v waiting
  waits-other_arrive w v arrival waiting e is =
      let own_life = mine in
      record {
        arrival = rw (own_life, e) is.arrival;
        reading = rw (own_life, e) is.reading;
        held = rw (own_life, e) is.held;
        queued = rw (own_life, e) is.queued;
      }

  waits-own : (w clock k v : ℕ) (arrival : Arrival) (published : List FusedSpan) → eqb w v ≡ true → publications_of config past life ≡ published
      → IsWaiting config (happens at (action.Read m w clock k) ∷ happens at (action.Arrive m w arrival.id arrival.floor) ∷ past) life v (record { reading = reading_at config.drift (publication_at published k) clock; arrival = arrival })
  waits-own w clock k v arrival published e made =
      let own_life = mine in
      record {
        arrival = rw (own_life, e) refl;
        reading = rw (own_life, e) (ap (λ (p : List FusedSpan). Some (reading_at config.drift (publication_at p k) clock)) (append-nil (publications_of config past life) ∙ made));
        held = rw (own_life, e) refl;
        queued = rw (own_life, e) refl;
      }

  waits-lease : (v : ℕ) (lease : Interval) (waiting : Waiting) → IsWaiting config past life v waiting → IsWaiting config (happens at (action.Lease m lease) ∷ past) life v waiting
  waits-lease v lease waiting is = record { arrival = is.arrival; reading = is.reading; held = is.held; queued = is.queued }

  waits-other_stamp : (w v : ℕ) (waiting : Waiting) → eqb w v ≡ false → IsWaiting config past life v waiting → IsWaiting config (happens at (action.Stamp m w) ∷ past) life v waiting
  waits-other_stamp w v waiting e is = record {
    arrival = is.arrival;
    reading = is.reading;
    held =
        ap (λ (b : Bool). cond (b && eqb w v) (option_or (stamp_given (stamping_of config past life v)) (stamp_held config past life v)) (stamp_held config past life v)) mine
        ∙ ap (λ (b : Bool). cond b (option_or (stamp_given (stamping_of config past life v)) (stamp_held config past life v)) (stamp_held config past life v)) e
        ∙ is.held;
    queued = is.queued;
  }

  stamps-more : (w : ℕ) (given : List ℕ) (s : ℕ) → stamps_of config past life ≡ given → stamping_of config past life w ≡ Some (Ok s) → stamps_of config (happens at (action.Stamp m w) ∷ past) life ≡ s ∷ given
  stamps-more w given s are stamped =
      let own_life = mine in
      rw own_life (ap (λ o. with_stamp (stamps_of config past life) (stamp_given o)) stamped ∙ ap (λ (xs : List ℕ). s ∷ xs) are)

-- ---- a list

module _ (configs : List Configuration) (m number : ℕ) (there : m < length configs) (base : List Event) (start : Start) (begins : BeginsLife configs m number start.at start.clock base)
    (unworked : IsUnworked (config_at configs m) base (life_at base m)) where
  abbrev config : Configuration
  config = config_at configs m

  abbrev life : Life
  life = life_at base m

  -- the events of a list leave what the list says
  record Follows (past : List Event) (all : List LifeDone) : Type 0 where
    pub shown : ℕ
    pub reached : Reached configs m there base past (steps_told (timeline_in all)) (moments_in all) (time_in start.at all) shown
    pub by_shown : shown ≤ shown_in start.clock all
    pub seen : (w : ℕ) → seen_of past life w ≡ seen_in w all
    pub stamps : stamps_of config past life ≡ stamps_alone (entries_in all)
    pub waits : (w : ℕ) → IfSome (waits_in config m number w all) (IsWaiting config past life w)
    pub sends : sends_of past life ≤ length all

  follows-base : Follows base []
  follows-base = record {
    shown = clock_of base life;
    reached = record { good = begins.good; same = refl; steps_are = refl; moments_are = refl; by_time = begins.by_time; shows = refl };
    by_shown = begins.by_clock;
    seen = unworked.seen;
    stamps = unworked.stamps;
    waits = λ w. tt;
    sends = let none : sends_of base life ≡ 0 = begins.none_polled in omega arith;
  }

  -- what is published by then
  published-by : (events : List Event) (all : List LifeDone) → Follows (events ++ base) all → length all < 2 ^ 64 → publications_of config (events ++ base) life ≡ published_in config m number all
  published-by events all follows few =
      let reached = follows.reached in
      let sent : sends_of (events ++ base) life < 2 ^ 64 = omega (arith, follows.sends) in
      let room : sends_now (events ++ base) m < 2 ^ 64 = subst (λ (n : ℕ). sends_of (events ++ base) (record { machine = m; number = n }) < 2 ^ 64) (sym reached.same) sent in
      let kept : kept_at configs (events ++ base) m ≡ after_steps (kept_at configs base m) (steps_told (timeline_in all)) =
      goes_on_by-steps configs base events m (steps_told (timeline_in all)) reached.good reached.same reached.steps_are room in
      let made : kept_at configs (events ++ base) m ≡ after_steps (new_kept config m number) (steps_told (timeline_in all)) = kept ∙ ap (λ (k : Kept). after_steps k (steps_told (timeline_in all))) begins.as_new in
      ap (λ (n : ℕ). publications_of config (events ++ base) (record { machine = m; number = n })) (sym reached.same) ∙ ap (λ (k : Kept). k.published) made

  same-waits : (past new : List Event) (all : List LifeDone) → AreSame config life past new → (w : ℕ) (o : Option Waiting) → IfSome o (IsWaiting config past life w) → IfSome o (IsWaiting config new life w)
  same-waits past new all same w None is = tt
  same-waits past new all same w (Some waiting) is = record {
    arrival = same.arrival w ∙ is.arrival;
    reading = same.reading w ∙ is.reading;
    held = same.held w ∙ is.held;
    queued = same.queued w ∙ is.queued;
  }

  -- ---- something between the daemon and its sources
  follows-happens : (past : List Event) (all : List LifeDone) → Follows past all → (at : ℕ) (h : Happening) → time_in start.at all ≤ at → at ≤ max_time → AreOf config.sources (step_of h) → IsForward (shown_in start.clock all) h
      → Follows (events_at past m at h ++ past) (record { at = at; deed = Does (Happens h) } ∷ all)
  follows-happens past all follows at h later in_time named on =
      let reached = follows.reached in
      let same_life = own_life configs m there base past (steps_told (timeline_in all)) (moments_in all) (time_in start.at all) follows.shown reached at later in_time in
      let by : time_of past ≤ time_in start.at all = reached.by_time in
      let shows : clock_of past (life_at past m) ≡ follows.shown = ap (clock_of past) same_life ∙ reached.shows in
      let step : Reached configs m there past (events_of past m (record { at = at; happening = h } ∷ []) ++ past) (step_of h ++ []) (moment_of at h ++ []) at (shows_after h (clock_of past (life_at past m))) =
      told configs m there past reached.good (record { at = at; happening = h } ∷ [])
      (subst (AreOf config.sources) (sym (append-nil (step_of h))) named)
      (omega arith, in_time, forward-from (clock_of past (life_at past m)) (shown_in start.clock all) h (omega (arith, shows, follows.by_shown)) on, tt) in
      let one : Reached configs m there past (events_at past m at h ++ past) (step_of h ++ []) (moment_of at h ++ []) at (shows_after h (clock_of past (life_at past m))) =
      subst (λ (events : List Event). Reached configs m there past (events ++ past) (step_of h ++ []) (moment_of at h ++ []) at (shows_after h (clock_of past (life_at past m)))) (append-nil (events_at past m at h)) step in
      let same = happening-same config life past m at h in
      record {
        shown = shows_after h follows.shown;
        reached = record {
          good = one.good;
          same = one.same ∙ reached.same;
          steps_are =
              one.steps_are
              ∙ ap (λ (steps : List Step). steps ++ steps_in past m) (append-nil (step_of h))
              ∙ ap (λ (steps : List Step). step_of h ++ steps) reached.steps_are
              ∙ sym (append_assoc (step_of h) (steps_told (timeline_in all)) (steps_in base m));
          moments_are =
              ap (moments_of (events_at past m at h ++ past)) (sym same_life)
              ∙ one.moments_are
              ∙ ap (λ (moments : List Moment). moments ++ moments_of past (life_at past m)) (append-nil (moment_of at h))
              ∙ ap (λ (l : Life). moment_of at h ++ moments_of past l) same_life
              ∙ ap (λ (moments : List Moment). moment_of at h ++ moments) reached.moments_are
              ∙ sym (append_assoc (moment_of at h) (moments_in all) (moments_of base life));
          by_time = one.by_time;
          shows = ap (clock_of (events_at past m at h ++ past)) (sym same_life) ∙ one.shows ∙ ap (shows_after h) shows;
        };
        by_shown = shows-from follows.shown (shown_in start.clock all) h follows.by_shown;
        seen = λ w. same.seen w ∙ follows.seen w;
        stamps = same.stamps ∙ follows.stamps;
        waits = λ w. same-waits past (events_at past m at h ++ past) all same w (waits_in config m number w all) (follows.waits w);
        sends = omega (arith, happening-sends life past m at h, follows.sends);
      }

  has-worker : (w : ℕ) → w < config.workers → has_worker configs m w ≡ true
  has-worker w known = let a = lt-ltb m (length configs) there in let b = lt-ltb w config.workers known in rw (a, b) refl

  -- ---- a reading

  -- what can be said of a reading that can be next
  record CanRead (all : List LifeDone) (at w clock k : ℕ) : Type 0 where
    pub later : time_in start.at all ≤ at
    pub in_time : at ≤ max_time
    pub known : w < config.workers
    pub on : shown_in start.clock all ≤ clock
    pub fits : clock ≤ max_time
    pub first : 0 < k
    pub made : k ≤ length (published_in config m number all)
    pub seen : seen_in w all ≤ k

  read-none : (past : List Event) (all : List LifeDone) → Follows past all → publications_of config past life ≡ published_in config m number all → (at w clock k : ℕ) → CanRead all at w clock k
      → Follows (happens at (action.Read m w clock k) ∷ past) (record { at = at; deed = Does (Reads w clock k None) } ∷ all)
      × (reply_of configs past (happens at (action.Read m w clock k)) ≡ reply.Read (reading_in config m number all clock k))
  read-none past all follows made at w clock k can =
      let steps = steps_told (timeline_in all) in
      let moments = moments_in all in
      let time = time_in start.at all in
      let mine : is_of past life m ≡ true = own configs m there base past steps moments time follows.shown follows.reached at can.later can.in_time in
      let enough : k ≤ length (publications_of config past life) = subst (λ (p : List FusedSpan). k ≤ length p) (sym made) can.made in
      let seen : seen_of past life w ≤ k = subst (λ (n : ℕ). n ≤ k) (sym (follows.seen w)) can.seen in
      let goes : first_bad configs past (happens at (action.Read m w clock k)) ≡ None =
      read-good configs m there base past steps moments time follows.shown follows.reached at can.later can.in_time w clock k (has-worker w can.known) (omega (arith, follows.by_shown, can.on)) can.fits can.first enough seen in (
        record {
          shown = clock;
          reached = reached-read configs m there base past steps moments time follows.shown follows.reached at can.later can.in_time w clock k goes;
          by_shown = omega arith;
          seen = λ v. seen-read config past life m at mine w clock k v (seen_in v all) (follows.seen v) (λ same. subst (λ (n : ℕ). seen_in n all ≤ k) same can.seen);
          stamps = follows.stamps;
          waits = λ v. by_worker mine v (eqb w v) refl (follows.waits v);
          sends = omega (arith, follows.sends);
        },
        read-reply configs m there base past steps moments time follows.shown follows.reached at can.later can.in_time w clock k (published_in config m number all) made goes,
      )
    where
      by_worker : is_of past life m ≡ true → (v : ℕ) (b : Bool) → eqb w v ≡ b → IfSome (waits_in config m number v all) (IsWaiting config past life v)
          → IfSome (cond b None (waits_in config m number v all)) (IsWaiting config (happens at (action.Read m w clock k) ∷ past) life v)
      by_worker mine v true e is = tt
      by_worker mine v false e is = other (waits_in config m number v all) is
        where
          other : (o : Option Waiting) → IfSome o (IsWaiting config past life v) → IfSome o (IsWaiting config (happens at (action.Read m w clock k) ∷ past) life v)
          other None is = tt
          other (Some waiting) is = waits-other_read config past life m at mine w clock k v waiting e is

  read-some : (past : List Event) (all : List LifeDone) → Follows past all → publications_of config past life ≡ published_in config m number all → (at w clock k : ℕ) (arrival : Arrival) → CanRead all at w clock k
      → Follows (happens at (action.Read m w clock k) ∷ happens at (action.Arrive m w arrival.id arrival.floor) ∷ past) (record { at = at; deed = Does (Reads w clock k (Some arrival)) } ∷ all)
      × (reply_of configs (happens at (action.Arrive m w arrival.id arrival.floor) ∷ past) (happens at (action.Read m w clock k)) ≡ reply.Read (reading_in config m number all clock k))
  read-some past all follows made at w clock k arrival can =
      let steps = steps_told (timeline_in all) in
      let moments = moments_in all in
      let time = time_in start.at all in
      let between : List Event = happens at (action.Arrive m w arrival.id arrival.floor) ∷ past in
      let reached : Reached configs m there base between steps moments at follows.shown = reached-arrive configs m there base past steps moments time follows.shown follows.reached at can.later can.in_time w arrival (has-worker w can.known) in
      let mine : is_of past life m ≡ true = own configs m there base past steps moments time follows.shown follows.reached at can.later can.in_time in
      let still : publications_of config between life ≡ published_in config m number all = append-nil (publications_of config past life) ∙ made in
      let enough : k ≤ length (publications_of config between life) = subst (λ (p : List FusedSpan). k ≤ length p) (sym still) can.made in
      let seen : seen_of between life w ≤ k = subst (λ (n : ℕ). n ≤ k) (sym (follows.seen w)) can.seen in
      let goes : first_bad configs between (happens at (action.Read m w clock k)) ≡ None =
      read-good configs m there base between steps moments at follows.shown reached at (omega arith) can.in_time w clock k (has-worker w can.known) (omega (arith, follows.by_shown, can.on)) can.fits can.first enough seen in (
        record {
          shown = clock;
          reached = reached-read configs m there base between steps moments at follows.shown reached at (omega arith) can.in_time w clock k goes;
          by_shown = omega arith;
          seen = λ v. seen-read config between life m at mine w clock k v (seen_in v all) (follows.seen v) (λ same. subst (λ (n : ℕ). seen_in n all ≤ k) same can.seen);
          stamps = follows.stamps;
          waits = λ v. by_worker mine v (eqb w v) refl (follows.waits v);
          sends = omega (arith, follows.sends);
        },
        read-reply configs m there base between steps moments at follows.shown reached at (omega arith) can.in_time w clock k (published_in config m number all) still goes,
      )
    where
      by_worker : is_of past life m ≡ true → (v : ℕ) (b : Bool) → eqb w v ≡ b → IfSome (waits_in config m number v all) (IsWaiting config past life v)
          → IfSome (cond b (Some (record { reading = reading_in config m number all clock k; arrival = arrival })) (waits_in config m number v all))
          (IsWaiting config (happens at (action.Read m w clock k) ∷ happens at (action.Arrive m w arrival.id arrival.floor) ∷ past) life v)
      by_worker mine v true e is = waits-own config past life m at mine w clock k v arrival (published_in config m number all) e made
      by_worker mine v false e is = other (waits_in config m number v all) is
        where
          other : (o : Option Waiting) → IfSome o (IsWaiting config past life v)
              → IfSome o (IsWaiting config (happens at (action.Read m w clock k) ∷ happens at (action.Arrive m w arrival.id arrival.floor) ∷ past) life v)
          other None is = tt
          other (Some waiting) is =
              waits-other_read config (happens at (action.Arrive m w arrival.id arrival.floor) ∷ past) life m at mine w clock k v waiting e
              (waits-other_arrive config past life m at mine w v arrival waiting e is)

  -- ---- a stamp
  stamp-next : (past : List Event) (all : List LifeDone) → Follows past all → (at : ℕ) (given : Gives) (waiting : Waiting) (seats : ℕ) → time_in start.at all ≤ at → at ≤ max_time → given.worker < config.workers
      → waits_in config m number given.worker all ≡ Some waiting → given.entry.latest ≡ waiting.reading.hi → given.entry.floor ≡ waiting.arrival.floor → MayAdd seats (entries_in all) given.entry
      → Follows (happens at (action.Stamp m given.worker) ∷ happens at (action.Lease m given.entry.lease) ∷ past) (record { at = at; deed = Stamps given } ∷ all)
      × (reply_of configs (happens at (action.Lease m given.entry.lease) ∷ past) (happens at (action.Stamp m given.worker)) ≡ reply.Stamped given.entry.stamp)
  stamp-next past all follows at given waiting seats later in_time known waits latest floor may =
      let steps = steps_told (timeline_in all) in
      let moments = moments_in all in
      let time = time_in start.at all in
      let w = given.worker in
      let lease = given.entry.lease in
      let stamp = given.entry.stamp in
      let between : List Event = happens at (action.Lease m lease) ∷ past in
      let reached : Reached configs m there base between steps moments at follows.shown = reached-lease configs m there base past steps moments time follows.shown follows.reached at later in_time lease in
      let mine : is_of past life m ≡ true = own configs m there base past steps moments time follows.shown follows.reached at later in_time in
      let is : IsWaiting config past life w waiting = subst (λ (o : Option Waiting). IfSome o (IsWaiting config past life w)) waits (follows.waits w) in
      let still : IsWaiting config between life w waiting = waits-lease config past life m at mine w lease waiting is in
      let goes : first_bad configs between (happens at (action.Stamp m w)) ≡ None = stamp-good configs m there base between steps moments at follows.shown reached at (omega arith) in_time w waiting (has-worker w known) still in
      let computed : stamp_of (stamps_alone (entries_in all)) given.entry.latest given.entry.floor lease ≡ Ok stamp = stamp-is (stamps_alone (entries_in all)) given.entry.latest given.entry.floor lease stamp may.near may.least may.in_lease in
      let stamped : stamp_of (stamps_alone (entries_in all)) waiting.reading.hi waiting.arrival.floor lease ≡ Ok stamp =
      subst (λ (n : ℕ). stamp_of (stamps_alone (entries_in all)) waiting.reading.hi n lease ≡ Ok stamp) floor (subst (λ (n : ℕ). stamp_of (stamps_alone (entries_in all)) n given.entry.floor lease ≡ Ok stamp) latest computed) in
      let stamping : stamping_of config between life w ≡ Some (Ok stamp) =
      stamping-is configs m there base past steps moments time follows.shown follows.reached at later in_time w stamp lease waiting (stamps_alone (entries_in all)) is follows.stamps stamped in
      let same : life_at between m ≡ life = own_life configs m there base between steps moments at follows.shown reached at (omega arith) in_time in (
        record {
          shown = follows.shown;
          reached = reached-stamp configs m there base between steps moments at follows.shown reached at (omega arith) in_time w goes;
          by_shown = follows.by_shown;
          seen = follows.seen;
          stamps = stamps-more config between life m at mine w (stamps_alone (entries_in all)) stamp follows.stamps stamping;
          waits = λ v. by_worker mine v (eqb w v) refl (follows.waits v);
          sends = omega (arith, follows.sends);
        },
        reply-good configs between (happens at (action.Stamp m w)) reached.good goes
            ∙ ap (λ (l : Life). stamping_reply (stamping_of config between l w)) same
            ∙ ap stamping_reply stamping,
      )
    where
      by_worker : is_of past life m ≡ true → (v : ℕ) (b : Bool) → eqb given.worker v ≡ b → IfSome (waits_in config m number v all) (IsWaiting config past life v)
          → IfSome (cond b None (waits_in config m number v all)) (IsWaiting config (happens at (action.Stamp m given.worker) ∷ happens at (action.Lease m given.entry.lease) ∷ past) life v)
      by_worker mine v true e is = tt
      by_worker mine v false e is = other (waits_in config m number v all) is
        where
          other : (o : Option Waiting) → IfSome o (IsWaiting config past life v)
              → IfSome o (IsWaiting config (happens at (action.Stamp m given.worker) ∷ happens at (action.Lease m given.entry.lease) ∷ past) life v)
          other None is = tt
          other (Some waiting) is =
              waits-other_stamp config (happens at (action.Lease m given.entry.lease) ∷ past) life m at mine given.worker v waiting e
              (waits-lease config past life m at mine v given.entry.lease waiting is)

  -- ---- all of it

  -- one more thing that can be done next
  next-follows : (past : List Event) (all : List LifeDone) → Follows past all → publications_of config past life ≡ published_in config m number all → (at : ℕ) (deed : Deed Act Gives) (seats : ℕ)
      → time_in start.at all ≤ at → at ≤ max_time → IsNext config m number start.clock all deed → IsLegalRun seats (if_given deed ++ entries_in all)
      → Follows (events_by past m at deed ++ past) (record { at = at; deed = deed } ∷ all) × RepliesAs configs m number past all at deed
  next-follows past all follows made at (Does (Happens h)) seats later in_time can legal = (follows-happens past all follows at h later in_time can.0 can.1, tt)
  next-follows past all follows made at (Does (Reads w clock k None)) seats later in_time can legal =
      read-none past all follows made at w clock k
      (record { later = later; in_time = in_time; known = can.0; on = can.1; fits = can.2; first = can.3; made = can.4; seen = can.5 })
  next-follows past all follows made at (Does (Reads w clock k (Some arrival))) seats later in_time can legal =
      read-some past all follows made at w clock k arrival
      (record { later = later; in_time = in_time; known = can.0; on = can.1; fits = can.2; first = can.3; made = can.4; seen = can.5 })
  next-follows past all follows made at (Stamps given) seats later in_time can legal =
      let (known, (waiting, waits, latest, floor)) = can in
      stamp-next past all follows at given waiting seats later in_time known waits latest floor legal.0

  legal-rest : (seats : ℕ) (deed : Deed Act Gives) (entries : List Stamping) → IsLegalRun seats (if_given deed ++ entries) → IsLegalRun seats entries
  legal-rest seats (Does act) entries legal = legal
  legal-rest seats (Stamps given) entries legal = legal.1

  list-follows : (all : List LifeDone) (seats : ℕ) → length all < 2 ^ 64 → CanBe config m number start all → IsLegalRun seats (entries_in all)
      → Follows (events_in base m all ++ base) all × AllReplyAs configs m number base all
  list-follows [] seats few can legal = (follows-base, tt)
  list-follows (done ∷ all) seats few can legal =
      let past = events_in base m all ++ base in
      let (follows, replies) = list-follows all seats (omega arith) can.3 (legal-rest seats done.deed (entries_in all) legal) in
      let made = published-by (events_in base m all) all follows (omega arith) in
      let (next, reply) = next-follows past all follows made done.at done.deed seats can.0 can.1 can.2 legal in
      (subst (λ (events : List Event). Follows events (done ∷ all)) (sym (append_assoc (events_by past m done.at done.deed) (events_in base m all) base)) next, (reply, replies))

  pub list-is_run : (all : List LifeDone) (seats : ℕ) → length all < 2 ^ 64 → CanBe config m number start all → IsLegalRun seats (entries_in all) → IsRunOfAll configs m number base all
  list-is_run all seats few can legal =
      let (follows, replies) = list-follows all seats few can legal in
      record {
        good = follows.reached.good;
        same_life = follows.reached.same;
        steps_are = follows.reached.steps_are;
        moments_are = follows.reached.moments_are;
        published = published-by (events_in base m all) all follows few;
        stamps = follows.stamps;
        replies = replies;
      }
