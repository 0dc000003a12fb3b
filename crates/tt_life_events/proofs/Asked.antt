-- One more event of a worker: a reading, a commit, a lease or a stamp.
use Rattle.std.proofs.Common.{◌≡◌, ◌||◌, ℕ, ◌+◌, ◌<◌, ◌≤◌, Bool, true, false, cond, eqb, ltb, List, ◌∷◌, length, is_some, Option, Some, None, Ok, refl, sym, ap, subst, ◌∙◌, arith, eq-eqb, ne_eqb, le-ltb, lt-ltb, unwrap_or}
use Rattle.std.proofs.lemmas.Bool.{or_from}
use Rattle.tt_span.specs.Time.{max_time}
use Rattle.tt_span.specs.Interval.{Interval}
use Rattle.tt_span.specs.Drift.{Moment}
use Rattle.tt_daemon.specs.Config.{Configuration}
use Rattle.tt_publish.specs.declared.readings.FusedSpan.{FusedSpan}
use Rattle.tt_stamp.specs.Stamp.{IsLeastStamp, IsTooFar, least_from, max_ahead, stamp_of}
use Rattle.tt_stamp.proofs.Stamps.{IsLeastStamp-least_from, least_from-le}
use Rattle.tt_world.specs.Bad.{accepted, first_bad, has_machine, has_worker, is_arrived, is_unreadable}
use Rattle.tt_world.specs.Commits.{arrival_of, is_queued, reading_since, stamp_held, stamping_after, stamping_of, stamps_of, task_of}
use Rattle.tt_world.specs.Config.{config_at}
use Rattle.tt_world.specs.Lease.{lease_of}
use Rattle.tt_world.specs.Life.{Life, life_at, same_life}
use Rattle.tt_world.specs.Past.{clock_of, time_of}
use Rattle.tt_world.specs.Publications.{publication_at, publications_of, reading_at, seen_of}
use Rattle.tt_world.specs.Reply.{reply_of, reply_to, reply_unless_bad}
use Rattle.tt_world.specs.declared.faults.WorldFault.{WorldFault}
use Rattle.tt_world.specs.declared.events.Event.{Event}
use Rattle.tt_world.specs.declared.events.Action.TheVariants.{Arrive, Lease, Read, Stamp}
use Rattle.tt_world.specs.declared.events.Reply.TheVariants as reply
use Rattle.tt_world.specs.declared.workers.Arrival.{Arrival}
use Rattle.tt_world.proofs.Simulation.Waiting.{happens}
use Rattle.tt_world.proofs.Simulation.Lives.{same_life-own}
use Rattle.tt_consistency.specs.Steps.{Step}
use Rattle.tt_consistency.proofs.Running.{Reached, kept_good}
use Rattle.tt_life_events.specs.Acts.{Waiting}

-- the least stamp that may be given is the one that is computed
pub stamp-is : (given : List ℕ) (latest floor : ℕ) (lease : Interval) (s : ℕ) → (¬ IsTooFar latest floor) → IsLeastStamp given latest floor lease s → s ≤ lease.hi → stamp_of given latest floor lease ≡ Ok s
stamp-is given latest floor lease s near least in_lease =
    let low : least_from given latest floor lease ≤ s = least_from-le given latest floor lease s least.may_give in
    let in_time : s ≤ max_time = least.may_give.in_time in
    let high : s ≤ least_from given latest floor lease = least.least (least_from given latest floor lease) (IsLeastStamp-least_from given latest floor lease (omega arith)).may_give in
    let same : least_from given latest floor lease ≡ s = omega arith in
    let not_far : ltb (latest + max_ahead) floor ≡ false = le-ltb (latest + max_ahead) floor (not-less (latest + max_ahead) floor near) in
    let not_used : ltb max_time (least_from given latest floor lease) ≡ false = le-ltb max_time (least_from given latest floor lease) (omega arith) in
    let not_over : ltb lease.hi (least_from given latest floor lease) ≡ false = le-ltb lease.hi (least_from given latest floor lease) (omega arith) in
    rw (not_far, not_used, not_over) (ap Ok same)
  where
    not-less : (a b : ℕ) → (a < b → ⊥) → b ≤ a
    not-less a b h = omega (arith, h)

-- a commit of a worker waits for its stamp after these events
pub record IsWaiting (config : Configuration) (past : List Event) (life : Life) (w : ℕ) (waiting : Waiting) : Type 0 where
  pub arrival : arrival_of past life w ≡ Some waiting.arrival
  pub reading : reading_since config past life w ≡ Some waiting.reading
  pub held : stamp_held config past life w ≡ None
  pub queued : is_queued config past life w ≡ false

-- the reply to an event that is not bad
pub reply-good : (configs : List Configuration) (past : List Event) (event : Event) → accepted configs past ≡ past → first_bad configs past event ≡ None → reply_of configs past event ≡ reply_to configs past event.action
reply-good configs past event good goes =
    ap (λ (before : List Event). reply_unless_bad (first_bad configs before event) (reply_to configs before event.action)) good
    ∙ ap (λ (o : Option WorldFault). reply_unless_bad o (reply_to configs past event.action)) goes

module _ (configs : List Configuration) (m : ℕ) (there : m < length configs) (base : List Event) where
  module _ (past : List Event) (steps : List Step) (moments : List Moment) (time shown : ℕ) (reached : Reached configs m there base past steps moments time shown)
      (at : ℕ) (later : time ≤ at) (in_time : at ≤ max_time) where
    pub own_life : life_at past m ≡ life_at base m
    own_life = ap (λ (n : ℕ). record { machine = m; number = n }) reached.same

    pub own : same_life (life_at past m) (life_at base m) ≡ true
    own = subst (λ (l : Life). same_life l (life_at base m) ≡ true) (sym own_life) (same_life-own (life_at base m))

    time_on : (ltb at (time_of past) || ltb max_time at) ≡ false
    time_on = let by = reached.by_time in or_from _ _ (le-ltb at (time_of past) (omega arith)) (le-ltb max_time at in_time)

    clock_on : (clock : ℕ) → shown ≤ clock → clock ≤ max_time → (ltb clock (clock_of past (life_at past m)) || ltb max_time clock) ≡ false
    clock_on clock on fits =
        let shows : clock_of past (life_at past m) ≡ shown = ap (clock_of past) own_life ∙ reached.shows in
        or_from _ _ (le-ltb clock (clock_of past (life_at past m)) (omega arith)) (le-ltb max_time clock fits)

    -- ---- a reading
    goes-read : (w clock k : ℕ) → has_worker configs m w ≡ true → shown ≤ clock → clock ≤ max_time
        → is_unreadable (length (publications_of (config_at configs m) past (life_at past m))) (seen_of past (life_at past m) w) k ≡ false
        → first_bad configs past (happens at (Read m w clock k)) ≡ None
    goes-read w clock k has on fits readable =
        let t = time_on in
        let c = clock_on clock on fits in
        rw (t, has, c, readable) refl

    pub read-good : (w clock k : ℕ) → has_worker configs m w ≡ true → shown ≤ clock → clock ≤ max_time → 0 < k → k ≤ length (publications_of (config_at configs m) past (life_at base m)) → seen_of past (life_at base m) w ≤ k
        → first_bad configs past (happens at (Read m w clock k)) ≡ None
    read-good w clock k has on fits first made seen =
        goes-read w clock k has on fits
        (subst (λ (l : Life). is_unreadable (length (publications_of (config_at configs m) past l)) (seen_of past l w) k ≡ false) (sym own_life)
        (readable (length (publications_of (config_at configs m) past (life_at base m))) (seen_of past (life_at base m) w) k first made seen))
      where
        readable : (count seen k : ℕ) → 0 < k → k ≤ count → seen ≤ k → is_unreadable count seen k ≡ false
        readable count seen k first made on =
            let a : eqb k 0 ≡ false = ne_eqb k 0 (λ none. omega arith) in
            let b = le-ltb count k made in
            let c = le-ltb k seen on in
            rw (a, b, c) refl

    pub reached-read : (w clock k : ℕ) → first_bad configs past (happens at (Read m w clock k)) ≡ None
        → Reached configs m there base (happens at (Read m w clock k) ∷ past) steps (record { clock = clock; time = at } ∷ moments) at clock
    reached-read w clock k goes =
        let mine = own in
        record {
          good = kept_good configs m there base past (happens at (Read m w clock k)) reached.good goes;
          same = reached.same;
          steps_are = reached.steps_are;
          moments_are = rw mine (ap (λ (xs : List Moment). record { clock = clock; time = at } ∷ xs) reached.moments_are);
          by_time = omega arith;
          shows = rw mine refl;
        }

    pub read-reply : (w clock k : ℕ) (published : List FusedSpan) → publications_of (config_at configs m) past (life_at base m) ≡ published → first_bad configs past (happens at (Read m w clock k)) ≡ None
        → reply_of configs past (happens at (Read m w clock k)) ≡ reply.Read (reading_at (config_at configs m).drift (publication_at published k) clock)
    read-reply w clock k published made goes =
        reply-good configs past (happens at (Read m w clock k)) reached.good goes
        ∙ ap (λ (p : List FusedSpan). reply.Read (reading_at (config_at configs m).drift (publication_at p k) clock)) (ap (publications_of (config_at configs m) past) own_life ∙ made)

    -- ---- a commit
    pub reached-arrive : (w : ℕ) (arrival : Arrival) → has_worker configs m w ≡ true → Reached configs m there base (happens at (Arrive m w arrival.id arrival.floor) ∷ past) steps moments at shown
    reached-arrive w arrival has =
        let t = time_on in
        let goes : first_bad configs past (happens at (Arrive m w arrival.id arrival.floor)) ≡ None = rw (t, has) refl in
        record {
          good = kept_good configs m there base past (happens at (Arrive m w arrival.id arrival.floor)) reached.good goes;
          same = reached.same;
          steps_are = reached.steps_are;
          moments_are = reached.moments_are;
          by_time = omega arith;
          shows = reached.shows;
        }

    -- ---- a lease
    pub reached-lease : (lease : Interval) → Reached configs m there base (happens at (Lease m lease) ∷ past) steps moments at shown
    reached-lease lease =
        let t = time_on in
        let has : has_machine configs m ≡ true = lt-ltb m (length configs) there in
        let goes : first_bad configs past (happens at (Lease m lease)) ≡ None = rw (t, has) refl in
        record {
          good = kept_good configs m there base past (happens at (Lease m lease)) reached.good goes;
          same = reached.same;
          steps_are = reached.steps_are;
          moments_are = reached.moments_are;
          by_time = omega arith;
          shows = reached.shows;
        }

    -- ---- a stamp
    pub stamp-good : (w : ℕ) (waiting : Waiting) → has_worker configs m w ≡ true → IsWaiting (config_at configs m) past (life_at base m) w waiting → first_bad configs past (happens at (Stamp m w)) ≡ None
    stamp-good w waiting has is =
        let t = time_on in
        let arrived : is_arrived (task_of (config_at configs m) past (life_at past m) w) ≡ true =
        subst (λ (l : Life). is_arrived (task_of (config_at configs m) past l w) ≡ true) (sym own_life) (let q = is.queued in let a = is.arrival in let h = is.held in rw (q, a, h) refl) in
        let read : is_some (reading_since (config_at configs m) past (life_at past m) w) ≡ true =
        subst (λ (l : Life). is_some (reading_since (config_at configs m) past l w) ≡ true) (sym own_life) (ap is_some is.reading) in
        rw (t, has, arrived, read) refl

    pub reached-stamp : (w : ℕ) → first_bad configs past (happens at (Stamp m w)) ≡ None → Reached configs m there base (happens at (Stamp m w) ∷ past) steps moments at shown
    reached-stamp w goes = record {
      good = kept_good configs m there base past (happens at (Stamp m w)) reached.good goes;
      same = reached.same;
      steps_are = reached.steps_are;
      moments_are = reached.moments_are;
      by_time = omega arith;
      shows = reached.shows;
    }

    -- what is stamped after this lease was granted, for a commit that waits
    pub stamping-is : (w s : ℕ) (lease : Interval) (waiting : Waiting) (given : List ℕ) → IsWaiting (config_at configs m) past (life_at base m) w waiting → stamps_of (config_at configs m) past (life_at base m) ≡ given
        → stamp_of given waiting.reading.hi waiting.arrival.floor lease ≡ Ok s
        → stamping_of (config_at configs m) (happens at (Lease m lease) ∷ past) (life_at base m) w ≡ Some (Ok s)
    stamping-is w s lease waiting given is are stamped =
        let e : eqb m m ≡ true = eq-eqb m m refl in
        ap (λ (l : Interval). stamping_after (stamps_of (config_at configs m) past (life_at base m)) l (arrival_of past (life_at base m) w) (reading_since (config_at configs m) past (life_at base m) w))
        (ap (λ (b : Bool). unwrap_or (cond b (Some lease) None) (lease_of past m)) e)
        ∙ ap (λ (xs : List ℕ). stamping_after xs lease (arrival_of past (life_at base m) w) (reading_since (config_at configs m) past (life_at base m) w)) are
        ∙ ap (λ (o : Option Arrival). stamping_after given lease o (reading_since (config_at configs m) past (life_at base m) w)) is.arrival
        ∙ ap (stamping_after given lease (Some waiting.arrival)) is.reading
        ∙ ap Some stamped
