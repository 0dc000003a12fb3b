-- When the defined twin is refused.
use Rattle.std.proofs.Common.{◌≡◌, ℕ, zero, suc, ◌-◌, ◌<◌, ◌≤◌, Bool, true, false, cond, eqb, ltb, ◌||◌, List, [], ◌∷◌, length, take, reverse, slice_get, Option, Some, None, Result, Ok, Err, inl, inr, refl, ap, subst, sym, ◌∙◌, append-nil}
use Rattle.std.specs.Prelude.{◌⊎◌, ◌↔◌}
use Rattle.std.proofs.lemmas.Bool.{or_cases, eqb-true, eq-eqb, ltb-true, lt-ltb, ltb-false}
use Rattle.std.proofs.lemmas.Option.{same_Some}
use Rattle.tt_span.specs.Time.{max_time}
use Rattle.tt_span.specs.Interval.{Interval}
use Rattle.tt_daemon.specs.Config.{Configuration}
use Rattle.tt_world.specs.Config.{config_at}
use Rattle.tt_world.specs.Life.{life_at}
use Rattle.tt_world.specs.declared.events.Event.{Event}
use Rattle.tt_world.specs.declared.events.Action.{Action}
use Rattle.tt_world.specs.declared.events.Action.TheVariants as does
use Rattle.tt_world.specs.declared.events.Reply.{Reply}
use Rattle.tt_world.specs.declared.events.Reply.TheVariants as replies
use Rattle.tt_publish.specs.declared.readings.FusedSpan.{FusedSpan}
use Rattle.tt_world.specs.Publications.{publications_of, seen_of}
use Rattle.tt_world.specs.Bad.{first_bad, accepted}
use Rattle.tt_world.specs.Reply.{reply_to, reply_of, replies_from}
use Rattle.tt_world.proofs.Histories.Judging.{good_of, good_accepted, accepted-good}
use Rattle.tt_world.proofs.Histories.Placing.{before_place, before_place-reverse, replied_at}
use Rattle.tt_twin.specs.declared.twins.Side.{Side}
use Rattle.tt_twin.specs.declared.twin_faults.TwinFault.{TwinFault}
use Rattle.tt_twin.specs.declared.twin_faults.TwinFault.TheVariants.{Machines, NotAReading, Cut}
use Rattle.tt_twin.specs.Twin.{end_of, end_after, twin_from, twin_unless_cut, twin_of_action, twin_of_reply, twin_of_event, twin_of}
use Rattle.tt_twin.specs.Looks.{Making, making_of, looks_of}
use Rattle.tt_twin.specs.Alike.{IsReadingOf, accepted_to, uncut_end, HasReading}
use Rattle.tt_twin.proofs.Telling.{past_at}
use Rattle.tt_twin.proofs.Worth.Finding.{IsFound, made_so, found}
use Rattle.tt_twin.proofs.Worth.Reached.{reading_not_bad, readable_parts}

-- the reply at a place of a run
replied_from : (configs : List Configuration) (past events : List Event) (k : ℕ) (event : Event) → slice_get events k ≡ Some event → slice_get (replies_from configs past events) k ≡ Some (reply_of configs (before_place past events k) event)
replied_from configs past [] k event h = absurd cc
replied_from configs past (first ∷ events) zero event h = ap (λ (e : Event). Some (reply_of configs past e)) (same_Some first event h)
replied_from configs past (first ∷ events) (suc k) event h = replied_from configs (first ∷ past) events k event h

past_of : (events : List Event) (k : ℕ) → before_place [] events k ≡ reverse (take k events)
past_of events k = before_place-reverse [] events k ∙ append-nil (reverse (take k events))

-- ---- no twin of what is no reading

-- an action that has some other twin reads
record IsRead (action : Action) : Type 0 where
  machine : ℕ
  worker : ℕ
  clock : ℕ
  number : ℕ
  is : action ≡ does.Read machine worker clock number

read_by : (side : Side) (configs : List Configuration) (past : List Event) (action : Action) → (twin_of_action side configs past action ≡ Err NotAReading → ⊥) → IsRead action
read_by side configs past (does.Read machine worker clock number) h = record { machine = machine; worker = worker; clock = clock; number = number; is = refl }
read_by side configs past _ h = absurd (h refl)

-- a reply that has some other twin is a reading
replied_by : (side : Side) (configs : List Configuration) (past : List Event) (action : Action) (reply : Reply) → (twin_of_reply side configs past action reply ≡ Err NotAReading → ⊥) → ((reading : Interval) × (reply ≡ replies.Read reading)) × IsRead action
replied_by side configs past action (replies.Read reading) h = ((reading, refl), read_by side configs past action h)
replied_by side configs past action _ h = absurd (h refl)

-- an event that has some other twin is there
there_by : (side : Side) (configs : List Configuration) (past : List Event) (o : Option Event) → (twin_of_event side configs past o ≡ Err NotAReading → ⊥) →
    (event : Event) × (o ≡ Some event) × ((reading : Interval) × (reply_of configs past event ≡ replies.Read reading)) × IsRead event.action
there_by side configs past None h = absurd (h refl)
there_by side configs past (Some event) h =
    let r = replied_by side configs (accepted configs (event ∷ past)) event.action (reply_of configs past event) h in
    (event, refl, r.0, r.1)

-- whether there are too few machines, or too many
abbrev wrong_count : List Configuration → Bool
wrong_count configs = eqb (length configs) 0 || ltb 8 (length configs)

-- ---- the twin of a reading

-- it is cut, or is not refused
pub read-twin : (configs : List Configuration) (events : List Event) (k : ℕ) (side : Side) (m number : ℕ) (reading : Interval) → (r : IsReadingOf configs events k m number reading) → wrong_count configs ≡ false →
    (twin : List Event) × (twin_of configs events k side ≡ cond (ltb max_time (uncut_end side configs (accepted_to configs events k) m number r.clock)) (Err Cut) (Ok twin))
read-twin configs events k side m number reading r counted =
    let event : Event = record { at = r.at; action = does.Read m r.worker r.clock number } in
    let past = reverse (take k events) in
    let before : reply_of configs past event ≡ replies.Read reading =
    ap (λ (l : List Event). reply_of configs l event) (sym (past_of events k)) ∙ replied_at configs [] events k event (replies.Read reading) r.asks r.replied in
    let good = reading_not_bad (first_bad configs (accepted configs past) event) (reply_to configs (accepted configs past) event.action) reading before in
    let is_good = good_of configs (accepted configs past) event good.0 in
    let kept : accepted configs (event ∷ past) ≡ event ∷ accepted configs past = accepted-good configs past event good.0 in
    let acc = event ∷ accepted configs past in
    let bounds = readable_parts (length (publications_of (config_at configs m) (accepted configs past) (life_at (accepted configs past) m))) (seen_of (accepted configs past) (life_at (accepted configs past) m) r.worker) number is_good.publication_there in
    let nil = append-nil (publications_of (config_at configs m) (accepted configs past) (life_at (accepted configs past) m)) in
    let f : IsFound configs acc m number = found configs acc m number (is_good, good_accepted configs past) bounds.0 (subst (λ (l : List FusedSpan). number ≤ length l) (sym nil) bounds.1) in
    let twin = twin_from side configs m f.making (looks_of configs acc m number) in
    let same : accepted_to configs events k ≡ acc = ap (λ (l : List Event). accepted configs l) (past_at events k event r.asks) ∙ kept in
    let ends : FusedSpan → ℕ = λ p. end_after side (config_at configs m).drift (end_of side p.span) (r.clock - p.clock) in
    let uncut : uncut_end side configs (accepted_to configs events k) m number r.clock ≡ ends (made_so f.making) =
    ap (λ (l : List Event). uncut_end side configs l m number r.clock) same ∙ ap ends f.publication in (
      twin,
      ap (λ (b : Bool). cond b (Err Machines) (twin_of_event side configs past (slice_get events k))) counted
          ∙ ap (λ (o : Option Event). twin_of_event side configs past o) r.asks
          ∙ ap (λ (reply : Reply). twin_of_reply side configs (accepted configs (event ∷ past)) event.action reply) before
          ∙ ap (λ (l : List Event). twin_unless_cut side configs m r.clock (making_of configs l m number) (looks_of configs l m number)) kept
          ∙ ap (λ (o : Option Making). twin_unless_cut side configs m r.clock o (looks_of configs acc m number)) f.is
          ∙ ap (λ (x : ℕ). cond (ltb max_time x) (Err Cut) (Ok twin)) (sym uncut),
    )

not_machines : (b : Bool) (fault : TwinFault) (r : Result (List Event) TwinFault) → (fault ≡ Machines → ⊥) → cond b (Err Machines) r ≡ Err fault → (b ≡ false) × (r ≡ Err fault)
not_machines true fault r other h = absurd (other cc)
not_machines false fault r other h = (refl, h)

not_machines_ok : (b : Bool) (r : Result (List Event) TwinFault) (twin : List Event) → cond b (Err Machines) r ≡ Ok twin → (b ≡ false) × (r ≡ Ok twin)
not_machines_ok true r twin h = absurd cc
not_machines_ok false r twin h = (refl, h)

no_such : (b : Bool) (twin : List Event) → cond b (Err Cut) (Ok twin) ≡ Err NotAReading → ⊥
no_such true twin h = cc
no_such false twin h = cc

-- where the twin is refused as no reading, there is none
pub not-a-reading : (configs : List Configuration) (events : List Event) (k : ℕ) (side : Side) → twin_of configs events k side ≡ Err NotAReading → (m number : ℕ) (reading : Interval) → IsReadingOf configs events k m number reading → ⊥
not-a-reading configs events k side h m number reading r =
    let counted = not_machines (wrong_count configs) NotAReading (twin_of_event side configs (reverse (take k events)) (slice_get events k)) (λ e. cc) h in
    let t = read-twin configs events k side m number reading r counted.0 in
    no_such (ltb max_time (uncut_end side configs (accepted_to configs events k) m number r.clock)) t.0 (sym t.1 ∙ h)

-- a twin that is refused otherwise, or is there, is of a reading
some_reading : (configs : List Configuration) (events : List Event) (k : ℕ) (side : Side) → (twin_of_event side configs (reverse (take k events)) (slice_get events k) ≡ Err NotAReading → ⊥) → (m : ℕ) × (number : ℕ) × (reading : Interval) × IsReadingOf configs events k m number reading
some_reading configs events k side h =
    let t = there_by side configs (reverse (take k events)) (slice_get events k) h in
    let event : Event = t.0 in
    let act : Action → Event = λ a. record { at = event.at; action = a } in
    let there : slice_get events k ≡ Some event = t.1 in (
      t.3.machine,
      t.3.number,
      t.2.0,
      record {
        at = event.at;
        worker = t.3.worker;
        clock = t.3.clock;
        asks = there ∙ ap (λ (a : Action). Some (act a)) t.3.is;
        replied = replied_from configs [] events k event there ∙ ap (λ (l : List Event). Some (reply_of configs l event)) (past_of events k) ∙ ap (λ (reply : Reply). Some reply) t.2.1;
      },
    )

cut_if : (b : Bool) (twin : List Event) → cond b (Err Cut) (Ok twin) ≡ Err Cut → b ≡ true
cut_if true twin h = refl
cut_if false twin h = absurd cc

uncut_if : (b : Bool) (twin other : List Event) → cond b (Err Cut) (Ok twin) ≡ Ok other → b ≡ false
uncut_if true twin other h = absurd cc
uncut_if false twin other h = refl

not_cut_as_no : (r : Result (List Event) TwinFault) → r ≡ Err Cut → r ≡ Err NotAReading → ⊥
not_cut_as_no r h k = cc

not_ok_as_no : (r : Result (List Event) TwinFault) (twin : List Event) → r ≡ Ok twin → r ≡ Err NotAReading → ⊥
not_ok_as_no r twin h k = cc

-- where it is refused as cut, the reading ends past the greatest time
pub is-cut : (configs : List Configuration) (events : List Event) (k : ℕ) (side : Side) → twin_of configs events k side ≡ Err Cut → (x : ℕ) × (max_time < x) × HasReading configs events k side x
is-cut configs events k side h =
    let parts = not_machines (wrong_count configs) Cut (twin_of_event side configs (reverse (take k events)) (slice_get events k)) (λ e. cc) h in
    let s = some_reading configs events k side (λ e. not_cut_as_no _ parts.1 e) in
    let t = read-twin configs events k side s.0 s.1 s.2 s.3 parts.0 in
    let x = uncut_end side configs (accepted_to configs events k) s.0 s.1 s.3.clock in
    (x, ltb-true max_time x (cut_if (ltb max_time x) t.0 (sym t.1 ∙ h)), record { machine = s.0; number = s.1; reading = s.2; reads = s.3; ends = refl })

-- and where it is not refused, it does not
pub is-uncut : (configs : List Configuration) (events : List Event) (k : ℕ) (side : Side) (twin : List Event) → twin_of configs events k side ≡ Ok twin → (x : ℕ) × (x ≤ max_time) × HasReading configs events k side x
is-uncut configs events k side twin h =
    let parts = not_machines_ok (wrong_count configs) (twin_of_event side configs (reverse (take k events)) (slice_get events k)) twin h in
    let s = some_reading configs events k side (λ e. not_ok_as_no _ twin parts.1 e) in
    let t = read-twin configs events k side s.0 s.1 s.2 s.3 parts.0 in
    let x = uncut_end side configs (accepted_to configs events k) s.0 s.1 s.3.clock in
    (x, ltb-false max_time x (uncut_if (ltb max_time x) t.0 twin (sym t.1 ∙ h)), record { machine = s.0; number = s.1; reading = s.2; reads = s.3; ends = refl })

-- ---- how many machines there are

count_if : (n : ℕ) → (eqb n 0 || ltb 8 n) ≡ true → (n ≡ 0) ⊎ (8 < n)
count_if n h = elim (or_cases (eqb n 0) (ltb 8 n) h) [ inl none ↦ inl (eqb-true n 0 none) | inr more ↦ inr (ltb-true 8 n more) ]

or_true : (a : Bool) → (a || true) ≡ true
or_true true = refl
or_true false = refl

count_of : (n : ℕ) → (n ≡ 0) ⊎ (8 < n) → (eqb n 0 || ltb 8 n) ≡ true
count_of n (inl none) = let e : eqb n 0 ≡ true = eq-eqb n 0 none in rw e refl
count_of n (inr more) = let e : ltb 8 n ≡ true = lt-ltb 8 n more in rw e (or_true (eqb n 0))

no_machines_fault : (side : Side) (configs : List Configuration) (past : List Event) (o : Option Event) → twin_of_event side configs past o ≡ Err Machines → ⊥
no_machines_fault side configs past None h = cc
no_machines_fault side configs past (Some event) h = by_reply (reply_of configs past event) event.action h
  where
    by_making : (making : Option Making) (m clock k : ℕ) (acc : List Event) → twin_unless_cut side configs m clock making (looks_of configs acc m k) ≡ Err Machines → ⊥
    by_making None m clock k acc h = cc
    by_making (Some making) m clock k acc h = by_test (ltb max_time (end_after side (config_at configs m).drift (end_of side making.showing.span) (clock - making.showing.clock))) (twin_from side configs m making (looks_of configs acc m k)) h
      where
        by_test : (b : Bool) (twin : List Event) → cond b (Err Cut) (Ok twin) ≡ Err Machines → ⊥
        by_test true twin h = cc
        by_test false twin h = cc

    by_action : (acc : List Event) (action : Action) → twin_of_action side configs acc action ≡ Err Machines → ⊥
    by_action acc (does.Read machine worker clock k) h = by_making (making_of configs acc machine k) machine clock k acc h
    by_action acc _ h = cc

    by_reply : (reply : Reply) (action : Action) → twin_of_reply side configs (accepted configs (event ∷ past)) action reply ≡ Err Machines → ⊥
    by_reply (replies.Read reading) action h = by_action (accepted configs (event ∷ past)) action h
    by_reply _ action h = cc

machines_if : (b : Bool) (r : Result (List Event) TwinFault) → (r ≡ Err Machines → ⊥) → cond b (Err Machines) r ≡ Err Machines → b ≡ true
machines_if true r other h = refl
machines_if false r other h = absurd (other h)

-- it is refused for the machines exactly where there are none, or more than eight
pub wrong-machines : (configs : List Configuration) (events : List Event) (k : ℕ) (side : Side) → (twin_of configs events k side ≡ Err Machines) ↔ ((length configs ≡ 0) ⊎ (8 < length configs))
wrong-machines configs events k side = (
  λ h. count_if (length configs) (machines_if (wrong_count configs) (twin_of_event side configs (reverse (take k events)) (slice_get events k)) (no_machines_fault side configs (reverse (take k events)) (slice_get events k)) h),
  λ c. ap (λ (b : Bool). cond b (Err Machines) (twin_of_event side configs (reverse (take k events)) (slice_get events k))) (count_of (length configs) c),
)
