-- Where the assumptions were kept, no reading is wrong and no commit is out of order.
use Rattle.std.proofs.Common.{◌≡◌, ◌↔◌, ℕ, zero, suc, ◌+◌, ◌<◌, ◌≤◌, Bool, true, false, cond, not, eqb, nat_le, ◌&&◌, List, [], ◌∷◌, ◌++◌, length, take, drop, reverse, get_or, slice_get, Contains, Option, Some, None, refl, ap, ap₂, subst, ◌∙◌, sym, arith, ⊎_elim, append_assoc}
use Rattle.std.specs.Prelude.{count_by}
use Rattle.std.specs.List.{zip}
use Rattle.std.proofs.lemmas.Bool.{and_parts, eqb-true, leb-true, le-leb, cases_Bool}
use Rattle.std.proofs.lemmas.Option.{slice_get_cases, same_Some}
use Rattle.std.proofs.lemmas.List.{take_more, take_all, take-append-drop, reverse-append, length-take-le}
use Rattle.std.proofs.lemmas.List.Sums.{sum_by_push}
use Rattle.std.proofs.lemmas.List.Elements.{Contains-append_cases}
use Rattle.std.proofs.lemmas.List.Folds.{Any-from_list_any}
use Rattle.tt_span.specs.Interval.{Interval, Holds}
use Rattle.tt_stamp.specs.declared.commits.Receipt.{Receipt}
use Rattle.tt_stamp.specs.declared.commits.Id.{Id}
use Rattle.tt_stamp.proofs.Ids.{Contains-nil}
use Rattle.tt_daemon.specs.Config.{Configuration}
use Rattle.tt_world.specs.declared.events.Event.{Event}
use Rattle.tt_world.specs.declared.events.Action.{Action}
use Rattle.tt_world.specs.declared.events.Action.TheVariants as does
use Rattle.tt_world.specs.declared.events.Reply.{Reply}
use Rattle.tt_world.specs.declared.events.Reply.TheVariants as replies
use Rattle.tt_world.specs.Assumptions.{MeetsAssumptions, NoBreach}
use Rattle.tt_world.specs.Headline.{ReadingsHold, ExternallyConsistent, IsArrival, IsStamping}
use Rattle.tt_audit.specs.declared.ordering.Stamping.{Stamping}
use Rattle.tt_audit.specs.Counts.{is_wrong}
use Rattle.tt_audit.specs.Violations.{Answered, receipts_in, receipts_of, receipts_before, asked_by, is_worker, stamped_by, is_late, answered_of, violations_of}
use Rattle.tt_audit.proofs.Following.{zip-push, answered_of-more}

NoBreach-back : (configs : List Configuration) (front back : List Event) → NoBreach configs (front ++ back) → NoBreach configs back
NoBreach-back configs [] back none = none
NoBreach-back configs (event ∷ front) back none = NoBreach-back configs front back none.1

-- ---- receipts, and where they stand

-- a receipt is in the reply to an event before place n
record IsReleased (all : List Reply) (n : ℕ) (receipt : Receipt) : Type 0 where
  i : ℕ
  before : i < n
  receipts : List Receipt
  released : slice_get all i ≡ Some (replies.Released receipts)
  there : Contains receipts receipt

-- a receipt is in the reply to an event before one, itself before place n, that asks worker w of machine m for a commit
record IsReleasedFirst (events : List Event) (all : List Reply) (m w n : ℕ) (receipt : Receipt) : Type 0 where
  j : ℕ
  before : j < n
  asked : IsArrival events all m w j
  released : IsReleased all j receipt

in_reply : (reply : Reply) (receipt : Receipt) → Contains (receipts_in reply) receipt → (receipts : List Receipt) × (reply ≡ replies.Released receipts) × Contains receipts receipt
in_reply (replies.Released receipts) receipt there = (receipts, refl, there)
in_reply _ receipt there = absurd (Contains-nil _ there)

asks_worker : (action : Action) (reply : Reply) (m w : ℕ) → is_worker m w (asked_by action reply) ≡ true → (id : Id) × (floor : ℕ) × (action ≡ does.Arrive m w id floor) × (reply ≡ replies.Arrived)
asks_worker (does.Arrive machine worker id floor) replies.Arrived m w is =
    let parts = and_parts (eqb machine m) (eqb worker w) is in
    (id, floor, ap₂ (λ (a b : ℕ). does.Arrive a b id floor) (eqb-true machine m parts.0) (eqb-true worker w parts.1), refl)
asks_worker (does.Arrive machine worker id floor) _ m w is = absurd cc
asks_worker _ _ m w is = absurd cc

module _ (events : List Event) (all : List Reply) (long : length all ≡ length events) where
  abbrev answered_to : ℕ → List Answered
  answered_to n = answered_of (take n events) (take n all)

  -- an event with its reply at place n
  record IsPair (n : ℕ) : Type 0 where
    event : Event
    reply : Reply
    event_is : event ≡ get_or events n event
    reply_is : reply ≡ get_or all n reply
    event_there : slice_get events n ≡ Some event
    reply_there : slice_get all n ≡ Some reply
    more : answered_to (n + 1) ≡ record { event = event; reply = reply } ∷ answered_to n

  pair : (n : ℕ) → n < length events → IsPair n
  pair n inside =
      ⊎_elim
      (λ (e : _). ⊎_elim
      (λ (r : _). record {
        event = e.0;
        reply = r.0;
        event_is = sym e.3;
        reply_is = sym r.3;
        event_there = e.2;
        reply_there = r.2;
        more = answered_of-more events all n e.0 r.0 inside (omega (arith, long)) (sym e.3) (sym r.3);
      })
      (λ (none : _). absurd (omega (arith, none.0, long))) (slice_get_cases all n).1)
      (λ (none : _). absurd (omega (arith, none.0)))
      (slice_get_cases events n).1

  released-at : (n : ℕ) → n ≤ length events → (receipt : Receipt) → Contains (receipts_of (answered_to n)) receipt → IsReleased all n receipt
  released-at zero inside receipt there = absurd (Contains-nil _ there)
  released-at (suc n) inside receipt there =
      let at = pair n (omega arith) in
      let one : suc n ≡ n + 1 = omega arith in
      let now : Contains (receipts_of (answered_to n) ++ receipts_in at.reply) receipt =
      subst (λ (past : List Answered). Contains (receipts_of past) receipt) (ap answered_to one ∙ at.more) there in
      ⊎_elim
      (λ old. let before = released-at n (omega arith) receipt old in
      record { i = before.i; before = omega (arith, before.before); receipts = before.receipts; released = before.released; there = before.there })
      (λ new. let here = in_reply at.reply receipt new in
      record { i = n; before = omega arith; receipts = here.0; released = at.reply_there ∙ ap Some here.1; there = here.2 })
      (Contains-append_cases (receipts_of (answered_to n)) (receipts_in at.reply) receipt now)

  first-at : (n m w : ℕ) → n ≤ length events → (receipt : Receipt) → Contains (receipts_before (answered_to n) m w) receipt → IsReleasedFirst events all m w n receipt
  first-at zero m w inside receipt there = absurd (Contains-nil _ there)
  first-at (suc n) m w inside receipt there =
      let at = pair n (omega arith) in
      let one : suc n ≡ n + 1 = omega arith in
      let now : Contains (receipts_before (record { event = at.event; reply = at.reply } ∷ answered_to n) m w) receipt =
      subst (λ (past : List Answered). Contains (receipts_before past m w) receipt) (ap answered_to one ∙ at.more) there in
      ⊎_elim
      (λ (asks : is_worker m w (asked_by at.event.action at.reply) ≡ true).
      let here = asks_worker at.event.action at.reply m w asks in
      let old : Contains (receipts_of (answered_to n)) receipt =
      subst (λ (b : Bool). Contains (cond b (receipts_of (answered_to n)) (receipts_before (answered_to n) m w)) receipt) asks now in
      record {
        j = n;
        before = omega arith;
        asked = record {
          at = at.event.at;
          id = here.0;
          floor = here.1;
          asks = at.event_there ∙ ap (λ (a : Action). Some (record { at = at.event.at; action = a })) here.2;
          taken = at.reply_there ∙ ap Some here.3;
        };
        released = released-at n (omega arith) receipt old;
      })
      (λ (other : is_worker m w (asked_by at.event.action at.reply) ≡ false).
      let old : Contains (receipts_before (answered_to n) m w) receipt =
      subst (λ (b : Bool). Contains (cond b (receipts_of (answered_to n)) (receipts_before (answered_to n) m w)) receipt) other now in
      let before = first-at n m w (omega arith) receipt old in
      record { j = before.j; before = omega (arith, before.before); asked = before.asked; released = before.released })
      (cases_Bool (is_worker m w (asked_by at.event.action at.reply)))

-- ---- a run that kept the assumptions

-- a stamp that was late, and a receipt that it should be above
late_receipt : (past : List Answered) (o : Option Stamping) → is_late past o ≡ true
    → (s : Stamping) × (receipt : Receipt) × (o ≡ Some s) × Contains (receipts_before past s.place.machine s.place.worker) receipt × (s.stamp ≤ receipt.stamp)
late_receipt past None late = absurd cc
late_receipt past (Some s) late =
    let any = Any-from_list_any (λ receipt. nat_le s.stamp receipt.stamp) (receipts_before past s.place.machine s.place.worker) late in
    (s, any.1, refl, (any.0, any.2, any.3), leb-true s.stamp _ any.4)

gives_stamp : (action : Action) (reply : Reply) (s : Stamping) → stamped_by action reply ≡ Some s → (action ≡ does.Stamp s.place.machine s.place.worker) × (reply ≡ replies.Stamped s.stamp)
gives_stamp (does.Stamp machine worker) (replies.Stamped stamp) s is = (
  ap₂ (λ (a b : ℕ). does.Stamp a b) (ap (λ (t : Stamping). t.place.machine) (same_Some _ _ is)) (ap (λ (t : Stamping). t.place.worker) (same_Some _ _ is)),
  ap (λ (t : Stamping). replies.Stamped t.stamp) (same_Some _ _ is),
)
gives_stamp (does.Stamp machine worker) _ s is = absurd cc
gives_stamp _ _ s is = absurd cc

right_reading : (at : ℕ) (reply : Reply) → ((reading : Interval) → reply ≡ replies.Read reading → Holds reading at) → is_wrong at reply ≡ false
right_reading at (replies.Read reading) holds =
    let h = holds reading refl in
    ap₂ (λ (a b : Bool). not (a && b)) (le-leb reading.lo at h.0) (le-leb at reading.hi h.1)
right_reading at _ holds = refl

module _ (configs : List Configuration) (events : List Event) (all : List Reply) (long : length all ≡ length events)
    (breaches : (past : List Event) → MeetsAssumptions configs past ↔ NoBreach configs past) (none : NoBreach configs (reverse events))
    (holds : ReadingsHold configs events all) (ordered : ExternallyConsistent configs events all) where
  -- the assumptions were kept by the first n events
  met-to : (n : ℕ) → MeetsAssumptions configs (reverse (take n events))
  met-to n =
      let whole : reverse events ≡ reverse (drop n events) ++ reverse (take n events) =
      ap (λ (es : List Event). reverse es) (sym (take-append-drop n events)) ∙ reverse-append (take n events) (drop n events) in
      (breaches (reverse (take n events))).1 (NoBreach-back configs (reverse (drop n events)) (reverse (take n events)) (subst (λ (es : List Event). NoBreach configs es) whole none))

  right-at : (n : ℕ) → n < length events → (at : IsPair events all long n) → is_wrong at.event.at at.reply ≡ false
  right-at n inside at = right_reading at.event.at at.reply (λ reading is.
      let next : take (n + 1) events ≡ take n events ++ at.event ∷ [] = take_more events n at.event inside ∙ ap (λ (e : Event). take n events ++ e ∷ []) (sym at.event_is) in
      let parts : events ≡ take n events ++ at.event ∷ drop (n + 1) events =
      sym (take-append-drop (n + 1) events) ∙ ap (λ (es : List Event). es ++ drop (n + 1) events) next ∙ append_assoc (take n events) (at.event ∷ []) (drop (n + 1) events) in
      let here : slice_get all (length (take n events)) ≡ Some (replies.Read reading) =
      ap (λ (k : ℕ). slice_get all k) (length-take-le n events (omega arith)) ∙ at.reply_there ∙ ap Some is in
      let past : reverse (take (n + 1) events) ≡ at.event ∷ reverse (take n events) = ap (λ (es : List Event). reverse es) next ∙ reverse-append (take n events) (at.event ∷ []) in
      holds (take n events) at.event (drop (n + 1) events) reading parts here (subst (λ (es : List Event). MeetsAssumptions configs es) past (met-to (n + 1))))

  abbrev wrong_to : ℕ → ℕ
  wrong_to n = count_by (λ (p : Event × Reply). is_wrong p.0.at p.1) (zip (take n events) (take n all))

  no_wrong-to : (n : ℕ) → n ≤ length events → wrong_to n ≡ 0
  no_wrong-to zero inside = refl
  no_wrong-to (suc n) inside =
      let at = pair events all long n (omega arith) in
      let one : suc n ≡ n + 1 = omega arith in
      let zipped : zip (take (n + 1) events) (take (n + 1) all) ≡ zip (take n events) (take n all) ++ (at.event, at.reply) ∷ [] =
      ap₂ (λ (es : List Event) (rs : List Reply). zip es rs)
      (take_more events n at.event (omega arith) ∙ ap (λ (e : Event). take n events ++ e ∷ []) (sym at.event_is))
      (take_more all n at.reply (omega (arith, long)) ∙ ap (λ (r : Reply). take n all ++ r ∷ []) (sym at.reply_is))
      ∙ zip-push (take n events) (take n all) at.event at.reply (length-take-le n events (omega arith) ∙ sym (length-take-le n all (omega (arith, long)))) in
      ap wrong_to one
      ∙ ap (λ (ps : List (Event × Reply)). count_by (λ (p : Event × Reply). is_wrong p.0.at p.1) ps) zipped
      ∙ sum_by_push (λ (p : Event × Reply). cond (is_wrong p.0.at p.1) 1 0) (zip (take n events) (take n all)) (at.event, at.reply)
      ∙ ap₂ (λ (k : ℕ) (b : Bool). k + cond b 1 0) (no_wrong-to n (omega arith)) (right-at n (omega arith) at)

  in_order-at : (n : ℕ) → n < length events → (at : IsPair events all long n) → is_late (answered_to events all long n) (stamped_by at.event.action at.reply) ≡ false
  in_order-at n inside at =
      ⊎_elim
      (λ (late : is_late (answered_to events all long n) (stamped_by at.event.action at.reply) ≡ true).
      let found = late_receipt (answered_to events all long n) (stamped_by at.event.action at.reply) late in
      let s = found.0 in
      let stamps = gives_stamp at.event.action at.reply s found.2 in
      let first = first-at events all long n s.place.machine s.place.worker (omega arith) found.1 found.3 in
      let stamping : IsStamping events all s.place.machine s.place.worker s.stamp n = record {
        at = at.event.at;
        stamps = at.event_there ∙ ap (λ (a : Action). Some (record { at = at.event.at; action = a })) stamps.0;
        gives = at.reply_there ∙ ap Some stamps.1;
      } in
      let above : found.1.stamp < s.stamp =
      ordered first.released.i first.j n s.place.machine s.place.worker s.stamp first.released.receipts found.1 first.released.before first.before
      first.released.released first.released.there first.asked stamping (met-to (n + 1)) in
      absurd (omega (arith, above, found.4)))
      (λ (fine : is_late (answered_to events all long n) (stamped_by at.event.action at.reply) ≡ false). fine)
      (cases_Bool (is_late (answered_to events all long n) (stamped_by at.event.action at.reply)))

  in_order-to : (n : ℕ) → n ≤ length events → violations_of (answered_to events all long n) ≡ 0
  in_order-to zero inside = refl
  in_order-to (suc n) inside =
      let at = pair events all long n (omega arith) in
      let one : suc n ≡ n + 1 = omega arith in
      ap (λ (k : ℕ). violations_of (answered_to events all long k)) one
      ∙ ap violations_of at.more
      ∙ ap (λ (b : Bool). cond b (violations_of (answered_to events all long n) + 1) (violations_of (answered_to events all long n))) (in_order-at n (omega arith) at)
      ∙ in_order-to n (omega arith)

  -- no reading is wrong, and no commit is out of order
  pub none-wrong : count_by (λ (p : Event × Reply). is_wrong p.0.at p.1) (zip events all) ≡ 0
  none-wrong =
      ap₂ (λ (es : List Event) (rs : List Reply). count_by (λ (p : Event × Reply). is_wrong p.0.at p.1) (zip es rs))
      (sym (take_all (length events) events (omega arith))) (sym (take_all (length events) all (omega (arith, long))))
      ∙ no_wrong-to (length events) (omega arith)

  pub none-late : violations_of (answered_of events all) ≡ 0
  none-late =
      ap₂ (λ (es : List Event) (rs : List Reply). violations_of (answered_of es rs))
      (sym (take_all (length events) events (omega arith))) (sym (take_all (length events) all (omega (arith, long))))
      ∙ in_order-to (length events) (omega arith)
