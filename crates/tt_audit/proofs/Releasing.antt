-- No more commits are released than there are events.
use Rattle.std.proofs.Common.{◌≡◌, ℕ, zero, suc, ◌+◌, ◌<◌, ◌≤◌, Bool, true, false, cond, eqb, is_some, List, [], ◌∷◌, ◌++◌, length, take, reverse, get_or, Contains, Option, Some, None, Result, Ok, Err, inl, inr, refl, ap, subst, ◌∙◌, sym, arith, ltb-true, eq-eqb, ne_eqb, ⊎_elim}
use Rattle.std.specs.Prelude.{sum_by}
use Rattle.std.specs.Map.{remove_entry}
use Rattle.std.proofs.lemmas.Bool.{cases_eq, and_parts, not-false, true≢false}
use Rattle.std.proofs.lemmas.Option.{slice_get_cases}
use Rattle.std.proofs.lemmas.List.{take_more, take_all}
use Rattle.std.proofs.lemmas.List.Sums.{sum_by_push}
use Rattle.tt_source.specs.Statement.{Statement}
use Rattle.tt_source.specs.declared.faults.SourceFault.{SourceFault}
use Rattle.tt_span.specs.Interval.{Interval}
use Rattle.tt_stamp.specs.declared.commits.Entry.{Entry}
use Rattle.tt_stamp.specs.declared.commits.Entry.TheVariants as entries
use Rattle.tt_stamp.specs.declared.commits.Id.{Id}
use Rattle.tt_stamp.specs.declared.commits.Receipt.{Receipt}
use Rattle.tt_stamp.specs.declared.faults.StampFault.{StampFault}
use Rattle.tt_stamp.specs.declared.faults.BookFault.{BookFault}
use Rattle.tt_stamp.specs.History.{waiting_of, IsLegalHistory, release_of, with_receipts, first_queue_fault}
use Rattle.tt_stamp.proofs.Ids.{Contains-nil, Contains-cases}
use Rattle.tt_stamp.proofs.Waiting.{length-insert_entry-le}
use Rattle.tt_stamp.proofs.Releases.{IsLegalHistory-release}
use Rattle.tt_daemon.specs.Config.{Configuration}
use Rattle.tt_world.specs.Config.{config_at}
use Rattle.tt_world.specs.declared.events.Event.{Event}
use Rattle.tt_world.specs.declared.events.Action.{Action}
use Rattle.tt_world.specs.declared.events.Action.TheVariants.{Send, Answer, Forge, Deliver, Fuse, Read, Arrive, Stamp, Queue, Restart, Lease, Release}
use Rattle.tt_world.specs.declared.events.Reply.{Reply}
use Rattle.tt_world.specs.declared.packets.Packet.{Packet}
use Rattle.tt_publish.specs.declared.readings.FusedSpan.{FusedSpan}
use Rattle.tt_world.specs.declared.workers.Arrival.{Arrival}
use Rattle.tt_world.specs.Life.{Life, life_of, life_at}
use Rattle.tt_world.specs.Bad.{has_worker, names_unknown, first_bad, accepted}
use Rattle.tt_world.specs.declared.faults.WorldFault.{WorldFault}
use Rattle.tt_world.specs.Commits.{arrival_of, stamp_held, reading_of, with_queued, released_with, book_of, queueing_of}
use Rattle.tt_world.specs.Reply.{delivery_reply, reply_to_packet, fusion_reply, stamping_reply, queueing_reply, reply_to, reply_unless_bad, reply_of, replies_from}
use Rattle.tt_world.proofs.Headline.Laws.{accepted-reply}
use Rattle.tt_world.proofs.Histories.Judging.{accepted-good}
use Rattle.tt_audit.proofs.Noting.{IsSetting}
use Rattle.tt_audit.proofs.Following.{is-at, next-good}
use Rattle.tt_world.proofs.Simulation.Unborn.{book_of-unborn}
use Rattle.tt_audit.specs.Counts.{released_in}
use Rattle.tt_audit.proofs.Ticking.{tick_is}
use Rattle.tt_audit.proofs.Lying.{after_action}

-- ---- a book

-- a commit that waited waits no more
removed-shorter : (stamp : ℕ) (id : Id) (waiting : List (ℕ × Id)) → Contains waiting (stamp, id) → length (remove_entry (λ s. eqb stamp s) waiting) + 1 ≤ length waiting
removed-shorter stamp id [] there = absurd (Contains-nil _ there)
removed-shorter stamp id ((s, i) ∷ waiting) there = by_test (eqb stamp s) refl (removed-shorter stamp id waiting)
  where
    by_test : (b : Bool) → eqb stamp s ≡ b → (Contains waiting (stamp, id) → length (remove_entry (λ t. eqb stamp t) waiting) + 1 ≤ length waiting)
        → length (cond b waiting ((s, i) ∷ remove_entry (λ t. eqb stamp t) waiting)) + 1 ≤ length {A = ℕ × Id} ((s, i) ∷ waiting)
    by_test true e rest = omega arith
    by_test false e rest = ⊎_elim
        (λ (here : ◌≡◌ {A = ℕ × Id} (s, i) (stamp, id)). absurd (true≢false (sym (eq-eqb stamp s (sym (ap (λ (c : ℕ × Id). c.0) here))) ∙ e)))
        (λ (later : Contains waiting (stamp, id)). let fewer = rest later in omega (arith, fewer))
        (Contains-cases (s, i) waiting (stamp, id) there)

legal-before : (receipts : List Receipt) (book : List Entry) → IsLegalHistory (with_receipts receipts book) → IsLegalHistory book
legal-before [] book legal = legal
legal-before (receipt ∷ receipts) book legal = (legal-before receipts (entries.Passed receipt ∷ book) legal).1

-- as many commits fewer wait as are released
released-shorter : (receipts : List Receipt) (book : List Entry) → IsLegalHistory (with_receipts receipts book) → length (waiting_of (with_receipts receipts book)) + length receipts ≤ length (waiting_of book)
released-shorter [] book legal = omega arith
released-shorter (receipt ∷ receipts) book legal =
    let rest = released-shorter receipts (entries.Passed receipt ∷ book) legal in
    let fewer = removed-shorter receipt.stamp receipt.id (waiting_of book) (legal-before receipts (entries.Passed receipt ∷ book) legal).0.waits in
    omega (arith, rest, fewer)

released-fewer : (book : List Entry) (reading : Option Interval) → IsLegalHistory book → length (waiting_of (with_receipts (released_with book reading) book)) + length (released_with book reading) ≤ length (waiting_of book)
released-fewer book None legal = omega arith
released-fewer book (Some reading) legal = released-shorter (release_of (waiting_of book) reading.lo) book (IsLegalHistory-release book reading.lo legal)

-- one commit more waits, at most
queued-longer : (book : List Entry) (asked : Option Arrival) (stamp : Option ℕ) → length (waiting_of (with_queued book asked stamp)) ≤ length (waiting_of book) + 1
queued-longer book None stamp = omega arith
queued-longer book (Some arrival) None = omega arith
queued-longer book (Some arrival) (Some stamp) = by_test (is_some (first_queue_fault book arrival.id stamp))
  where
    by_test : (b : Bool) → length (waiting_of (cond b book (entries.Queued arrival.id stamp ∷ book))) ≤ length (waiting_of book) + 1
    by_test true = omega arith
    by_test false = omega (arith, length-insert_entry-le stamp arrival.id (waiting_of book))

-- ---- one event

-- how many commits of machine m wait
abbrev pub waits_at : List Configuration → List Event → ℕ → ℕ
waits_at configs past m = length (waiting_of (book_of (config_at configs m) past (life_at past m)))

released-delivery : (r : Result Statement SourceFault) → released_in (delivery_reply r) ≡ 0
released-delivery (Ok statement) = refl
released-delivery (Err fault) = refl

released-packet : (past : List Event) (clock : ℕ) (o : Option Packet) → released_in (reply_to_packet past clock o) ≡ 0
released-packet past clock None = refl
released-packet past clock (Some packet) = released-delivery _

released-fusion : (count : ℕ) (r : Result FusedSpan ℕ) → released_in (fusion_reply count r) ≡ 0
released-fusion count (Ok publication) = refl
released-fusion count (Err number) = refl

released-stamping : (o : Option (Result ℕ StampFault)) → released_in (stamping_reply o) ≡ 0
released-stamping None = refl
released-stamping (Some (Ok stamp)) = refl
released-stamping (Some (Err fault)) = refl

released-queueing : (o : Option BookFault) → released_in (queueing_reply o) ≡ 0
released-queueing None = refl
released-queueing (Some fault) = refl

-- the sum over the machines below n
abbrev pub sum_below : (ℕ → ℕ) → ℕ → ℕ
sum_below f zero = 0
sum_below f (suc n) = sum_below f n + f n

sum-same : (f g : ℕ → ℕ) (n : ℕ) → ((j : ℕ) → g j ≤ f j) → sum_below g n ≤ sum_below f n
sum-same f g zero each = omega arith
sum-same f g (suc n) each = omega (arith, sum-same f g n each, each n)

sum-below : (f g : ℕ → ℕ) (k n : ℕ) → n ≤ k → ((j : ℕ) → (k ≡ j → ⊥) → g j ≤ f j) → sum_below g n ≤ sum_below f n
sum-below f g k zero below each = omega arith
sum-below f g k (suc n) below each = omega (arith, sum-below f g k n (omega arith) each, each n (λ e. omega arith))

sum-one : (f g : ℕ → ℕ) (k n r : ℕ) → k < n → ((j : ℕ) → (k ≡ j → ⊥) → g j ≤ f j) → g k + r ≤ f k + 1 → sum_below g n + r ≤ sum_below f n + 1
sum-one f g k zero r inside each own = absurd (omega arith)
sum-one f g k (suc n) r inside each own = elim (cases_eq k n) [
  | inl same ↦
      let at : g n + r ≤ f n + 1 = subst (λ (j : ℕ). g j + r ≤ f j + 1) same own in
      omega (arith, sum-below f g k n (omega arith) each, at)
  | inr other ↦ omega (arith, sum-one f g k n r (omega arith) each own, each n other)
]

module _ (configs : List Configuration) (past : List Event) (at : ℕ) (legal : (life : Life) → IsLegalHistory (book_of (config_at configs life.machine) past life)) where
  -- what an event leaves to wait, with what it releases
  abbrev Leaves : Action → Type 0
  Leaves action = sum_below (waits_at configs (after_action past at action)) (length configs) + released_in (reply_to configs past action) ≤ sum_below (waits_at configs past) (length configs) + 1

  -- an event that leaves all books as they are
  still : (action : Action) → ((j : ℕ) → waits_at configs (after_action past at action) j ≤ waits_at configs past j) → released_in (reply_to configs past action) ≡ 0 → Leaves action
  still action each none = omega (arith, none, sum-same (waits_at configs past) (waits_at configs (after_action past at action)) (length configs) each)

  leaves-queue : (k w : ℕ) → k < length configs → Leaves (Queue k w)
  leaves-queue k w inside =
      sum-one (waits_at configs past) (waits_at configs (after_action past at (Queue k w))) k (length configs) (released_in (reply_to configs past (Queue k w))) inside
      (λ j other.
      let same : waits_at configs (after_action past at (Queue k w)) j ≡ waits_at configs past j =
      ap (λ (b : Bool). length (waiting_of (cond b (with_queued (book_of (config_at configs j) past (life_at past j)) (arrival_of past (life_at past j) w) (stamp_held (config_at configs j) past (life_at past j) w)) (book_of (config_at configs j) past (life_at past j)))))
      (tick_is past k j ∙ ne_eqb k j other) in
      omega (arith, same))
      (let here : waits_at configs (after_action past at (Queue k w)) k ≡ length (waiting_of (with_queued (book_of (config_at configs k) past (life_at past k)) (arrival_of past (life_at past k) w) (stamp_held (config_at configs k) past (life_at past k) w))) =
      ap (λ (b : Bool). length (waiting_of (cond b (with_queued (book_of (config_at configs k) past (life_at past k)) (arrival_of past (life_at past k) w) (stamp_held (config_at configs k) past (life_at past k) w)) (book_of (config_at configs k) past (life_at past k)))))
      (tick_is past k k ∙ eq-eqb k k refl) in
      omega (arith, here, queued-longer (book_of (config_at configs k) past (life_at past k)) (arrival_of past (life_at past k) w) (stamp_held (config_at configs k) past (life_at past k) w), released-queueing (queueing_of (config_at configs k) past (life_at past k) w)))

  leaves-release : (k w : ℕ) → k < length configs → Leaves (Release k w)
  leaves-release k w inside =
      sum-one (waits_at configs past) (waits_at configs (after_action past at (Release k w))) k (length configs) (released_in (reply_to configs past (Release k w))) inside
      (λ j other.
      let same : waits_at configs (after_action past at (Release k w)) j ≡ waits_at configs past j =
      ap (λ (b : Bool). length (waiting_of (cond b (with_receipts (released_with (book_of (config_at configs j) past (life_at past j)) (reading_of (config_at configs j) past (life_at past j) w)) (book_of (config_at configs j) past (life_at past j))) (book_of (config_at configs j) past (life_at past j)))))
      (tick_is past k j ∙ ne_eqb k j other) in
      omega (arith, same))
      (let here : waits_at configs (after_action past at (Release k w)) k ≡ length (waiting_of (with_receipts (released_with (book_of (config_at configs k) past (life_at past k)) (reading_of (config_at configs k) past (life_at past k) w)) (book_of (config_at configs k) past (life_at past k)))) =
      ap (λ (b : Bool). length (waiting_of (cond b (with_receipts (released_with (book_of (config_at configs k) past (life_at past k)) (reading_of (config_at configs k) past (life_at past k) w)) (book_of (config_at configs k) past (life_at past k))) (book_of (config_at configs k) past (life_at past k)))))
      (tick_is past k k ∙ eq-eqb k k refl) in
      omega (arith, here, released-fewer (book_of (config_at configs k) past (life_at past k)) (reading_of (config_at configs k) past (life_at past k) w) (legal (life_at past k))))

  leaves-restart : (k clock : ℕ) → Leaves (Restart k clock)
  leaves-restart k clock = still (Restart k clock)
      (λ j. elim (cases_eq k j) [
        | inl same ↦
            let now : List Event = after_action past at (Restart k clock) in
            let next : life_of now j ≡ life_of past j + 1 = ap (λ (b : Bool). cond b (life_of past j + 1) (life_of past j)) (eq-eqb k j same) in
            let none : book_of (config_at configs j) past (life_at now j) ≡ [] = book_of-unborn (config_at configs j) past (life_at now j) (omega (arith, next)) in
            let empty : waits_at configs now j ≡ 0 = ap (λ (book : List Entry). length (waiting_of book)) none in
            omega (arith, empty)
        | inr other ↦
            let now : List Event = after_action past at (Restart k clock) in
            let stays : life_of now j ≡ life_of past j = ap (λ (b : Bool). cond b (life_of past j + 1) (life_of past j)) (ne_eqb k j other) in
            let same : waits_at configs now j ≡ waits_at configs past j =
            ap (λ (n : ℕ). length (waiting_of (book_of (config_at configs j) past (record { machine = j; number = n })))) stays in
            omega (arith, same)
      ])
      refl

  pub leaves-more : (action : Action) → names_unknown configs action ≡ false → Leaves action
  leaves-more (Queue k w) named = leaves-queue k w (ltb-true k _ (and_parts _ _ (not-false (has_worker configs k w) named)).0)
  leaves-more (Release k w) named = leaves-release k w (ltb-true k _ (and_parts _ _ (not-false (has_worker configs k w) named)).0)
  leaves-more (Restart k clock) named = leaves-restart k clock
  leaves-more (Send machine source clock) named = still (Send machine source clock) (λ j. omega arith) refl
  leaves-more (Answer packet span) named = still (Answer packet span) (λ j. omega arith) refl
  leaves-more (Forge machine source payload) named = still (Forge machine source payload) (λ j. omega arith) refl
  leaves-more (Deliver packet clock) named = still (Deliver packet clock) (λ j. omega arith) (released-packet past clock _)
  leaves-more (Fuse machine clock) named = still (Fuse machine clock) (λ j. omega arith) (released-fusion _ _)
  leaves-more (Read machine worker clock publication) named = still (Read machine worker clock publication) (λ j. omega arith) refl
  leaves-more (Arrive machine worker id floor) named = still (Arrive machine worker id floor) (λ j. omega arith) refl
  leaves-more (Stamp machine worker) named = still (Stamp machine worker) (λ j. omega arith) (released-stamping _)
  leaves-more (Lease machine lease) named = still (Lease machine lease) (λ j. omega arith) refl

-- ---- a whole run

nothing_waits : (configs : List Configuration) (k : ℕ) → sum_below (waits_at configs []) k ≤ 0
nothing_waits configs zero = omega arith
nothing_waits configs (suc k) = omega (arith, nothing_waits configs k)

module _ (configs : List Configuration) (events : List Event) (all : List Reply) (are : all ≡ replies_from configs [] events) (long : length all ≡ length events) (setting : IsSetting configs)
    (legal : (past : List Event) (life : Life) → IsLegalHistory (book_of (config_at configs life.machine) (accepted configs past) life)) where
  -- how many commits were released in the first n events, and how many wait after them
  abbrev kept_to : ℕ → ℕ
  kept_to n = sum_by released_in (take n all) + sum_below (waits_at configs (accepted configs (reverse (take n events)))) (length configs)

  one_more : (past : List Event) (event : Event) (o : Option WorldFault) → first_bad configs (accepted configs past) event ≡ o
      → released_in (reply_of configs past event) + sum_below (waits_at configs (accepted configs (event ∷ past))) (length configs) ≤ sum_below (waits_at configs (accepted configs past)) (length configs) + 1
  one_more past event None is =
      let not_bad = (accepted-reply configs past event).0 is in
      let next = next-good configs past event setting not_bad in
      let leaves = leaves-more configs (accepted configs past) event.at (legal past) event.action next.next.named in
      let reply : released_in (reply_of configs past event) ≡ released_in (reply_to configs (accepted configs past) event.action) =
      ap (λ (o : Option WorldFault). released_in (reply_unless_bad o (reply_to configs (accepted configs past) event.action))) is in
      let after : sum_below (waits_at configs (accepted configs (event ∷ past))) (length configs) ≡ sum_below (waits_at configs (event ∷ accepted configs past)) (length configs) =
      ap (λ (es : List Event). sum_below (waits_at configs es) (length configs)) (accepted-good configs past event is) in
      omega (arith, leaves, reply, after)
  one_more past event (Some fault) is =
      let reply : released_in (reply_of configs past event) ≡ 0 =
      ap (λ (o : Option WorldFault). released_in (reply_unless_bad o (reply_to configs (accepted configs past) event.action))) is in
      let after : sum_below (waits_at configs (accepted configs (event ∷ past))) (length configs) ≡ sum_below (waits_at configs (accepted configs past)) (length configs) =
      ap (λ (o : Option WorldFault). sum_below (waits_at configs (cond (is_some o) (accepted configs past) (event ∷ accepted configs past))) (length configs)) is in
      omega (arith, reply, after)

  next_to : (n : ℕ) → n < length events → kept_to n ≤ n → (event : Event) → event ≡ get_or events n event → (reply : Reply) → reply ≡ get_or all n reply → kept_to (n + 1) ≤ n + 1
  next_to n inside before event event_is reply reply_is =
      let at = is-at configs events all n event reply are inside (omega (arith, long)) event_is reply_is in
      let more = one_more (reverse (take n events)) event (first_bad configs (accepted configs (reverse (take n events))) event) refl in
      let after : sum_below (waits_at configs (accepted configs (reverse (take (n + 1) events)))) (length configs) ≡ sum_below (waits_at configs (accepted configs (event ∷ reverse (take n events)))) (length configs) =
      ap (λ (es : List Event). sum_below (waits_at configs (accepted configs es)) (length configs)) at.next in
      let released : released_in reply ≡ released_in (reply_of configs (reverse (take n events)) event) = ap released_in at.replied in
      let summed : sum_by released_in (take (n + 1) all) ≡ sum_by released_in (take n all) + released_in reply =
      ap (λ (rs : List Reply). sum_by released_in rs) (take_more all n reply (omega (arith, long)) ∙ ap (λ (r : Reply). take n all ++ r ∷ []) (sym reply_is))
      ∙ sum_by_push released_in (take n all) reply in
      omega (arith, more, after, released, summed, before)

  few_to : (n : ℕ) → n ≤ length events → kept_to n ≤ n
  few_to zero inside = let none : sum_below (waits_at configs []) (length configs) ≤ 0 = nothing_waits configs (length configs) in omega (arith, none)
  few_to (suc n) inside =
      let one : n + 1 ≡ suc n = omega arith in
      subst (λ (k : ℕ). kept_to k ≤ k) one (⊎_elim
      (λ (event : _). ⊎_elim (λ (reply : _). next_to n (omega arith) (few_to n (omega arith)) event.0 (sym event.3) reply.0 (sym reply.3)) (λ (none : _). absurd (omega (arith, none.0, long))) (slice_get_cases all n).1)
      (λ (none : _). absurd (omega (arith, none.0)))
      (slice_get_cases events n).1)

  -- no more commits are released than there are events
  pub released-few : sum_by released_in all ≤ length events
  released-few =
      let few = few_to (length events) (omega arith) in
      let whole : sum_by released_in (take (length events) all) ≡ sum_by released_in all = ap (λ (rs : List Reply). sum_by released_in rs) (take_all (length events) all (omega (arith, long))) in
      omega (arith, few, whole)
