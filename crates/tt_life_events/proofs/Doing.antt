-- What a worker does in its turns can be told as a list.
use Rattle.std.proofs.Common.{◌≡◌, ℕ, ◌+◌, ◌-◌, ◌<◌, ◌≤◌, max, nat_lt, Bool, true, false, cond, List, [], ◌∷◌, ◌++◌, length, map, Option, Some, None, Result, Ok, Err, inl, inr, refl, sym, ap, subst, ◌∙◌, arith, append_assoc, length-append}
use Rattle.std.specs.Prelude.{◌⊎◌, MatchBool, slice_index_or}
use Rattle.std.specs.List.{AllByRecursion, last_or}
use Rattle.std.proofs.Math.Seq.{get_or-append_seam}
use Rattle.std.proofs.lemmas.Bool.{eq-eqb}
use Rattle.std.proofs.lemmas.List.{length-map, map-append}
use mathlib.Core.List.{IsPrefix}
use Rattle.tt_span.specs.Drift.{Moment}
use Rattle.tt_span.specs.Interval.{Interval}
use Rattle.tt_daemon.specs.Config.{Configuration}
use Rattle.tt_daemon.specs.Publication.{Publication}
use Rattle.tt_publish.specs.Known.{last_of}
use Rattle.tt_publish.specs.Reading.{fused_span_of}
use Rattle.tt_publish.specs.declared.readings.FusedSpan.{FusedSpan}
use Rattle.tt_stamp.specs.Stamping.{SeatState}
use Rattle.tt_stamp.specs.Steps.{Stamps as GivesStamp}
use Rattle.tt_stamp.specs.declared.faults.StampFault.{StampFault}
use Rattle.tt_stamp.specs.declared.faults.StampFault.TheVariants as stamp
use Rattle.tt_stamp.specs.declared.stampings.Stamping.{Stamping}
use Rattle.tt_session.specs.Conversation.{Conversation}
use Rattle.tt_session.specs.declared.calls.Call.{Call}
use Rattle.tt_session.specs.declared.calls.Call.TheVariants as call
use Rattle.tt_connections.specs.Fault.{number_of}
use Rattle.tt_connections.specs.Station.{PostState, StationState, Allows, BeginsAt, CommitsAt, Keeps, PassesAt, id_at, room_of}
use Rattle.tt_connections.specs.Turns.{PostGoesOn}
use Rattle.tt_connections.specs.declared.faults.StationFault.TheVariants.{FloorAboveCap}
use Rattle.tt_connections.specs.declared.presence.Question.{Question}
use Rattle.tt_connections.proofs.Turning.{call-goes_on, calls-go_on, post-same, prefix-both, talks-on}
use Rattle.tt_workers.specs.Happening.{LeadFrom, WorkerEvent}
use Rattle.tt_world.specs.Publications.{no_publication, publication_at, reading_at}
use Rattle.tt_world.specs.declared.workers.Arrival.{Arrival}
use Rattle.tt_consistency.specs.Reads.{IsNoEarlier, IsReadAt, IsTakenAt}
use Rattle.tt_consistency.specs.Timed.{given_of}
use Rattle.tt_life_events.specs.Acts.{LifeDone, Reads, entries_in, seen_by, seen_in}
use Rattle.tt_life_events.specs.Merging.{AreInOrder, Does, Stamps}
use Rattle.tt_life_events.specs.Threads.{AreOwn, AreSince, Begun, begun_by, begun_in, worker_of}
use Rattle.tt_life_events.specs.Turns.{AllReadIn, AreTimed, DoNotFall, IsDoneBy, IsDoneIn, IsListOf, IsReadingOf, WorkTimes}
use Rattle.tt_life_events.proofs.Merges.{order-from}

-- ---- beginnings of lists

prefix-shorter : {A : Type 0} (xs ys : List A) → IsPrefix xs ys → length xs ≤ length ys
prefix-shorter xs ys p = omega (arith, length-append xs p.0, ap length p.1)

pub map-prefix : {A B : Type 0} (f : A → B) (xs ys : List A) → IsPrefix xs ys → IsPrefix (map f xs) (map f ys)
map-prefix f xs ys p = (map f p.0, sym (map-append f xs p.0) ∙ ap (map f) p.1)

-- the last of a list stands at its end
split-last : (x : Publication) (xs : List Publication) (o : Option Publication) → (front : List Publication) × (last : Publication) × (x ∷ xs ≡ front ++ last ∷ []) × (last_or o (x ∷ xs) ≡ Some last)
split-last x [] o = ([], x, refl, refl)
split-last x (y ∷ xs) o = let (front, last, is, has) = split-last y xs (Some x) in (x ∷ front, last, ap (λ (l : List Publication). x ∷ l) is, has)

-- where a watch has seen the first ones of these publications, its last is the one of this number
record IsLast (items : List Publication) (spans : List FusedSpan) (last : Publication) : Type 0 where
  pub some : 0 < length items
  pub within : length items ≤ length spans
  pub last_is : publication_at spans (length items) ≡ fused_span_of last

last-at : (items : List Publication) (spans : List FusedSpan) (last : Publication) → IsPrefix (map fused_span_of items) spans → last_of items ≡ Some last → IsLast items spans last
last-at [] spans last p is = let none : None ≡ Some last = is in absurd cc
last-at (x ∷ xs) spans last p is =
    let (front, end, are, has) = split-last x xs None in
    let same : end ≡ last = let both : Some end ≡ Some last = sym has ∙ is in cc in
    let spans_are : spans ≡ map fused_span_of front ++ (fused_span_of end ∷ p.0) =
    sym p.1 ∙ ap (λ (l : List Publication). map fused_span_of l ++ p.0) are
    ∙ ap (λ (l : List FusedSpan). l ++ p.0) (map-append fused_span_of front (end ∷ []))
    ∙ append_assoc (map fused_span_of front) (fused_span_of end ∷ []) p.0 in
    let size : length (x ∷ xs) ≡ length (map fused_span_of front) + 1 = omega (arith, ap length are, length-append front (end ∷ []), length-map front fused_span_of) in
    let place : length (x ∷ xs) - 1 ≡ length (map fused_span_of front) = omega (arith, size) in
    record {
      some = omega arith;
      within = omega (arith, prefix-shorter (map fused_span_of (x ∷ xs)) spans p, length-map (x ∷ xs) fused_span_of);
      last_is =
          ap (λ (l : List FusedSpan). publication_at l (length (x ∷ xs))) spans_are
          ∙ ap (λ (n : ℕ). slice_index_or (map fused_span_of front ++ (fused_span_of end ∷ p.0)) n no_publication) place
          ∙ get_or-append_seam (map fused_span_of front) (fused_span_of end) p.0 no_publication
          ∙ ap fused_span_of same;
    }

-- ---- what a call does to its seat

-- the seat gave a stamp, by the reading that was given
record GaveStamp (given : Result Interval ℕ) (old new : SeatState) : Type 0 where
  pub reading : Interval
  pub entry : Stamping
  pub given_is : given ≡ Ok reading
  pub latest : entry.latest ≡ reading.hi
  pub own : new.own ≡ entry ∷ old.own

-- the seat gave no stamp, or one
abbrev Did : Result Interval ℕ → SeatState → SeatState → Type 0
Did given old new = (new.own ≡ old.own) ⊎ GaveStamp given old new

same-did : (given : Result Interval ℕ) (old new : SeatState) → new ≡ old → Did given old new
same-did given old new same = inl (ap (λ (s : SeatState). s.own) same)

stamp-did : (floor : ℕ) (lease reading : Interval) (old new : SeatState) (stamped : Result ℕ StampFault) → GivesStamp floor lease reading old stamped new → Did (Ok reading) old new
stamp-did floor lease reading old new (Ok s) stamps = inr (record {
  reading = reading;
  entry = record { number = stamps.1.number; latest = reading.hi; floor = floor; lease = lease; stamp = s };
  given_is = refl;
  latest = refl;
  own = stamps.1.own;
})
stamp-did floor lease reading old new (Err stamp.FloorTooFar) stamps = same-did (Ok reading) old new stamps.1
stamp-did floor lease reading old new (Err stamp.UsedUp) stamps = inl stamps.1.own
stamp-did floor lease reading old new (Err stamp.LeaseOver) stamps = inl stamps.1.own
stamp-did floor lease reading old new (Err stamp.Seats) stamps = absurd stamps
stamp-did floor lease reading old new (Err stamp.Memory) stamps = absurd stamps

in-did : (room reading : Interval) (floor : ℕ) (old new : SeatState) (stamped : Result ℕ StampFault) (over : Bool)
    → MatchBool over ((stamped ≡ Err stamp.LeaseOver) × (new ≡ old)) (GivesStamp floor room reading old stamped new) → Did (Ok reading) old new
in-did room reading floor old new stamped true says = same-did (Ok reading) old new says.1
in-did room reading floor old new stamped false says = stamp-did floor room reading old new stamped says

module _ {C V : Type 0} (before after : StationState C V) where
  reading-did : (number floor : ℕ) (answer : Result ℕ ℕ) (reading : Interval) (capped : Bool) → MatchBool capped ((answer ≡ Err (number_of FloorAboveCap)) × Keeps before after) (CommitsAt before number floor reading answer after)
      → Did (Ok reading) before.post.seat after.post.seat
  reading-did number floor answer reading true says = same-did (Ok reading) before.post.seat after.post.seat says.1.seat
  reading-did number floor answer reading false says =
      let room = room_of before floor reading in
      in-did room reading floor before.post.seat after.post.seat says.0 (nat_lt room.hi room.lo) says.1

  begin-did : (number floor : ℕ) (answer : Result ℕ ℕ) (given : Result Interval ℕ) → BeginsAt before number floor answer after given → Did given before.post.seat after.post.seat
  begin-did number floor answer (Ok reading) says = reading-did number floor answer reading (nat_lt (reading.hi + before.post.ahead) (max floor before.lease.lo)) says
  begin-did number floor answer (Err reason) says = same-did (Err reason) before.post.seat after.post.seat says.1.seat

module _ {C V : Type 0} (gives : C → Option ℕ → C → Type 0) (failed : C → ℕ) (says : V → Question → Bool → Type 0) where
  pass-did : (before after : StationState C V) (number : ℕ) (answer : Result Bool ℕ) (given : Result Interval ℕ) → PassesAt says before number answer after given → Did given before.post.seat after.post.seat
  pass-did before after number answer (Ok reading) passes = same-did (Ok reading) before.post.seat after.post.seat passes.0
  pass-did before after number answer (Err reason) passes = same-did (Err reason) before.post.seat after.post.seat passes.1.seat

  call-did : (before : StationState C V) (of : Call) (after : StationState C V) (allowed : Allows gives failed says before of after) → Did (given_of gives failed says before of after allowed) before.post.seat after.post.seat
  call-did before (call.Now answer) after allowed = same-did allowed.given before.post.seat after.post.seat allowed.rest.1.seat
  call-did before (call.Begin number floor answer) after allowed = begin-did before after number floor answer allowed.given allowed.rest
  call-did before (call.Lease lo hi answer) after allowed = inl (ap (λ (s : StationState C V). s.post.seat.own) allowed.set)
  call-did before (call.Pass number answer) after allowed = pass-did before after number answer allowed.given allowed.rest

-- ---- what a worker has, and what its list says

pub seen-here : (w clock k : ℕ) (asked : Option Arrival) (n : ℕ) → seen_by w (Does (Reads w clock k asked)) n ≡ k
seen-here w clock k asked n = ap (λ (b : Bool). cond b k n) (eq-eqb w w refl)

pub begun-here : (w clock k : ℕ) (arrival : Arrival) (o : Option Begun) → begun_by w (Does (Reads w clock k (Some arrival))) o ≡ Some (record { clock = clock; publication = k; arrival = arrival })
begun-here w clock k arrival o = ap (λ (b : Bool). cond b (Some (record { clock = clock; publication = k; arrival = arrival })) o) (eq-eqb w w refl)

-- of a worker with this number, in a life that began at this true time, whose daemon has these moments of the clock and published this
module _ (config : Configuration) (moments : List Moment) (spans : List FusedSpan) (since : ℕ) (w : ℕ) where
  pub record Has {C : Type 0} (post : PostState C) (to : ℕ) (past : List LifeDone) : Type 0 where
    pub drift : post.watch.drift ≡ config.drift
    pub numbers : post.seat.numbers ≡ w ∷ []
    pub entries : entries_in past ≡ post.seat.own
    pub seen : seen_in w past ≤ length post.watch.items
    pub of_worker : AllByRecursion (λ (done : LifeDone). worker_of done.deed ≡ w) past
    pub own : AreOwn config moments spans past
    pub is_since : AreSince since past
    pub in_order : AreInOrder to past
    pub begun : since ≤ to

  -- a post goes on, and its seat gives no stamp
  has-later : {C : Type 0} (post new : PostState C) (to top : ℕ) (past : List LifeDone) → Has post to past → PostGoesOn post new → new.seat.own ≡ post.seat.own → to ≤ top → Has new top past
  has-later post new to top past has goes same by = record {
    drift = goes.watch.drift ∙ has.drift;
    numbers = goes.seat.numbers ∙ has.numbers;
    entries = has.entries ∙ sym same;
    seen = omega (arith, has.seen, prefix-shorter post.watch.items new.watch.items goes.watch.seen);
    of_worker = has.of_worker;
    own = has.own;
    is_since = has.is_since;
    in_order = order-from to top past by has.in_order;
    begun = omega (arith, has.begun);
  }

  has-same : {C : Type 0} (post new : PostState C) (to top : ℕ) (past : List LifeDone) → Has post to past → new ≡ post → to ≤ top → Has new top past
  has-same {C = C} post new to top past has same by = has-later post new to top past has (post-same post new same) (ap (λ (p : PostState C). p.seat.own) same) by

  module _ {C : Type 0} (gives : C → Option ℕ → C → Type 0) (ppm : ℕ) (within : w < config.workers) (before after : PostState C) (goes : PostGoesOn before after) (prefix : IsPrefix (map fused_span_of after.watch.items) spans) (from : ℕ) (past : List LifeDone) (has : Has before from past) where
    -- the post after a reading, with the seat before it
    abbrev looked : PostState C
    looked = record after { seat = before.seat }

    abbrev the_read : ℕ → ℕ → Option Arrival → LifeDone
    the_read at clock asked = record { at = at; deed = Does (Reads w clock (length after.watch.items) asked) }

    module _ (reading : Interval) (at : ℕ) (asked : Option Arrival) (taken : IsTakenAt gives ppm moments after.watch before.clock after.clock reading at) (by : from ≤ at) where
      the_last : IsLast after.watch.items spans taken.last
      the_last = last-at after.watch.items spans taken.last prefix taken.last_is

      the_reading : reading ≡ reading_at config.drift (publication_at spans (length after.watch.items)) taken.clock
      the_reading =
          taken.reading_is ∙ ap (λ (ppm : ℕ). reading_at ppm (fused_span_of taken.last) taken.clock) (goes.watch.drift ∙ has.drift)
          ∙ ap (λ (p : FusedSpan). reading_at config.drift p taken.clock) (sym the_last.last_is)

      is-reading : IsReadingOf w config.drift spans after.watch (Ok reading) at (the_read at taken.clock asked ∷ [])
      is-reading = (taken.clock, asked, refl, the_reading)

      has-read : Has looked at (the_read at taken.clock asked ∷ past)
      has-read = record {
        drift = goes.watch.drift ∙ has.drift;
        numbers = has.numbers;
        entries = has.entries;
        seen = omega (arith, seen-here w taken.clock (length after.watch.items) asked (seen_in w past));
        of_worker = (refl, has.of_worker);
        own = (
          (
            within,
            taken.can.1,
            the_last.some,
            the_last.within,
            omega (arith, has.seen, prefix-shorter before.watch.items after.watch.items goes.watch.seen),
            subst (λ (p : FusedSpan). IsNoEarlier moments p at) (sym the_last.last_is) taken.no_earlier,
          ),
          has.own,
        );
        is_since = (omega (arith, has.begun), has.is_since);
        in_order = (omega arith, order-from from at past by has.in_order);
        begun = omega (arith, has.begun);
      }

    module _ (times : WorkTimes) (came : from ≤ times.came) (read : times.came ≤ times.read) (stamped : times.read ≤ times.stamped) (answered : times.stamped ≤ times.answered) where
      abbrev DoneOf : Result Interval ℕ → Type 0
      DoneOf given = (now : List LifeDone) × IsDoneBy w config.drift spans before after given times past now × Has after times.answered now

      -- a reading, and no stamp
      read-alone : (reading : Interval) → after.seat.own ≡ before.seat.own → IsTakenAt gives ppm moments after.watch before.clock after.clock reading times.read → DoneOf (Ok reading)
      read-alone reading same taken =
          let by : from ≤ times.read = omega arith in
          let now : LifeDone = the_read times.read taken.clock None in
          let mid = has-read reading times.read None taken by in (
            now ∷ past,
            record { reads = now ∷ []; stamps = []; now_is = refl; read = is-reading reading times.read None taken by; stamped = same },
            record {
              drift = mid.drift;
              numbers = goes.seat.numbers ∙ has.numbers;
              entries = mid.entries ∙ sym same;
              seen = mid.seen;
              of_worker = mid.of_worker;
              own = mid.own;
              is_since = mid.is_since;
              in_order = order-from times.read times.answered (now ∷ past) (omega arith) mid.in_order;
              begun = omega (arith, has.begun);
            },
          )

      -- a reading, and a stamp by it
      read-stamped : (reading : Interval) → GaveStamp (Ok reading) before.seat after.seat → IsTakenAt gives ppm moments after.watch before.clock after.clock reading times.read → DoneOf (Ok reading)
      read-stamped reading gave taken =
          let by : from ≤ times.read = omega arith in
          let arrival : Arrival = record { id = id_at 0; floor = gave.entry.floor } in
          let first : LifeDone = the_read times.read taken.clock (Some arrival) in
          let second : LifeDone = record { at = times.stamped; deed = Stamps (record { worker = w; entry = gave.entry }) } in
          let mid = has-read reading times.read (Some arrival) taken by in
          let same : reading ≡ gave.reading = let given : ◌≡◌ {A = Result Interval ℕ} (Ok reading) (Ok gave.reading) = gave.given_is in cc in
          let is = the_reading reading times.read (Some arrival) taken by in (
            second ∷ first ∷ past,
            record { reads = first ∷ []; stamps = second ∷ []; now_is = refl; read = is-reading reading times.read (Some arrival) taken by; stamped = (gave.entry, refl, gave.own) },
            record {
              drift = mid.drift;
              numbers = goes.seat.numbers ∙ has.numbers;
              entries = ap (λ (l : List Stamping). gave.entry ∷ l) has.entries ∙ sym gave.own;
              seen = mid.seen;
              of_worker = (refl, mid.of_worker);
              own = (
                (
                  within,
                  (
                    record { clock = taken.clock; publication = length after.watch.items; arrival = arrival },
                    begun-here w taken.clock (length after.watch.items) arrival (begun_in w past),
                    gave.latest ∙ ap (λ (i : Interval). i.hi) (sym same ∙ is),
                    refl,
                  ),
                ),
                mid.own,
              );
              is_since = (omega (arith, has.begun), mid.is_since);
              in_order = (omega arith, order-from times.read times.stamped (first ∷ past) stamped mid.in_order);
              begun = omega (arith, has.begun);
            },
          )

      -- one call
      call-done : (given : Result Interval ℕ) → Did given before.seat after.seat → IsReadAt gives ppm moments after.watch before.clock after.clock given times.read → DoneOf given
      call-done (Ok reading) (inl same) taken = read-alone reading same taken
      call-done (Ok reading) (inr gave) taken = read-stamped reading gave taken
      call-done (Err reason) (inl same) taken =
          (past, record { reads = []; stamps = []; now_is = refl; read = refl; stamped = same }, has-later before after from times.answered past has goes same (omega arith))
      call-done (Err reason) (inr gave) taken = let no : ◌≡◌ {A = Result Interval ℕ} (Err reason) (Ok gave.reading) = gave.given_is in absurd cc

  -- ---- a turn, and all turns

  module _ {C V : Type 0} (gives : C → Option ℕ → C → Type 0) (failed : C → ℕ) (says : V → Question → Bool → Type 0) (ppm : ℕ) (within : w < config.workers) where
    turn-done : (calls : List Call) (before after : StationState C V) (talked : Conversation (Allows gives failed says) before calls after) (times : List WorkTimes) (from to : ℕ) → DoNotFall from times to
        → AllReadIn gives failed says ppm moments before calls after talked times → IsPrefix (map fused_span_of after.post.watch.items) spans → (past : List LifeDone) → Has before.post from past
        → (now : List LifeDone) × IsDoneIn w config.drift spans gives failed says before calls after talked times past now × Has after.post to now
    turn-done [] before after talked [] from to order read prefix past has = (past, refl, has-same before.post after.post from to past has (ap (λ (s : StationState C V). s.post) talked) order)
    turn-done [] before after talked (t ∷ times) from to order read prefix past has = absurd read
    turn-done (of ∷ calls) before after talked [] from to order read prefix past has = absurd read
    turn-done (of ∷ calls) before after talked (t ∷ times) from to order read prefix past has =
        let mid = talked.0 in
        let goes = call-goes_on gives failed says before of mid talked.1 in
        let later = calls-go_on gives failed says calls mid after (talks-on gives failed says calls mid after talked.2) in
        let seen : IsPrefix (map fused_span_of mid.post.watch.items) spans =
        prefix-both (map fused_span_of mid.post.watch.items) (map fused_span_of after.post.watch.items) spans (map-prefix fused_span_of mid.post.watch.items after.post.watch.items later.watch.seen) prefix in
        let (first, is, first_has) =
        call-done gives ppm within before.post mid.post goes seen from past has t order.0 order.1 order.2 order.3 (given_of gives failed says before of mid talked.1) (call-did gives failed says before of mid talked.1) read.0 in
        let (now, are, now_has) = turn-done calls mid after talked.2 times t.answered to order.4 read.1 prefix first first_has in
        (now, (first, is, are), now_has)

    pub events-done : (waits : ℕ) (first : PostState C) (events : List (WorkerEvent gives failed says waits)) (last : PostState C) (times : List (List WorkTimes)) (to : ℕ) → LeadFrom first events last
        → AreTimed gives failed says waits ppm moments since events times to → IsPrefix (map fused_span_of last.watch.items) spans → Has first since []
        → (list : List LifeDone) × IsListOf w config.drift spans gives failed says waits events times list × Has last to list
    events-done waits first [] last [] to lead timed prefix has = ([], refl, has-same first last since to [] has lead timed)
    events-done waits first [] last (t ∷ times) to lead timed prefix has = absurd timed
    events-done waits first (inl turn ∷ events) last [] to lead timed prefix has = absurd timed
    events-done waits first (inl turn ∷ events) last (t ∷ times) to (mid, lead, (began, left)) (begun, timed, order, read) prefix has =
        let goes = calls-go_on gives failed says turn.calls turn.before turn.after (talks-on gives failed says turn.calls turn.before turn.after turn.talked) in
        let seen : IsPrefix (map fused_span_of turn.after.post.watch.items) spans = subst (λ (p : PostState C). IsPrefix (map fused_span_of p.watch.items) spans) (sym left) prefix in
        let seen_before : IsPrefix (map fused_span_of mid.watch.items) spans =
        subst (λ (p : PostState C). IsPrefix (map fused_span_of p.watch.items) spans) began
        (prefix-both (map fused_span_of turn.before.post.watch.items) (map fused_span_of turn.after.post.watch.items) spans (map-prefix fused_span_of turn.before.post.watch.items turn.after.post.watch.items goes.watch.seen) seen) in
        let (past, are, past_has) = events-done waits first events mid times begun lead timed seen_before has in
        let (now, is, now_has) =
        turn-done turn.calls turn.before turn.after turn.talked t begun to order read seen past (subst (λ (p : PostState C). Has p begun past) (sym began) past_has) in
        (now, (past, are, is), subst (λ (p : PostState C). Has p to now) left now_has)
    events-done waits first (inr end ∷ events) last times to (mid, lead, (stays, calls)) timed prefix has =
        let (list, are, list_has) = events-done waits first events mid times to lead timed (subst (λ (p : PostState C). IsPrefix (map fused_span_of p.watch.items) spans) stays prefix) has in
        (list, are, has-same mid last to to list list_has stays (omega arith))
