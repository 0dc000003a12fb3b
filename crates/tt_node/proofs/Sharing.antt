-- Workers that share a sequencer.
use Rattle.std.proofs.Common.{◌≡◌, ℕ, zero, suc, ◌+◌, ◌-◌, Bool, true, false, List, [], ◌∷◌, ◌++◌, length, map, All, Option, Result, Ok, Err, IfOk, IsErrOf, refl, sym, ap, ◌∙◌, subst, length-append, arith}
use Rattle.std.specs.List.{range_with_len}
use Rattle.std.proofs.lemmas.List.Elements.{All-nil, All-cons}
use Rattle.std.proofs.lemmas.List.FromFn.{length-map-range_with_len}
use Rattle.atomic_table.specs.Seated.{TableId}
use Rattle.tt_span.specs.Interval.{Interval}
use Rattle.tt_publish.specs.Known.{Known, WatchState}
use Rattle.tt_publish.specs.declared.faults.ReadFault.{ReadFault}
use Rattle.tt_session.specs.Conversation.{Conversation}
use Rattle.tt_session.specs.Session.{Serves, Breaks}
use Rattle.tt_session.specs.declared.calls.Call.{Call}
use Rattle.tt_session.specs.declared.calls.Call.TheVariants as call
use Rattle.tt_session.specs.declared.faults.ServeFault.{ServeFault}
use Rattle.tt_session.specs.declared.faults.ServeFault.TheVariants as serve
use Rattle.tt_session.specs.declared.serving.Served.{Served}
use Rattle.tt_stamp.specs.Sequencing.{AreAmong}
use Rattle.tt_stamp.specs.Stamping.{SeatState, IsLegalRun, Continues, SeatLooks, Gives, Unites, entries_of, new_seat}
use Rattle.tt_stamp.specs.Steps.{Stamps, Begins}
use Rattle.tt_stamp.specs.declared.faults.BeginFault.{BeginFault}
use Rattle.tt_stamp.specs.declared.faults.StampFault.{StampFault}
use Rattle.tt_stamp.specs.declared.faults.StampFault.TheVariants.{UsedUp, FloorTooFar, LeaseOver}
use Rattle.tt_stamp.specs.declared.stampings.Stamping.{Stamping}
use Rattle.tt_stamp.proofs.Runs.{entries_of-within, AreAmong-append_left, AreAmong-append_right}
use Rattle.tt_stamp.proofs.Seats.{Continues-trans}
use Rattle.tt_node.specs.Sharing.{AllFrom, AllDown, IsNewSeat, IsLater, IsServed, ServesWith, HasPart, HasShare, IsServing, ServesAt, SharesSequencer, ReadsBy}
use Rattle.tt_node.specs.Working.{WorkerState, PassesGate, DoesWhere, Allows, after_asking}
use Rattle.tt_node.specs.declared.nodes.ServesSession.{ServesSession}
use Rattle.tt_node.specs.declared.nodes.WorkerEnd.{WorkerEnd}

-- ---- lists by place
pub AllFrom-snoc : {A : Type 0} (Holds : ℕ → A → Type 0) (place : ℕ) (xs : List A) (x : A) → AllFrom Holds place xs → Holds (place + length xs) x → AllFrom Holds place (xs ++ x ∷ [])
AllFrom-snoc Holds place [] x none one = let e : place + 0 ≡ place = omega arith in (subst (λ n. Holds n x) e one, tt)
AllFrom-snoc Holds place (y ∷ ys) x (here, rest) one =
    let e : place + length (y ∷ ys) ≡ (place + 1) + length ys = omega arith in (here, AllFrom-snoc Holds (place + 1) ys x rest (subst (λ n. Holds n x) e one))

pub AllFrom-unsnoc : {A : Type 0} (Holds : ℕ → A → Type 0) (place : ℕ) (xs : List A) (x : A) → AllFrom Holds place (xs ++ x ∷ []) → AllFrom Holds place xs × Holds (place + length xs) x
AllFrom-unsnoc Holds place [] x (one, none) = let e : place ≡ place + 0 = omega arith in (tt, subst (λ n. Holds n x) e one)
AllFrom-unsnoc Holds place (y ∷ ys) x (here, rest) =
    let (front, one) = AllFrom-unsnoc Holds (place + 1) ys x rest in
    let e : (place + 1) + length ys ≡ place + length (y ∷ ys) = omega arith in ((here, front), subst (λ n. Holds n x) e one)

pub AllFrom-map : {A : Type 0} (Holds Goes : ℕ → A → Type 0) → ((place : ℕ) (x : A) → Holds place x → Goes place x) → (place : ℕ) (xs : List A) → AllFrom Holds place xs → AllFrom Goes place xs
AllFrom-map Holds Goes goes place [] none = tt
AllFrom-map Holds Goes goes place (x ∷ xs) (here, rest) = (goes place x here, AllFrom-map Holds Goes goes (place + 1) xs rest)

All-from : {A : Type 0} (Holds : ℕ → A → Type 0) (Goes : A → Type 0) → ((place : ℕ) (x : A) → Holds place x → Goes x) → (place : ℕ) (xs : List A) → AllFrom Holds place xs → All Goes xs
All-from Holds Goes goes place [] none = All-nil Goes
All-from Holds Goes goes place (x ∷ xs) (here, rest) = All-cons Goes x xs (goes place x here) (All-from Holds Goes goes (place + 1) xs rest)

pub AllFrom-new : (table : TableId) (seats place count : ℕ) → AllFrom (IsNewSeat table seats) place (map (new_seat table seats) (range_with_len place count))
AllFrom-new table seats place zero = tt
AllFrom-new table seats place (suc count) = (refl, AllFrom-new table seats (place + 1) count)

pub AllDown-snoc : {A : Type 0} (Holds : ℕ → A → Type 0) (end : ℕ) (xs : List A) (x : A) → AllDown Holds end xs → Holds (end - 1 - length xs) x → AllDown Holds end (xs ++ x ∷ [])
AllDown-snoc Holds end [] x none one = let e : end - 1 - 0 ≡ end - 1 = omega arith in (subst (λ n. Holds n x) e one, tt)
AllDown-snoc Holds end (y ∷ ys) x (here, rest) one =
    let e : end - 1 - length (y ∷ ys) ≡ end - 1 - 1 - length ys = omega arith in (here, AllDown-snoc Holds (end - 1) ys x rest (subst (λ n. Holds n x) e one))

pub AllDown-unsnoc : {A : Type 0} (Holds : ℕ → A → Type 0) (end : ℕ) (xs : List A) (x : A) → AllDown Holds end (xs ++ x ∷ []) → AllDown Holds end xs × Holds (end - 1 - length xs) x
AllDown-unsnoc Holds end [] x (one, none) = let e : end - 1 ≡ end - 1 - 0 = omega arith in (tt, subst (λ n. Holds n x) e one)
AllDown-unsnoc Holds end (y ∷ ys) x (here, rest) =
    let (front, one) = AllDown-unsnoc Holds (end - 1) ys x rest in
    let e : end - 1 - 1 - length ys ≡ end - 1 - length (y ∷ ys) = omega arith in ((here, front), subst (λ n. Holds n x) e one)

-- the seat that is taken from the end of the new seats
pub seat-popped : (table : TableId) (seats : ℕ) (old new : List SeatState) (seat : SeatState) → old ≡ new ++ seat ∷ [] → AllFrom (IsNewSeat table seats) 0 old
    → AllFrom (IsNewSeat table seats) 0 new × (seat ≡ new_seat table seats (length new))
seat-popped table seats old new seat is all =
    let (front, one) = AllFrom-unsnoc (IsNewSeat table seats) 0 new seat (subst (λ s. AllFrom (IsNewSeat table seats) 0 s) is all) in
    let e : 0 + length new ≡ length new = omega arith in (front, subst (λ n. seat ≡ new_seat table seats n) e one)

-- the next thread that is started serves the session of the seat that is taken from the end
pub started-next : {H : Type 0} (Serves : ℕ → SeatState → H → Type 0) (table : TableId) (count : ℕ) (old new : List SeatState) (seat : SeatState) (session : ℕ) (handles : List H) (handle : H)
    → old ≡ new ++ seat ∷ [] → session ≡ length new → length old + length handles ≡ count → AllFrom (IsNewSeat table count) 0 old
    → AllDown (λ number h. Serves number (new_seat table count number) h) count handles → Serves session seat handle
    → AllFrom (IsNewSeat table count) 0 new × AllDown (λ number h. Serves number (new_seat table count number) h) count (handles ++ handle ∷ [])
started-next Serves table count old new seat session handles handle is at counts all each serves =
    let popped = seat-popped table count old new seat is all in
    let longer : length old ≡ length new + 1 = ap length is ∙ length-append new (seat ∷ []) in
    let place : session ≡ count - 1 - length handles = omega (arith, at, counts, longer) in
    let of_it : seat ≡ new_seat table count session = popped.1 ∙ ap (λ n. new_seat table count n) (sym at) in (
      popped.0,
      AllDown-snoc (λ number h. Serves number (new_seat table count number) h) count handles handle each
          (subst (λ n. Serves n (new_seat table count n) handle) place (subst (λ s. Serves session s handle) of_it serves)),
    )

-- the seats of a new sequencer
pub opened-seats : (table : TableId) (count : ℕ) (seats : List SeatState) → seats ≡ map (new_seat table count) (range_with_len 0 count) → (length seats ≡ count) × AllFrom (IsNewSeat table count) 0 seats
opened-seats table count seats opened =
    (ap length opened ∙ length-map-range_with_len (new_seat table count) 0 count, subst (λ s. AllFrom (IsNewSeat table count) 0 s) (sym opened) (AllFrom-new table count 0 count))

-- ---- a seat goes on
later-same : (old new : SeatState) → new ≡ old → IsLater old new
later-same old new same = subst (λ s. IsLater old s) (sym same) (record { table = refl; seats = refl; numbers = refl; seen = ([], refl); own = ([], refl) })

later-looks : (old new : SeatState) → SeatLooks old new → IsLater old new
later-looks old new looks = record { table = looks.same.table; seats = looks.same.seats; numbers = looks.same.numbers; seen = looks.after; own = ([], looks.own) }

later-gives : (old new : SeatState) (latest floor : ℕ) (lease : Interval) (stamp : ℕ) → Gives old new latest floor lease stamp → IsLater old new
later-gives old new latest floor lease stamp gives =
    let entry : Stamping = record { number = gives.number; latest = latest; floor = floor; lease = lease; stamp = stamp } in
    record {
      table = gives.same.table;
      seats = gives.same.seats;
      numbers = gives.same.numbers;
      seen = (entry ∷ gives.between, gives.after);
      own = (entry ∷ [], gives.own);
    }

later-trans : (a b c : SeatState) → IsLater a b → IsLater b c → IsLater a c
later-trans a b c f g = record {
  table = g.table ∙ f.table;
  seats = g.seats ∙ f.seats;
  numbers = g.numbers ∙ f.numbers;
  seen = Continues-trans a.seen b.seen c.seen f.seen g.seen;
  own = Continues-trans a.own b.own c.own f.own g.own;
}

later-stamps : (floor : ℕ) (lease reading : Interval) (old : SeatState) (answer : Result ℕ StampFault) (new : SeatState) → Stamps floor lease reading old answer new → IsLater old new
later-stamps floor lease reading old (Ok stamp) new s = later-gives old new reading.hi floor lease stamp s.1
later-stamps floor lease reading old (Err FloorTooFar) new s = later-same old new s.1
later-stamps floor lease reading old (Err UsedUp) new s = later-looks old new s.1
later-stamps floor lease reading old (Err LeaseOver) new s = later-looks old new s.1
later-stamps floor lease reading old (Err _) new s = absurd s

later-begins : (floor : ℕ) (lease : Interval) (looked : Result Interval ReadFault) (old : SeatState) (answer : Result ℕ BeginFault) (new : SeatState) → Begins (Stamps floor lease) looked old answer new → IsLater old new
later-begins floor lease (Ok reading) old answer new b = later-stamps floor lease reading old b.0 new b.1
later-begins floor lease (Err fault) old answer new b = later-same old new b.1

-- ---- so does the seat of a worker
module _ {C G : Type 0} (gives : C → Option ℕ → C → Type 0) (failed : C → ℕ) (says : G → ℕ → ℕ → Bool → G → Type 0) (hears : G → ℕ → ℕ → G → Type 0) where
  later-where : {A : Type 0} (passes : Bool) (Does : WorkerState C G → Result A ℕ → WorkerState C G → Type 0) (before : WorkerState C G) (answer : Result A ℕ) (after : WorkerState C G)
      → (Does before answer after → IsLater before.seat after.seat) → DoesWhere passes Does before answer after → IsLater before.seat after.seat
  later-where true Does before answer after later does = later does.1
  later-where false Does before answer after later does = later-same before.seat after.seat (ap (λ w. w.seat) does.1)

  later-passes : {A : Type 0} (Does : WorkerState C G → Result A ℕ → WorkerState C G → Type 0) (before : WorkerState C G) (answer : Result A ℕ) (after : WorkerState C G)
      → ((b a : WorkerState C G) → Does b answer a → IsLater b.seat a.seat) → PassesGate says hears Does before answer after → IsLater before.seat after.seat
  later-passes Does before answer after later p =
      subst (λ s. IsLater before.seat s) (sym (ap (λ w. w.seat) p.kept))
      (later-where p.passes Does (after_asking before p.asked) answer p.done (later (after_asking before p.asked) p.done) p.does)

  later-call : (before : WorkerState C G) (one : Call) (after : WorkerState C G) → Allows gives failed says hears before one after → IsLater before.seat after.seat
  later-call before (call.Now answer) after allowed = later-passes _ before answer after (λ b a does. later-same b.seat a.seat does.seat) allowed
  later-call before (call.Begin number floor answer) after allowed =
      later-passes _ before answer after (λ b a does. let (looked, looks, (begun, begins, answers)) = does.begins in later-begins floor b.lease looked b.seat begun a.seat begins) allowed
  later-call before (call.Lease lo hi answer) after allowed = later-same before.seat after.seat (ap (λ w. w.seat) allowed.1)
  later-call before (call.Pass number answer) after allowed = later-passes _ before answer after (λ b a does. later-same b.seat a.seat does.seat) allowed

  pub later-talked : (before : WorkerState C G) (calls : List Call) (after : WorkerState C G) → Conversation (Allows gives failed says hears) before calls after → IsLater before.seat after.seat
  later-talked before [] after same = later-same before.seat after.seat (ap (λ w. w.seat) same)
  later-talked before (one ∷ calls) after (mid, allowed, rest) =
      later-trans before.seat mid.seat after.seat (later-call before one mid allowed) (later-talked mid calls after rest)

-- ---- what a session was served by
module _ {S : Type 0} (allows : S → Call → S → Type 0) (waits : ℕ) where
  pub talked-by : (left left' taken taken' : Option (List ℕ)) (before after : S) (answer : Result Served ServeFault)
      → IfOk answer (λ served. Serves allows waits left left' taken taken' before after served)
      → (IsErrOf answer serve.ReadFailed → (served : Served) × Serves allows waits left left' taken taken' before after served)
      → (IsErrOf answer serve.WriteFailed → Breaks allows waits left left' taken taken' before after)
      → (calls : List Call) × Conversation allows before calls after × IfOk answer (IsServed waits calls)
  talked-by left left' taken taken' before after (Ok served) serves read write =
      let s = serves.session in
      (s.calls, s.talked, record { lines = s.lines; replies = s.replies; last = serves.last; answered = s.answered; lines_are = s.lines_are; refused_are = s.refused_are })
  talked-by left left' taken taken' before after (Err serve.ReadFailed) serves read write = let s = (read refl).1.session in (s.calls, s.talked, tt)
  talked-by left left' taken taken' before after (Err serve.WriteFailed) serves read write = let s = (write refl).breaks.session in (s.calls, s.talked, tt)

-- ---- seats that were joined to one
-- what the one seat knows of another that was joined to it
pub record IsIn (all seat : SeatState) : Type 0 where
  pub among : AreAmong seat.numbers all.numbers
  pub begins : Continues seat.seen all.seen
  pub own : entries_of seat.numbers all.own ≡ seat.own

in-itself : (seat : SeatState) → entries_of seat.numbers seat.seen ≡ seat.own → IsIn seat seat
in-itself seat mine = record {
  among = λ n is. is;
  begins = ([], refl);
  own = ap (entries_of seat.numbers) (sym mine) ∙ entries_of-within seat.numbers seat.numbers (λ n is. is) seat.seen ∙ mine;
}

in-first : (first second both seat : SeatState) → Unites first second both → IsIn first seat → IsIn both seat
in-first first second both seat u i = record {
  among = λ n is. subst (λ ns. AreAmong first.numbers ns) (sym u.numbers) (AreAmong-append_left first.numbers second.numbers) n (i.among n is);
  begins = Continues-trans seat.seen first.seen both.seen i.begins u.after_first;
  own = sym (entries_of-within seat.numbers first.numbers i.among both.own) ∙ ap (entries_of seat.numbers) u.own_of_first ∙ i.own;
}

in-second : (first second both : SeatState) → Unites first second both → IsIn both second
in-second first second both u = record {
  among = subst (λ ns. AreAmong second.numbers ns) (sym u.numbers) (AreAmong-append_right first.numbers second.numbers);
  begins = u.after_second;
  own = u.own_of_second;
}

has-part : (all seat : SeatState) → entries_of all.numbers all.seen ≡ all.own → IsIn all seat → HasPart all.seen seat
has-part all seat mine i = record {
  begins = i.begins;
  own = sym (entries_of-within seat.numbers all.numbers i.among all.seen) ∙ ap (entries_of seat.numbers) mine ∙ i.own;
}

module _ {C G : Type 0} (gives : C → Option ℕ → C → Type 0) (failed : C → ℕ) (says : G → ℕ → ℕ → Bool → G → Type 0) (hears : G → ℕ → ℕ → G → Type 0)
    (waits : ℕ) (gate : G) (lease : Interval) (watch : WatchState) (table : TableId) (seats : ℕ) where
  -- the end of the worker of this number, whose seat was joined to this one
  pub record EndsIn (all : SeatState) (number : ℕ) (end : WorkerEnd) : Type 0 where
    pub clock : C
    pub serves : ServesWith gives failed says hears waits number gate lease watch clock (new_seat table seats number) end
    pub joined : IsIn all end.seat.value

  -- the seats of the first workers were joined to this one
  pub record HasJoined (ends : List WorkerEnd) (all : SeatState) : Type 0 where
    pub table_is : all.table ≡ table
    pub seats_are : all.seats ≡ seats
    pub legal : IsLegalRun all.seats all.seen
    pub mine : entries_of all.numbers all.seen ≡ all.own
    pub each : AllFrom (EndsIn all) 0 ends

  -- what a thread promised, by what is known of its promise
  pub serves-at : (number : ℕ) (promise : ServesSession C G) (end : WorkerEnd) → IsServing gate waits lease watch number (new_seat table seats number) promise
      → ServesWith gives failed says hears promise.waits promise.session promise.gate.value promise.lease promise.watch.value promise.clock.value promise.seat.value end
      → ServesWith gives failed says hears waits number gate lease watch promise.clock.value (new_seat table seats number) end
  serves-at number promise end is serves =
      subst (λ s. ServesWith gives failed says hears waits number gate lease watch promise.clock.value s end) is.seat_is
      (subst (λ w. ServesWith gives failed says hears waits number gate lease w promise.clock.value promise.seat.value end) is.watch_is
      (subst (λ l. ServesWith gives failed says hears waits number gate l promise.watch.value promise.clock.value promise.seat.value end) is.lease_is
      (subst (λ g. ServesWith gives failed says hears waits number g promise.lease promise.watch.value promise.clock.value promise.seat.value end) is.gate_is
      (subst (λ n. ServesWith gives failed says hears waits n promise.gate.value promise.lease promise.watch.value promise.clock.value promise.seat.value end) is.session_is
      (subst (λ n. ServesWith gives failed says hears n promise.session promise.gate.value promise.lease promise.watch.value promise.clock.value promise.seat.value end) is.waits_are serves)))))

  -- the thread that is taken from the end served the session of its place, and those before it are as they were
  pub taken-serves : {H : Type 0} (promise : H → ServesSession C G) (old new : List H) (handle : H) (number : ℕ) (end : WorkerEnd) → old ≡ new ++ handle ∷ [] → seats ≡ length new + number + 1
      → AllDown (λ k h. ServesAt table seats gate waits lease watch k (promise h)) seats old
      → (let p = promise handle in ServesWith gives failed says hears p.waits p.session p.gate.value p.lease p.watch.value p.clock.value p.seat.value end)
      → AllDown (λ k h. ServesAt table seats gate waits lease watch k (promise h)) seats new
      × (let p = promise handle in ServesWith gives failed says hears waits number gate lease watch p.clock.value (new_seat table seats number) end)
  taken-serves promise old new handle number end is count each serves =
      let (front, last) = AllDown-unsnoc (λ k h. ServesAt table seats gate waits lease watch k (promise h)) seats new handle (subst (λ hs. AllDown (λ k h. ServesAt table seats gate waits lease watch k (promise h)) seats hs) is each) in
      let place : seats - 1 - length new ≡ number = omega (arith, count) in
      (front, serves-at number (promise handle) end (subst (λ k. ServesAt table seats gate waits lease watch k (promise handle)) place last) serves)

  pub joined-first : (clock : C) (end : WorkerEnd) (seat : SeatState) → ServesWith gives failed says hears waits 0 gate lease watch clock (new_seat table seats 0) end → end.seat.value ≡ seat
      → IsLegalRun seat.seats seat.seen → entries_of seat.numbers seat.seen ≡ seat.own → HasJoined (end ∷ []) seat
  joined-first clock end seat serves is legal mine =
      record {
        table_is = sym (ap (λ s. s.table) is) ∙ serves.later.table;
        seats_are = sym (ap (λ s. s.seats) is) ∙ serves.later.seats;
        legal = legal;
        mine = mine;
        each = (record { clock = clock; serves = serves; joined = subst (λ s. IsIn seat s) (sym is) (in-itself seat mine) }, tt);
      }

  pub joined-next : (ends : List WorkerEnd) (all both : SeatState) (clock : C) (end : WorkerEnd) (seat : SeatState) → HasJoined ends all
      → ServesWith gives failed says hears waits (length ends) gate lease watch clock (new_seat table seats (length ends)) end → end.seat.value ≡ seat
      → Unites all seat both → HasJoined (ends ++ end ∷ []) both
  joined-next ends all both clock end seat h serves is u =
      record {
        table_is = u.table ∙ h.table_is;
        seats_are = u.seats ∙ h.seats_are;
        legal = u.legal;
        mine = u.own;
        each =
            AllFrom-snoc (EndsIn both) 0 ends end
            (AllFrom-map (EndsIn all) (EndsIn both) (λ k e i. record { clock = i.clock; serves = i.serves; joined = in-first all seat both e.seat.value u i.joined }) 0 ends h.each)
            (let e : length ends ≡ 0 + length ends = omega arith in subst (λ n. EndsIn both n end) e (record { clock = clock; serves = serves; joined = subst (λ s. IsIn both s) (sym is) (in-second all seat both u) }));
      }

  shares-at : (ends : List WorkerEnd) (all : SeatState) → table ≡ all.table → seats ≡ length ends → HasJoined ends all → SharesSequencer gives failed says hears waits gate lease watch ends all
  shares-at ends all t n h = record {
    legal = subst (λ m. IsLegalRun m all.seen) (h.seats_are ∙ n) h.legal;
    each =
        AllFrom-map (EndsIn all) (HasShare gives failed says hears waits gate lease watch all.table (length ends) all.seen)
        (λ k e i. record {
          clock = i.clock;
          serves = subst (λ m. ServesWith gives failed says hears waits k gate lease watch i.clock (new_seat all.table m k) e) n
              (subst (λ x. ServesWith gives failed says hears waits k gate lease watch i.clock (new_seat x seats k) e) t i.serves);
          part = has-part all e.seat.value h.mine i.joined;
        }) 0 ends h.each;
  }

  pub shares : (ends : List WorkerEnd) (all : SeatState) → seats ≡ length ends → HasJoined ends all → SharesSequencer gives failed says hears waits gate lease watch ends all
  shares ends all n h = shares-at ends all (sym h.table_is) n h

  reads-one : (seat : SeatState) (clock : C) (number : ℕ) (end : WorkerEnd) → ServesWith gives failed says hears waits number gate lease watch clock seat end → ReadsBy watch.source watch.drift end
  reads-one seat clock number end serves = record {
    source_is = ap (λ (k : Known). k.source) serves.seen ∙ serves.watch_later.source;
    readings = serves.readings;
  }

  -- what is known of the watches of the first workers
  pub reads-by : (ends : List WorkerEnd) (all : SeatState) → HasJoined ends all → All (ReadsBy watch.source watch.drift) ends
  reads-by ends all h = All-from (EndsIn all) (ReadsBy watch.source watch.drift) (λ number end i. reads-one (new_seat table seats number) i.clock number end i.serves) 0 ends h.each
