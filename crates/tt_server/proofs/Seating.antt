-- Workers whose threads handed their seats back: the seats are joined to one, and what all of them have stamped is one legal history.
use Rattle.std.specs.Prelude.{◌≡◌, ℕ, ◌+◌, ◌-◌, List, [], ◌∷◌, ◌++◌, length}
use Rattle.std.proofs.Common.{refl, sym, ap, ◌∙◌, subst, arith}
use Rattle.atomic_table.specs.Seated.{TableId}
use Rattle.tt_publish.specs.Known.{Source, WatchState}
use Rattle.tt_stamp.specs.Sequencing.{AreAmong}
use Rattle.tt_stamp.specs.Stamping.{SeatState, IsLegalRun, Continues, Unites, entries_of, new_seat}
use Rattle.tt_stamp.proofs.Runs.{entries_of-within, AreAmong-append_left, AreAmong-append_right}
use Rattle.tt_stamp.proofs.Seats.{Continues-trans}
use Rattle.tt_connections.specs.declared.posts.Terms.{Terms}
use Rattle.tt_node.specs.Sharing.{AllFrom, AllDown}
use Rattle.tt_node.proofs.Sharing.{IsIn, AllFrom-map, AllFrom-snoc, AllDown-unsnoc}
use Rattle.tt_settings.specs.Settings.{Meaning}
use Rattle.tt_consistency.specs.Sequencer.{HasSeatOf}
use Rattle.tt_server.specs.Life.{HandsBack, HandsShare, HandShares}
use Rattle.tt_server.specs.Thread.{AreNewSeats, AreReady, IsServing, ServesAt}
use Rattle.tt_server.specs.declared.lives.WorkerEnd.{WorkerEnd}
use Rattle.tt_server.specs.declared.workers.ServesClients.{ServesClients}

-- ---- seats that were joined to one
in-itself : (seat : SeatState) → entries_of seat.numbers seat.seen ≡ seat.own → IsIn seat seat
in-itself seat mine = record {
  among = λ n is. is;
  begins = ([], refl);
  own = ap (entries_of seat.numbers) (sym mine) ∙ entries_of-within seat.numbers seat.numbers (λ n is. is) seat.seen ∙ mine;
}

in-first : (first second both seat : SeatState) → Unites first second both → IsIn first seat → IsIn both seat
in-first first second both seat u i = record {
  among = λ n is. subst (λ ns. AreAmong first.numbers ns) (sym u.numbers) (AreAmong-append_left first.numbers second.numbers) n (i.among n is);
  begins = Continues-trans seat.seen first.seen both.seen i.begins u.after_first;
  own = sym (entries_of-within seat.numbers first.numbers i.among both.own) ∙ ap (entries_of seat.numbers) u.own_of_first ∙ i.own;
}

in-second : (first second both : SeatState) → Unites first second both → IsIn both second
in-second first second both u = record {
  among = subst (λ ns. AreAmong second.numbers ns) (sym u.numbers) (AreAmong-append_right first.numbers second.numbers);
  begins = u.after_second;
  own = u.own_of_second;
}

-- ---- new seats
-- as many new seats as the settings have workers
pub ready-seats : (settings : Meaning) (source : Source) (watches : List WatchState) (table : TableId) (seats : List SeatState) (most count : ℕ) → count ≡ settings.config.workers → AreReady settings source watches table seats most → AreNewSeats table count seats
ready-seats settings source watches table seats most count same ready = subst (λ n. AreNewSeats table n seats) (sym same) ready.new_seats

-- ---- what the threads handed back
-- the same of an equal watch, equal terms and an equal seat
pub handed-by : (watch watch' : WatchState) (terms terms' : Terms) (begun begun' : SeatState) (end : WorkerEnd) (seat : SeatState)
    → watch' ≡ watch → terms' ≡ terms → begun' ≡ begun → HandsBack watch' terms' begun' end seat → HandsBack watch terms begun end seat
handed-by watch watch' terms terms' begun begun' end seat same same' same'' handed =
    subst (λ (s : SeatState). HandsBack watch terms s end seat) same''
    (subst (λ (w : WatchState). HandsBack w terms begun' end seat) same (subst (λ (t : Terms). HandsBack watch' t begun' end seat) same' handed))

module _ (watch : WatchState) (terms : Terms) (table : TableId) (seats : ℕ) where
  -- the worker of this number handed this back, and its seat was joined to this one
  pub record EndsIn (all : SeatState) (number : ℕ) (end : WorkerEnd) : Type 0 where
    pub seat : SeatState
    pub handed : HandsBack watch terms (new_seat table seats number) end seat
    pub joined : IsIn all seat

  -- the seats of the first workers were joined to this one
  pub record HaveJoined (ends : List WorkerEnd) (all : SeatState) : Type 0 where
    pub table_is : all.table ≡ table
    pub seats_are : all.seats ≡ seats
    pub legal : IsLegalRun all.seats all.seen
    pub mine : entries_of all.numbers all.seen ≡ all.own
    pub each : AllFrom (EndsIn all) 0 ends

  -- the thread that is taken from the end had the seat of its place, and those before it are as they were
  pub taken : {H : Type 0} (promise : H → ServesClients) (old new : List H) (handle : H) (number : ℕ) (end : WorkerEnd) (seat : SeatState)
      → old ≡ new ++ handle ∷ [] → seats ≡ length new + number + 1
      → AllDown (λ k h. ServesAt watch terms table seats k (promise h)) seats old
      → (let p = promise handle in HandsBack p.watch.value p.terms p.seat.value end seat)
      → AllDown (λ k h. ServesAt watch terms table seats k (promise h)) seats new × HandsBack watch terms (new_seat table seats number) end seat
  taken promise old new handle number end seat is count each handed =
      let (front, last) = AllDown-unsnoc (λ k h. ServesAt watch terms table seats k (promise h)) seats new handle (subst (λ hs. AllDown (λ k h. ServesAt watch terms table seats k (promise h)) seats hs) is each) in
      let place : seats - 1 - length new ≡ number = omega (arith, count) in
      let serves : IsServing watch terms (new_seat table seats number) (promise handle) = subst (λ k. ServesAt watch terms table seats k (promise handle)) place last in
      let p = promise handle in (front, handed-by watch p.watch.value terms p.terms (new_seat table seats number) p.seat.value end seat serves.watch_is serves.terms_are serves.seat_is handed)

  -- a seat that was handed back is of the sequencer, which has as many seats
  pub handed-table : (number : ℕ) (end : WorkerEnd) (seat : SeatState) → HandsBack watch terms (new_seat table seats number) end seat → seat.table ≡ table
  handed-table number end seat handed =
      ap (λ (s : SeatState). s.table) handed.seat_is ∙ (handed.goes.seat.table ∙ ap (λ (s : SeatState). s.table) handed.begun_is)

  handed-seats : (number : ℕ) (end : WorkerEnd) (seat : SeatState) → HandsBack watch terms (new_seat table seats number) end seat → seat.seats ≡ seats
  handed-seats number end seat handed =
      ap (λ (s : SeatState). s.seats) handed.seat_is ∙ (handed.goes.seat.seats ∙ ap (λ (s : SeatState). s.seats) handed.begun_is)

  handed-numbers : (number : ℕ) (end : WorkerEnd) (seat : SeatState) → HandsBack watch terms (new_seat table seats number) end seat → seat.numbers ≡ number ∷ []
  handed-numbers number end seat handed =
      ap (λ (s : SeatState). s.numbers) handed.seat_is ∙ (handed.goes.seat.numbers ∙ ap (λ (s : SeatState). s.numbers) handed.begun_is)

  pub joined-first : (end : WorkerEnd) (seat : SeatState) → HandsBack watch terms (new_seat table seats 0) end seat
      → IsLegalRun seat.seats seat.seen → entries_of seat.numbers seat.seen ≡ seat.own → HaveJoined (end ∷ []) seat
  joined-first end seat handed legal mine = record {
    table_is = handed-table 0 end seat handed;
    seats_are = handed-seats 0 end seat handed;
    legal = legal;
    mine = mine;
    each = (record { seat = seat; handed = handed; joined = in-itself seat mine }, tt);
  }

  pub joined-next : (ends : List WorkerEnd) (all both : SeatState) (end : WorkerEnd) (seat : SeatState) → HaveJoined ends all
      → HandsBack watch terms (new_seat table seats (length ends)) end seat → Unites all seat both → HaveJoined (ends ++ end ∷ []) both
  joined-next ends all both end seat h handed u = record {
    table_is = u.table ∙ h.table_is;
    seats_are = u.seats ∙ h.seats_are;
    legal = u.legal;
    mine = u.own;
    each =
        AllFrom-snoc (EndsIn both) 0 ends end
        (AllFrom-map (EndsIn all) (EndsIn both) (λ k e i. record { seat = i.seat; handed = i.handed; joined = in-first all seat both i.seat u i.joined }) 0 ends h.each)
        (let e : length ends ≡ 0 + length ends = omega arith in subst (λ n. EndsIn both n end) e (record { seat = seat; handed = handed; joined = in-second all seat both u }));
  }

  -- the worker of an end has its part of what all of them have stamped
  share-of : (all : SeatState) → entries_of all.numbers all.seen ≡ all.own → (number : ℕ) (end : WorkerEnd) → EndsIn all number end → HandsShare watch terms table seats all.seen number end
  share-of all mine number end i =
      let last = i.handed.worker.last.seat in
      let among : AreAmong i.seat.numbers all.numbers = i.joined.among in
      let own : entries_of i.seat.numbers all.seen ≡ i.seat.own =
      sym (entries_of-within i.seat.numbers all.numbers among all.seen) ∙ ap (entries_of i.seat.numbers) mine ∙ i.joined.own in
      let numbered : entries_of (number ∷ []) all.seen ≡ i.seat.own =
      subst (λ (ns : List ℕ). entries_of ns all.seen ≡ i.seat.own) (handed-numbers number end i.seat i.handed) own in
      let share : HasSeatOf table seats all.seen number i.handed.worker =
      record {
        seat_is = i.handed.begun_is;
        begins = subst (λ (s : SeatState). Continues s.seen all.seen) i.handed.seat_is i.joined.begins;
        own = numbered ∙ ap (λ (s : SeatState). s.own) i.handed.seat_is;
      } in
      record { seat = i.seat; handed = i.handed; share = share }

-- once all are joined, each has its share
shares-of : (watch : WatchState) (terms : Terms) (table : TableId) (seats : ℕ) (ends : List WorkerEnd) (all : SeatState) → HaveJoined watch terms table seats ends all → AllFrom (HandsShare watch terms table seats all.seen) 0 ends
shares-of watch terms table seats ends all h =
    AllFrom-map (EndsIn watch terms table seats all) (HandsShare watch terms table seats all.seen) (share-of watch terms table seats all h.mine) 0 ends h.each

pub shares : (watch : WatchState) (terms : Terms) (table : TableId) (seats : ℕ) (ends : List WorkerEnd) (all : SeatState) → seats ≡ length ends → HaveJoined watch terms table seats ends all → HandShares watch terms ends
shares watch terms table seats ends all count h = record {
  table = table;
  history = all.seen;
  legal = subst (λ n. IsLegalRun n all.seen) (h.seats_are ∙ count) h.legal;
  each = subst (λ n. AllFrom (HandsShare watch terms table n all.seen) 0 ends) count (shares-of watch terms table seats ends all h);
}
