-- What a worker does to its sessions: each change of its post is a turn of one of them.
use Rattle.std.proofs.Common.{◌≡◌, ◌≢◌, ℕ, zero, suc, ◌≤◌, Bool, nat_eq, if◌then◌else◌, List, [], ◌∷◌, ◌++◌, length, get_or, Option, Some, None, IsSome, Result, Ok, Err, IfOk, OnOk, OnErr, refl, sym, ap, ◌∙◌, subst, inl, inr, arith}
use borrow.Author.Tests.{eq-eqb, ne_eqb}
use Rattle.std.proofs.lemmas.Bool.{cases_eq}
use Rattle.std.proofs.lemmas.List.{get_or_past}
use Rattle.std.proofs.lemmas.List.Elements.{All-nil, All-cons, All-weaker}
use Rattle.std.specs.Io.KnownBytes.{Appends, Consumes}
use Rattle.std.proofs.KnownBytes.{Appends-trans, Consumes-trans}
use Rattle.tt_publish.specs.Known.{WatchState}
use Rattle.tt_stamp.specs.Stamping.{SeatState}
use Rattle.tt_session.specs.Conversation.{Conversation}
use Rattle.tt_session.specs.declared.calls.Call.{Call}
use Rattle.tt_session.proofs.Splitting.{Splits-nil}
use Rattle.tt_clock.specs.Clock.{ClockState, MachineGives}
use Rattle.tt_connections.specs.Client.{ClientSays}
use Rattle.tt_connections.specs.Station.{PostState, Allows, new_station}
use Rattle.tt_connections.specs.Sessions.{AreServedBetween, IsServedBetween}
use Rattle.tt_connections.specs.Turns.{PostGoesOn, AllowsOn}
use Rattle.tt_connections.specs.Visits.{VisitState, StandsAt, new_visit, station_at}
use Rattle.tt_connections.proofs.Turning.{post-same, post-both}
use Rattle.tt_workers.specs.Happening.{SessionTurn, StandsFrom, calls_at, left_at, made_at, made_in, made_on, sessions_of}
use Rattle.tt_workers.specs.Worker.{MachineSession, MachineEvent, MachineCall, MachineStation, SessionState, ComesTo, IsNew, Serves, ServesLast, Served, ServedLast, GoesOn, IsOpenWith, HasWorked, WorkerServed, post_or, unheard, clock_failures, max_waits}
use Rattle.tt_workers.proofs.Making.{from-later, made-both, made-later, made-moved}
use Rattle.slab.specs.Slab.{Slab, get, with_value, Updates}
use Rattle.slab.proofs.SlabLemmas.{Updates-with_value}

-- ---- choices by a place
if-at : {A : Type 0} (other place : ℕ) (a b : A) → other ≡ place → (if nat_eq other place then a else b) ≡ a
if-at other place a b same = ap (λ (t : Bool). if t then a else b) (eq-eqb other place same)

if-other : {A : Type 0} (other place : ℕ) (a b : A) → other ≢ place → (if nat_eq other place then a else b) ≡ b
if-other other place a b differs = ap (λ (t : Bool). if t then a else b) (ne_eqb other place differs)

-- what is open at each place, once this is at one of them
abbrev pub put : ℕ → Option SessionState → (ℕ → Option SessionState) → ℕ → Option SessionState
put place slot slots other = if nat_eq other place then slot else slots other

put-is : (place : ℕ) (slot : Option SessionState) (slots : ℕ → Option SessionState) (other : ℕ) (value : Option SessionState)
    → (other ≡ place → value ≡ slot) → (other ≢ place → value ≡ slots other) → value ≡ put place slot slots other
put-is place slot slots other value here there =
    elim (cases_eq other place) [
      | inl same ↦ here same ∙ sym (if-at other place slot (slots other) same)
      | inr differs ↦ there differs ∙ sym (if-other other place slot (slots other) differs)
    ]

-- ---- the post
-- what was lent to a turn is what was there
pub worked-at : (first post : PostState ClockState) (found : Option (PostState ClockState)) (open_at : ℕ → Option SessionState) → Some post ≡ found → HasWorked first (post_or first found) open_at → HasWorked first post open_at
worked-at first post found open_at is w = subst (λ (p : Option (PostState ClockState)). HasWorked first (post_or first p) open_at) (sym is) w

-- ---- sessions that are open
-- calls of the machine, before each of which the post may have gone on, from the beginning of a session at a post
abbrev Talks : PostState ClockState → List Call → MachineStation → Type 0
Talks begun calls end = Conversation (AllowsOn MachineGives clock_failures ClientSays) (new_station begun tt) calls end

abbrev Stands : PostState ClockState → List ℕ → List ℕ → VisitState → PostState ClockState → Type 0
Stands begun bytes text visit post = StandsAt MachineGives clock_failures ClientSays max_waits begun tt bytes text visit post

-- a session that stands, as one that ends: with its calls as they were made
module _ (begun post : PostState ClockState) (bytes text : List ℕ) (visit : VisitState) (s : Stands begun bytes text visit post) (calls : List Call) (calls_are : s.stood.session.calls ≡ calls) (made : List MachineCall) (c : ComesTo begun tt calls made visit post) where
  abbrev session-at : MachineSession
  session-at = record {
    client = tt;
    before = begun;
    after = station_at c.last tt visit;
    bytes = bytes;
    text = text;
    served = visit.talk.served;
    rest = s.stood.rest;
    last = visit.talk.last;
    session =
        record {
          lines = s.stood.session.lines;
          calls = s.stood.session.calls;
          replies = s.stood.session.replies;
          splits = s.stood.session.splits;
          talked = subst (λ (l : List Call). Talks begun l (station_at c.last tt visit)) (sym calls_are) c.talked;
          answered = s.stood.session.answered;
          says = s.stood.session.says;
          lines_are = s.stood.session.lines_are;
          refused_are = s.stood.session.refused_are;
        };
  }

  made-at : (all : List MachineCall) → all ≡ made → made_on MachineGives clock_failures ClientSays (new_station begun tt) session-at.session.calls session-at.after session-at.session.talked ≡ all
  made-at all is = made-moved MachineGives clock_failures ClientSays (new_station begun tt) (station_at c.last tt visit) calls s.stood.session.calls (sym calls_are) c.talked ∙ c.made_are ∙ sym is

-- the calls of a session before its first turn, once its post has gone on, and after a turn
comes-new : (post : PostState ClockState) → ComesTo post tt [] [] new_visit post
comes-new post = record { last = post; goes = post-same post post refl; talked = refl; made_are = refl }

comes-later : (begun post later : PostState ClockState) (calls : List Call) (made : List MachineCall) (visit : VisitState) → PostGoesOn post later → ComesTo begun tt calls made visit post → ComesTo begun tt calls made visit later
comes-later begun post later calls made visit goes c = record { last = c.last; goes = post-both c.last post later c.goes goes; talked = c.talked; made_are = c.made_are }

comes-turned : (begun post later : PostState ClockState) (calls turn : List Call) (made : List MachineCall) (old new : VisitState)
    → (talked : Conversation (Allows MachineGives clock_failures ClientSays) (station_at post tt old) turn (station_at later tt new)) → ComesTo begun tt calls made old post
    → ComesTo begun tt (calls ++ turn) (made ++ made_in MachineGives clock_failures ClientSays (station_at post tt old) turn (station_at later tt new) talked) new later
comes-turned begun post later calls turn made old new talked c =
    let from : MachineStation = station_at c.last tt old in
    let more = made_in MachineGives clock_failures ClientSays (station_at post tt old) turn (station_at later tt new) talked in
    let l = made-later MachineGives clock_failures ClientSays from (station_at post tt old) turn (station_at later tt new) refl c.goes talked in
    let (both, are) = made-both MachineGives clock_failures ClientSays (new_station begun tt) from (station_at l.last tt new) calls turn c.talked l.on in
    record {
      last = l.last;
      goes = l.goes;
      talked = both;
      made_are =
          are
          ∙ ap (λ (m : List MachineCall). m ++ made_on MachineGives clock_failures ClientSays from turn (station_at l.last tt new) l.on) c.made_are
          ∙ ap (λ (m : List MachineCall). made ++ m) l.made_are;
    }

-- what is kept of a session before its first turn
abbrev stands-new : (post : PostState ClockState) → Stands post [] [] new_visit post
stands-new post = record {
  after = new_station post tt;
  stood =
      record {
        rest = [];
        session =
            record {
              lines = [];
              calls = [];
              replies = [];
              splits = Splits-nil;
              talked = refl;
              answered = (refl, refl);
              says = refl;
              lines_are = refl;
              refused_are = refl;
            };
        kept = inl (refl, omega arith);
      };
  client_is = refl;
  lease_is = refl;
  book_is = refl;
  goes = post-same post post refl;
}

-- a session before its first turn
begins : (first post : PostState ClockState) (session : SessionState) → PostGoesOn first post → IsNew session → GoesOn first post [] [] None session
begins first post session goes new =
    let s =
    subst (λ (v : VisitState). (s : Stands post [] [] v post) × (s.stood.session.calls ≡ [])) (sym new.visit) (stands-new post, refl)
    in
    record {
      client = tt;
      begun = post;
      begins = goes;
      bytes = [];
      text = [];
      stands = s.0;
      calls_are = s.1;
      gave = new.gave;
      wrote = new.wrote;
      comes = subst (λ (v : VisitState). ComesTo post tt [] [] v post) (sym new.visit) (comes-new post);
      kept = ap (λ (v : VisitState). station_at {V = Unit {0}} post tt v) new.visit;
    }

-- where the post goes on, a session goes on at it
goes-later : (first post later : PostState ClockState) (calls : List Call) (made : List MachineCall) (left : Option MachineStation) (session : SessionState) → PostGoesOn post later → GoesOn first post calls made left session → GoesOn first later calls made left session
goes-later first post later calls made left session goes g = record {
  client = g.client;
  begun = g.begun;
  begins = g.begins;
  bytes = g.bytes;
  text = g.text;
  stands =
      record {
        after = g.stands.after;
        stood = g.stands.stood;
        client_is = g.stands.client_is;
        lease_is = g.stands.lease_is;
        book_is = g.stands.book_is;
        goes = post-both g.stands.after.post post later g.stands.goes goes;
      };
  calls_are = g.calls_are;
  gave = g.gave;
  wrote = g.wrote;
  comes = comes-later g.begun post later calls made session.visit goes g.comes;
  kept = from-later left (station_at post tt session.visit) later g.kept;
}

open-later : (first post later : PostState ClockState) (calls : List Call) (made : List MachineCall) (left : Option MachineStation) (slot : Option SessionState) → PostGoesOn post later → IsOpenWith first post calls made left slot → IsOpenWith first later calls made left slot
open-later first post later calls made left None goes open_with = open_with
open-later first post later calls made left (Some session) goes open_with = goes-later first post later calls made left session goes open_with

-- where the post goes on, each session was served before that
served-later : (first before after : PostState ClockState) → PostGoesOn before after → (sessions : List MachineSession) → AreServedBetween first before sessions → AreServedBetween first after sessions
served-later first before after goes sessions served =
    All-weaker (IsServedBetween first before) (IsServedBetween first after) (λ (session : MachineSession) between. (between.0, post-both session.after.post before after between.1 goes)) sessions served

-- what is open at a place behind these events
abbrev OpenAt : PostState ClockState → PostState ClockState → List MachineEvent → ℕ → Option SessionState → Type 0
OpenAt first post events place slot = IsOpenWith first post (calls_at place events) (made_at place events) (left_at place events) slot

-- what is open at each place, where it is at one of them and at the others
open-behind : (first post : PostState ClockState) (place : ℕ) (events : List MachineEvent) (slots : ℕ → Option SessionState) (slot : Option SessionState)
    → OpenAt first post events place slot → ((other : ℕ) → other ≢ place → OpenAt first post events other (slots other)) → (other : ℕ) → OpenAt first post events other (put place slot slots other)
open-behind first post place events slots slot here others other =
    elim (cases_eq other place) [
      | inl same ↦ subst (λ (s : Option SessionState). OpenAt first post events other s) (sym (if-at other place slot (slots other) same)) (subst (λ (p : ℕ). OpenAt first post events p slot) (sym same) here)
      | inr differs ↦ subst (λ (s : Option SessionState). OpenAt first post events other s) (sym (if-other other place slot (slots other) differs)) (others other differs)
    ]

-- what is open at a place, behind an event at it, and at another one
module _ (first post : PostState ClockState) (events : List MachineEvent) (place : ℕ) (slot : Option SessionState) where
  open-turned : (turn : SessionTurn MachineGives clock_failures ClientSays) → turn.place ≡ place
      → IsOpenWith first post (calls_at place events ++ turn.calls) (made_at place events ++ made_in MachineGives clock_failures ClientSays turn.before turn.calls turn.after turn.talked) (Some turn.after) slot
      → OpenAt first post (inl turn ∷ events) place slot
  open-turned turn here open_with =
      let more = made_in MachineGives clock_failures ClientSays turn.before turn.calls turn.after turn.talked in
      subst (λ (t : Bool). IsOpenWith first post (if t then calls_at place events ++ turn.calls else calls_at place events) (if t then made_at place events ++ more else made_at place events) (if t then Some turn.after else left_at place events) slot)
      (sym (eq-eqb place turn.place (sym here))) open_with

  open-beside : (turn : SessionTurn MachineGives clock_failures ClientSays) → place ≢ turn.place → OpenAt first post events place slot → OpenAt first post (inl turn ∷ events) place slot
  open-beside turn differs open_with =
      let more = made_in MachineGives clock_failures ClientSays turn.before turn.calls turn.after turn.talked in
      subst (λ (t : Bool). IsOpenWith first post (if t then calls_at place events ++ turn.calls else calls_at place events) (if t then made_at place events ++ more else made_at place events) (if t then Some turn.after else left_at place events) slot)
      (sym (ne_eqb place turn.place differs)) open_with

  open-behind_end : (end : ℕ) (session : MachineSession) → place ≢ end → OpenAt first post events place slot → OpenAt first post (inr (record { place = end; session = session }) ∷ events) place slot
  open-behind_end end session differs open_with =
      subst (λ (t : Bool). IsOpenWith first post (if t then [] else calls_at place events) (if t then [] else made_at place events) (if t then None else left_at place events) slot)
      (sym (ne_eqb place end differs)) open_with

none-ended : (first post : PostState ClockState) (events : List MachineEvent) (place : ℕ) (session : MachineSession) → OpenAt first post (inr (record { place = place; session = session }) ∷ events) place None
none-ended first post events place session =
    subst (λ (t : Bool). IsOpenWith first post (if t then [] else calls_at place events) (if t then [] else made_at place events) (if t then None else left_at place events) None)
    (sym (eq-eqb place place refl)) (refl, refl, refl)

-- ---- what happened so far, over what is open at each place
worked-same : (first post : PostState ClockState) (had slots : ℕ → Option SessionState) → ((place : ℕ) → slots place ≡ had place) → HasWorked first post had → HasWorked first post slots
worked-same first post had slots same w = record {
  events = w.events;
  lead = w.lead;
  of_sessions = w.of_sessions;
  goes = w.goes;
  ended = w.ended;
  each = λ place. subst (λ (s : Option SessionState). OpenAt first post w.events place s) (sym (same place)) (w.each place);
}

worked-none : (post : PostState ClockState) → HasWorked post post (λ place. None)
worked-none post = record { events = []; lead = refl; of_sessions = tt; goes = post-same post post refl; ended = All-nil (IsServedBetween post post); each = λ place. (refl, refl, refl) }

-- a session begins
worked-begun : (first post : PostState ClockState) (slots : ℕ → Option SessionState) (place : ℕ) (session : SessionState) → IsNew session → slots place ≡ None → HasWorked first post slots → HasWorked first post (put place (Some session) slots)
worked-begun first post slots place session new vacant w =
    let (calls, made, left) : OpenAt first post w.events place None = subst (λ (s : Option SessionState). OpenAt first post w.events place s) vacant (w.each place) in
    let g = begins first post session w.goes new in
    let here : OpenAt first post w.events place (Some session) =
    subst (λ (l : Option MachineStation). GoesOn first post (calls_at place w.events) (made_at place w.events) l session) (sym left)
    (subst (λ (m : List MachineCall). GoesOn first post (calls_at place w.events) m None session) (sym made)
    (subst (λ (c : List Call). GoesOn first post c [] None session) (sym calls) g)) in
    record {
      events = w.events;
      lead = w.lead;
      of_sessions = w.of_sessions;
      goes = w.goes;
      ended = w.ended;
      each = open-behind first post place w.events slots (Some session) here (λ other differs. w.each other);
    }

-- turns of the session at a place
worked-turned : (first post later : PostState ClockState) (slots : ℕ → Option SessionState) (place : ℕ) (old new : SessionState)
    → slots place ≡ Some old → Serves old post new later → HasWorked first post slots → HasWorked first later (put place (Some new) slots)
worked-turned first post later slots place old new is s w =
    let g : OpenAt first post w.events place (Some old) = subst (λ (slot : Option SessionState). OpenAt first post w.events place slot) is (w.each place) in
    let on = s.stands g.begun g.bytes g.text g.stands in
    let turn : SessionTurn MachineGives clock_failures ClientSays = record { place = place; before = station_at post tt old.visit; calls = on.turn; after = station_at later tt new.visit; talked = on.talked } in
    let more = made_in MachineGives clock_failures ClientSays turn.before turn.calls turn.after turn.talked in
    let events : List MachineEvent = inl turn ∷ w.events in
    let now : GoesOn first later (calls_at place w.events ++ on.turn) (made_at place w.events ++ more) (Some turn.after) new = record {
      client = tt;
      begun = g.begun;
      begins = g.begins;
      bytes = g.bytes ++ s.heard;
      text = g.text ++ s.text;
      stands = on.stands;
      calls_are = on.calls_are ∙ ap (λ (l : List Call). l ++ on.turn) g.calls_are;
      gave =
          subst (λ (from : Option (List ℕ)). Consumes from (unheard new) (g.bytes ++ s.heard)) (sym s.first_left)
          (Consumes-trans old.first_left (unheard old) (unheard new) g.bytes s.heard g.gave s.gave);
      wrote =
          subst (λ (from : Option (List ℕ)). Appends from new.written (g.text ++ s.text)) (sym s.first_written)
          (Appends-trans old.first_written old.written new.written g.text s.text g.wrote s.wrote);
      comes = comes-turned g.begun post later (calls_at place w.events) on.turn (made_at place w.events) old.visit new.visit on.talked g.comes;
      kept = refl;
    } in
    record {
      events = events;
      lead = (post, w.lead, (refl, refl));
      of_sessions = (w.of_sessions, g.kept);
      goes = post-both first post later w.goes s.goes;
      ended = served-later first post later s.goes (sessions_of w.events) w.ended;
      each =
          open-behind first later place events slots (Some new) (open-turned first later w.events place (Some new) turn refl now)
          (λ other differs.
          open-beside first later w.events other (slots other) turn differs
          (open-later first post later (calls_at other w.events) (made_at other w.events) (left_at other w.events) (slots other) s.goes (w.each other)));
    }

-- the last turns of the session at a place, with which it ends
worked-last : (first post later : PostState ClockState) (slots : ℕ → Option SessionState) (place : ℕ) (old new : SessionState)
    → slots place ≡ Some old → ServesLast old post new later → HasWorked first post slots → HasWorked first later (put place None slots)
worked-last first post later slots place old new is s w =
    let g : OpenAt first post w.events place (Some old) = subst (λ (slot : Option SessionState). OpenAt first post w.events place slot) is (w.each place) in
    let on = s.stands g.begun g.bytes g.text g.stands in
    let turn : SessionTurn MachineGives clock_failures ClientSays = record { place = place; before = station_at post tt old.visit; calls = on.turn; after = station_at later tt new.visit; talked = on.talked } in
    let more = made_in MachineGives clock_failures ClientSays turn.before turn.calls turn.after turn.talked in
    let turned : List MachineEvent = inl turn ∷ w.events in
    let bytes = g.bytes ++ s.heard in
    let text = g.text ++ (s.said ++ s.unsaid) in
    let calls_are : on.stands.stood.session.calls ≡ calls_at place w.events ++ on.turn = on.calls_are ∙ ap (λ (l : List Call). l ++ on.turn) g.calls_are in
    let comes = comes-turned g.begun post later (calls_at place w.events) on.turn (made_at place w.events) old.visit new.visit on.talked g.comes in
    let session : MachineSession = session-at g.begun later bytes text new.visit on.stands (calls_at place w.events ++ on.turn) calls_are (made_at place w.events ++ more) comes in
    let made_are = made-at g.begun later bytes text new.visit on.stands (calls_at place w.events ++ on.turn) calls_are (made_at place w.events ++ more) comes in
    let event : MachineEvent = inr (record { place = place; session = session }) in
    let events : List MachineEvent = event ∷ turned in
    record {
      events = events;
      lead = (
        later,
        (post, w.lead, (refl, refl)),
        (refl, calls_are ∙ sym (if-at place place (calls_at place w.events ++ on.turn) (calls_at place w.events) refl)),
      );
      of_sessions = (
        (w.of_sessions, g.kept),
        (
          subst (λ (left : Option MachineStation). StandsFrom left session.after) (sym (if-at place place (Some turn.after) (left_at place w.events) refl)) refl,
          made_are (made_at place turned) (if-at place place (made_at place w.events ++ more) (made_at place w.events) refl),
        ),
      );
      goes = post-both first post later w.goes s.goes;
      ended = All-cons (IsServedBetween first later) session (sessions_of w.events) (g.begins, comes.goes) (served-later first post later s.goes (sessions_of w.events) w.ended);
      each =
          open-behind first later place events slots None (none-ended first later turned place session)
          (λ other differs.
          open-behind_end first later turned other (slots other) place session differs
          (open-beside first later w.events other (slots other) turn differs
          (open-later first post later (calls_at other w.events) (made_at other w.events) (left_at other w.events) (slots other) s.goes (w.each other))));
    }

-- the session at a place ends
worked-ended : (first post : PostState ClockState) (slots : ℕ → Option SessionState) (place : ℕ) (slot : Option SessionState) → slots place ≡ slot → HasWorked first post slots → HasWorked first post (put place None slots)
worked-ended first post slots place None is w =
    worked-same first post slots (put place None slots)
    (λ other. sym (put-is place None slots other (slots other) (λ same. ap slots same ∙ is) (λ differs. refl))) w
worked-ended first post slots place (Some found) is w =
    let g : OpenAt first post w.events place (Some found) = subst (λ (s : Option SessionState). OpenAt first post w.events place s) is (w.each place) in
    let session : MachineSession = session-at g.begun post g.bytes g.text found.visit g.stands (calls_at place w.events) g.calls_are (made_at place w.events) g.comes in
    let made_are = made-at g.begun post g.bytes g.text found.visit g.stands (calls_at place w.events) g.calls_are (made_at place w.events) g.comes in
    let event : MachineEvent = inr (record { place = place; session = session }) in
    let events : List MachineEvent = event ∷ w.events in
    record {
      events = events;
      lead = (post, w.lead, (refl, g.calls_are));
      of_sessions = (w.of_sessions, (from-later (left_at place w.events) (station_at post tt found.visit) g.comes.last g.kept, made_are (made_at place w.events) refl));
      goes = w.goes;
      ended = All-cons (IsServedBetween first post) session (sessions_of w.events) (g.begins, g.comes.goes) w.ended;
      each =
          open-behind first post place events slots None (none-ended first post w.events place session)
          (λ other differs. open-behind_end first post w.events other (slots other) place session differs (w.each other));
    }

-- each session ends, where none is open from a place on
worked-over : (first post : PostState ClockState) (count : ℕ) (slots : ℕ → Option SessionState) → ((place : ℕ) → count ≤ place → slots place ≡ None) → HasWorked first post slots → HasWorked first post (λ place. None)
worked-over first post zero slots none w = worked-same first post slots (λ place. None) (λ place. sym (none place (omega arith))) w
worked-over first post (suc n) slots none w =
    worked-over first post n (put n None slots)
    (λ place from. sym (put-is n None slots place None (λ same. refl) (λ differs. sym (none place (omega arith)))))
    (worked-ended first post slots n (slots n) refl w)

-- ---- the same over a slab
-- a worker that has served no session
pub nothing-yet : (first post : PostState ClockState) (sessions : Slab SessionState) → first ≡ post → sessions.slots ≡ [] → HasWorked first post (get sessions)
nothing-yet first post sessions is empty =
    subst (λ (p : PostState ClockState). HasWorked p post (get sessions)) (sym is)
    (worked-same post post (λ place. None) (get sessions) (λ place. ap (λ (l : List (Option SessionState)). get_or l place None) empty ∙ get_or_past [] place None (omega arith)) (worked-none post))

module _ (first post : PostState ClockState) where
  -- a session begins, or there is no memory for it
  pub session-begins : {E : Type 0} (old new : Slab SessionState) (session : SessionState) (answer : Result ℕ E) → IsNew session
      → IfOk answer (λ place. get old place ≡ None) → IfOk answer (λ place. Updates old new place (Some session)) → OnErr answer (new ≡ record old { capacity = new.capacity })
      → HasWorked first post (get old) → HasWorked first post (get new)
  session-begins old new session (Ok place) is vacant u stays w =
      worked-same first post (put place (Some session) (get old)) (get new)
      (λ other. put-is place (Some session) (get old) other (get new other) (λ same. ap (get new) same ∙ u.changed) (u.others other))
      (worked-begun first post (get old) place session is vacant w)
  session-begins old new session (Err failed) is vacant updates stays w =
      worked-same first post (get old) (get new) (λ place. ap (λ (s : Slab SessionState). get s place) stays) w

  pub session-ends : (old new : Slab SessionState) (place : ℕ) → Updates old new place None → HasWorked first post (get old) → HasWorked first post (get new)
  session-ends old new place u w =
      worked-same first post (put place None (get old)) (get new)
      (λ other. put-is place None (get old) other (get new other) (λ same. ap (get new) same ∙ u.changed) (u.others other))
      (worked-ended first post (get old) place (get old place) refl w)

  -- a write of a session that is open
  pub writes : (old : Slab SessionState) (place : ℕ) (session session' : SessionState) → Some session ≡ get old place → Updates old (with_value old place session') place (Some session')
  writes old place session session' is = Updates-with_value old place session' (subst (λ (s : Option SessionState). IsSome s) is refl)

  -- the session at a place was lent the post, and goes on
  pub served-at : (found : Option (PostState ClockState)) (later : PostState ClockState) (old : Slab SessionState) (place : ℕ) (session session' : SessionState) → Some post ≡ found → Some session ≡ get old place
      → Serves session post session' later → Served (get old place) (post_or first found) (get (with_value old place session') place) later
  served-at found later old place session session' is shows s =
      subst (λ (p : Option (PostState ClockState)). Served (get old place) (post_or first p) (get (with_value old place session') place) later) is
      (subst (λ (slot : Option SessionState). Served slot post (get (with_value old place session') place) later) shows
      (subst (λ (slot : Option SessionState). Served (Some session) post slot later) (sym (writes old place session session' shows).changed) s))

  -- the session at a place was lent the post for the last time
  pub last-at : (found : Option (PostState ClockState)) (later : PostState ClockState) (old : Slab SessionState) (place : ℕ) (session session' : SessionState) → Some post ≡ found → Some session ≡ get old place
      → ServesLast session post session' later → ServedLast (get old place) (post_or first found) later
  last-at found later old place session session' is shows s =
      subst (λ (p : Option (PostState ClockState)). ServedLast (get old place) (post_or first p) later) is
      (subst (λ (slot : Option SessionState). ServedLast slot post later) shows (session', s))

  -- a session that was lent the post, at its place
  pub session-serves : {E : Type 0} {A : Type 0} (later : PostState ClockState) (old : Slab SessionState) (place : ℕ) (session session' : SessionState) (answer : Result A E) (value : A) → answer ≡ Ok value → Some session ≡ get old place
      → OnOk answer (Serves session post session' later) → HasWorked first post (get old) → HasWorked first later (get (with_value old place session'))
  session-serves later old place session session' (Ok done) value is shows s w =
      let u = writes old place session session' shows in
      worked-same first later (put place (Some session') (get old)) (get (with_value old place session'))
      (λ other. put-is place (Some session') (get old) other (get (with_value old place session') other) (λ same. ap (get (with_value old place session')) same ∙ u.changed) (u.others other))
      (worked-turned first post later (get old) place session session' (sym shows) s w)
  session-serves later old place session session' (Err fault) value is shows s w = absurd (cc)

  -- a session that was lent the post for the last time, and that is gone then
  pub session-serves-last : {E : Type 0} {A : Type 0} (later : PostState ClockState) (old new : Slab SessionState) (place : ℕ) (session session' : SessionState) (answer : Result A E) (fault : E) → answer ≡ Err fault → Some session ≡ get old place
      → OnErr answer (ServesLast session post session' later) → Updates (with_value old place session') new place None → HasWorked first post (get old) → HasWorked first later (get new)
  session-serves-last later old new place session session' (Ok done) fault is shows s gone w = absurd (cc)
  session-serves-last later old new place session session' (Err failed) fault is shows s gone w =
      let u = writes old place session session' shows in
      worked-same first later (put place None (get old)) (get new)
      (λ other. put-is place None (get old) other (get new other) (λ same. ap (get new) same ∙ gone.changed) (λ differs. gone.others other differs ∙ u.others other differs))
      (worked-last first post later (get old) place session session' (sym shows) s w)

  -- each session that is still open ends
  pub all-end : (sessions : Slab SessionState) (watch : WatchState) (seat : SeatState) → watch ≡ post.watch → seat ≡ post.seat → HasWorked first post (get sessions) → WorkerServed first watch seat
  all-end sessions watch seat watch_is seat_is w =
      let over = worked-over first post (length sessions.slots) (get sessions) (λ place past. get_or_past sessions.slots place None past) w in
      record {
        last = post;
        sessions = sessions_of over.events;
        by_turns = record { events = over.events; lead = over.lead; of_sessions = over.of_sessions; sessions_are = refl; none_goes_on = λ place. (over.each place).0 };
        between = over.ended;
        goes = over.goes;
        watch_is = watch_is;
        seat_is = seat_is;
      }
