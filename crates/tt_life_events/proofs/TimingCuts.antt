-- What a worker had done by a cut is in it, session by session: each call that a session had made was made in one of its turns, from state to state.
use Rattle.std.proofs.Common.{◌≡◌, ℕ, ◌≤◌, List, [], ◌∷◌, ◌++◌, length, map, nat_eq, if◌then◌else◌, Bool, true, false, Option, Some, None, Contains, ◌⊎◌, inl, inr, refl, sym, ap, ◌∙◌, subst, append_assoc, append-nil, arith}
use Rattle.std.specs.Option.{option_or}
use Rattle.std.proofs.lemmas.Bool.{eqb-true}
use Rattle.std.proofs.lemmas.List.{map-append}
use Rattle.tt_span.specs.Time.{max_time}
use Rattle.tt_stamp.specs.declared.stampings.Stamping.{Stamping}
use Rattle.tt_stamp.proofs.Ids.{Contains-here, Contains-there}
use Rattle.tt_session.specs.Conversation.{Conversation}
use Rattle.tt_session.specs.declared.calls.Call.{Call}
use Rattle.tt_session.proofs.Talking.{Conversation-append}
use Rattle.tt_connections.specs.Sessions.{WorkerSession}
use Rattle.tt_connections.specs.Station.{PostState, StationState, Allows, new_station}
use Rattle.tt_connections.specs.Turns.{PostGoesOn, AllowsOn}
use Rattle.tt_connections.specs.declared.presence.Question.{Question}
use Rattle.tt_connections.proofs.Turning.{calls-go_on, talks-on}
use Rattle.tt_workers.specs.Happening.{AreOfSessions, IsOfSession, LeadFrom, MadeCall, SessionEnd, SessionTurn, StandsFrom, WorkerEvent, calls_at, left_at, made_at, made_in, made_on, sessions_of}
use Rattle.tt_workers.proofs.Making.{made-both, made-same, made-stays}
use Rattle.tt_consistency.specs.Assumed.{moments_in}
use Rattle.tt_consistency.specs.Cuts.{Cut, IsBegunIn, IsIn, published_in}
use Rattle.tt_consistency.specs.Lives.{WorkerLife}
use Rattle.tt_consistency.specs.Timed.{CallTimes, TimedSession, timed_of}
use Rattle.tt_consistency.proofs.Cutting.{prefix-length}
use Rattle.tt_life_events.specs.Beginnings.{AreFirstOf, IsWorkIn, TurnBeginsAs, WorkBy}
use Rattle.tt_life_events.specs.Timing.{AllEndedIn, AreSessionsIn, GoesOnIn, events_behind, next_ended, session_times}
use Rattle.tt_life_events.specs.Turns.{AreTimed, WorkTimes}
use Rattle.tt_life_events.proofs.Begun.{event-goes_on}
use Rattle.tt_life_events.proofs.Timing.{ReadOf, at-place, read-on, rise-order}

module _ {C V : Type 0} (gives : C → Option ℕ → C → Type 0) (failed : C → ℕ) (says : V → Question → Bool → Type 0) where
  abbrev Made : Type 0
  Made = MadeCall gives failed says

  abbrev In : StationState C V → List Call → StationState C V → Type 0
  In before calls after = Conversation (Allows gives failed says) before calls after

  abbrev On : StationState C V → List Call → StationState C V → Type 0
  On before calls after = Conversation (AllowsOn gives failed says) before calls after

  abbrev made-in : (before : StationState C V) (calls : List Call) (after : StationState C V) → In before calls after → List Made
  made-in = made_in gives failed says

  abbrev made-on : (before : StationState C V) (calls : List Call) (after : StationState C V) → On before calls after → List Made
  made-on = made_on gives failed says

  -- ---- the calls that were made
  abbrev calls-of : List Made → List Call
  calls-of made = map (λ (m : Made). m.call) made

  calls-in : (before : StationState C V) (calls : List Call) (after : StationState C V) (talked : In before calls after) → calls-of (made-in before calls after talked) ≡ calls
  calls-in before [] after talked = refl
  calls-in before (call ∷ calls) after talked = ap (λ (l : List Call). call ∷ l) (calls-in talked.0 calls after talked.2)

  calls-on : (before : StationState C V) (calls : List Call) (after : StationState C V) (talked : On before calls after) → calls-of (made-on before calls after talked) ≡ calls
  calls-on before [] after talked = refl
  calls-on before (call ∷ calls) after talked = ap (λ (l : List Call). call ∷ l) (calls-on talked.0 calls after talked.2)

  -- where a first call was made, one was made in all
  calls-more : (made more : List Made) (call : Call) (calls : List Call) → calls-of made ≡ call ∷ calls → calls-of (made ++ more) ≡ [] → ⊥
  calls-more [] more call calls is none = absurd cc
  calls-more (m ∷ made) more call calls is none = absurd cc

  -- ---- the state behind calls that were made from one
  abbrev after_of : List Made → StationState C V → StationState C V
  after_of [] state = state
  after_of (m ∷ made) state = after_of made m.after

  after-in : (before : StationState C V) (calls : List Call) (after : StationState C V) (talked : In before calls after) → after_of (made-in before calls after talked) before ≡ after
  after-in before [] after talked = sym talked
  after-in before (call ∷ calls) after talked = after-in talked.0 calls after talked.2

  after-on : (before : StationState C V) (calls : List Call) (after : StationState C V) (talked : On before calls after) → after_of (made-on before calls after talked) before ≡ after
  after-on before [] after talked = sym talked
  after-on before (call ∷ calls) after talked = after-on talked.0 calls after talked.2

  -- ---- what had been seen behind each of them
  abbrev AllSeen : ℕ → List Made → Type 0
  AllSeen n [] = Unit {0}
  AllSeen n (m ∷ made) = (length m.after.post.watch.items ≤ n) × AllSeen n made

  seen-by : (m n : ℕ) (made : List Made) → m ≤ n → AllSeen m made → AllSeen n made
  seen-by m n [] less seen = tt
  seen-by m n (x ∷ made) less seen = (omega (arith, less, seen.0), seen-by m n made less seen.1)

  seen-both : (n : ℕ) (xs ys : List Made) → AllSeen n xs → AllSeen n ys → AllSeen n (xs ++ ys)
  seen-both n [] ys first second = second
  seen-both n (x ∷ xs) ys first second = (first.0, seen-both n xs ys first.1 second)

  seen-after : (n : ℕ) (made : List Made) (state : StationState C V) → length state.post.watch.items ≤ n → AllSeen n made → length (after_of made state).post.watch.items ≤ n
  seen-after n [] state less seen = less
  seen-after n (m ∷ made) state less seen = seen-after n made m.after seen.0 seen.1

  seen-in : (before : StationState C V) (calls : List Call) (after : StationState C V) (talked : In before calls after) → AllSeen (length after.post.watch.items) (made-in before calls after talked)
  seen-in before [] after talked = tt
  seen-in before (call ∷ calls) after talked =
      let goes : PostGoesOn talked.0.post after.post = calls-go_on gives failed says calls talked.0 after (talks-on gives failed says calls talked.0 after talked.2) in
      (prefix-length talked.0.post.watch.items after.post.watch.items goes.watch.seen, seen-in talked.0 calls after talked.2)

  seen-on : (n : ℕ) (before : StationState C V) (calls : List Call) (after : StationState C V) (talked : On before calls after) → AllSeen n (made-on before calls after talked)
      → (call : Call) (more : List Call) → calls ≡ call ∷ more → length after.post.watch.items ≤ n
  seen-on n before [] after talked seen call more is = absurd cc
  seen-on n before (first ∷ calls) after talked seen call more is =
      subst (λ (s : StationState C V). length s.post.watch.items ≤ n) (after-on talked.0 calls after talked.2) (seen-after n (made-on talked.0 calls after talked.2) talked.0 seen.0 seen.1)

  -- ---- a conversation is two
  abbrev first_or : Made → List Made → Made
  first_or m [] = m
  first_or m (x ∷ xs) = x

  abbrev rest_of : List Made → List Made
  rest_of [] = []
  rest_of (x ∷ xs) = xs

  record Split (before : StationState C V) (calls : List Call) (after : StationState C V) (front more : List Made) : Type 0 where
    pub mid : StationState C V
    pub early : List Call
    pub rest : List Call
    pub calls_are : calls ≡ early ++ rest
    pub one : On before early mid
    pub two : On mid rest after
    pub one_is : made-on before early mid one ≡ front
    pub two_is : made-on mid rest after two ≡ more

  split : (front more : List Made) (before : StationState C V) (calls : List Call) (after : StationState C V) (talked : On before calls after) → made-on before calls after talked ≡ front ++ more
      → Split before calls after front more
  split [] more before calls after talked is = record { mid = before; early = []; rest = calls; calls_are = refl; one = refl; two = talked; one_is = refl; two_is = is }
  split (m ∷ front) more before [] after talked is = absurd cc
  split (m ∷ front) more before (call ∷ calls) after talked is =
      let s : Split talked.0 calls after front more = split front more talked.0 calls after talked.2 (ap rest_of is) in
      let first : Made = record { before = record before { post = talked.1.post }; call = call; after = talked.0; allowed = talked.1.allowed } in
      record {
        mid = s.mid;
        early = call ∷ s.early;
        rest = s.rest;
        calls_are = ap (λ (l : List Call). call ∷ l) s.calls_are;
        one = (talked.0, talked.1, s.one);
        two = s.two;
        one_is = ap (λ (l : List Made). first ∷ l) s.one_is ∙ ap (λ (x : Made). x ∷ front) (ap (first_or first) is);
        two_is = s.two_is;
      }

  -- ---- the first calls of a turn instead of all of them
  record Instead (before : StationState C V) (calls : List Call) (after : StationState C V) (made : List Made) : Type 0 where
    pub mid : StationState C V
    pub early : List Call
    pub rest : List Call
    pub calls_are : calls ≡ early ++ rest
    pub one : On before early mid
    pub two : On mid rest after
    pub one_is : made-on before early mid one ≡ made

  -- from the state in which the session was left
  instead : (begun left end : StationState C V) (own later : List Call) (turn : In begun own left) (whole : In begun (own ++ later) end) → In left later end
      → (before : StationState C V) (calls : List Call) (after : StationState C V) (talked : On before calls after) → made-on before calls after talked ≡ made-in begun (own ++ later) end whole
      → Instead before calls after (made-in begun own left turn)
  instead begun left end [] later turn whole goes_on before calls after talked is = record { mid = before; early = []; rest = calls; calls_are = refl; one = refl; two = talked; one_is = refl }
  instead begun left end (c ∷ own) later turn whole goes_on before [] after talked is = absurd cc
  instead begun left end (c ∷ own) later turn whole goes_on before (call ∷ calls) after talked is =
      let first : Made = record { before = record before { post = talked.1.post }; call = call; after = talked.0; allowed = talked.1.allowed } in
      let began : record before { post = talked.1.post } ≡ begun = ap (λ (l : List Made). (first_or first l).before) is in
      let post : talked.1.post ≡ begun.post = ap (λ (s : StationState C V). s.post) began in
      let there : StationState C V = record before { post = begun.post } in
      let is_there : begun ≡ there = sym began ∙ ap (λ (p : PostState C). record before { post = p }) post in
      let allowed : Allows gives failed says there c turn.0 = subst (λ (s : StationState C V). Allows gives failed says s c turn.0) is_there turn.1 in
      let mine : Made = record { before = there; call = c; after = turn.0; allowed = allowed } in
      let is_end : after ≡ end = sym (after-on before (call ∷ calls) after talked) ∙ ap (λ (m : List Made). after_of m before) is ∙ after-in begun (c ∷ own ++ later) end whole in
      record {
        mid = left;
        early = c ∷ own;
        rest = later;
        calls_are = sym (calls-on before (call ∷ calls) after talked) ∙ ap calls-of is ∙ calls-in begun (c ∷ own ++ later) end whole;
        one = (turn.0, record { post = begun.post; goes = subst (PostGoesOn before.post) post talked.1.goes; allowed = allowed }, talks-on gives failed says own turn.0 left turn.2);
        two = subst (On left later) (sym is_end) (talks-on gives failed says later left end goes_on);
        one_is =
            ap (λ (l : List Made). mine ∷ l) (made-stays gives failed says own turn.0 left turn.2)
            ∙ ap (λ (m : Made). m ∷ made-in turn.0 own left turn.2) (made-same gives failed says begun there is_there c turn.0 turn.1);
      }

  -- ---- events
  module _ (waits : ℕ) where
    abbrev Events : Type 0
    Events = List (WorkerEvent gives failed says waits)

    abbrev Ended : Type 0
    Ended = WorkerSession gives failed says waits

    abbrev made-of : Ended → List Made
    made-of session = made-on (new_station session.before session.client) session.session.calls session.after session.session.talked

    -- the calls at a place are those that were made there
    calls-turn : (here : Bool) (made more : List Made) (calls own : List Call) → calls-of made ≡ calls → calls-of more ≡ own → calls-of (if here then made ++ more else made) ≡ (if here then calls ++ own else calls)
    calls-turn true made more calls own first second =
        map-append (λ (m : Made). m.call) made more ∙ ap (λ (l : List Call). l ++ calls-of more) first ∙ ap (λ (l : List Call). calls ++ l) second
    calls-turn false made more calls own first second = first

    calls-end : (here : Bool) (made : List Made) (calls : List Call) → calls-of made ≡ calls → calls-of (if here then [] else made) ≡ (if here then [] else calls)
    calls-end true made calls is = refl
    calls-end false made calls is = is

    calls-made : (place : ℕ) (events : Events) → calls-of (made_at place events) ≡ calls_at place events
    calls-made place [] = refl
    calls-made place (inl turn ∷ events) =
        calls-turn (nat_eq place turn.place) (made_at place events) (made-in turn.before turn.calls turn.after turn.talked) (calls_at place events) turn.calls (calls-made place events)
        (calls-in turn.before turn.calls turn.after turn.talked)
    calls-made place (inr end ∷ events) = calls-end (nat_eq place end.place) (made_at place events) (calls_at place events) (calls-made place events)

    -- what the calls at a place had seen
    seen-turn : (here : Bool) (n : ℕ) (made more : List Made) → AllSeen n made → AllSeen n more → AllSeen n (if here then made ++ more else made)
    seen-turn true n made more first second = seen-both n made more first second
    seen-turn false n made more first second = first

    seen-end : (here : Bool) (n : ℕ) (made : List Made) → AllSeen n made → AllSeen n (if here then [] else made)
    seen-end true n made seen = tt
    seen-end false n made seen = seen

    seen-before : (first last : PostState C) (events : Events) (event : WorkerEvent gives failed says waits) (n : ℕ) → length last.watch.items ≤ n → LeadFrom first (event ∷ events) last
        → (mid : PostState C) × LeadFrom first events mid × (length mid.watch.items ≤ n)
    seen-before first last events event n less (mid, lead, leads) =
        (mid, lead, omega (arith, less, prefix-length mid.watch.items last.watch.items (event-goes_on gives failed says waits events mid event last leads).watch.seen))

    seen-at : (place n : ℕ) (first last : PostState C) (events : Events) → length last.watch.items ≤ n → LeadFrom first events last → AllSeen n (made_at place events)
    seen-at place n first last [] less lead = tt
    seen-at place n first last (inl turn ∷ events) less lead =
        let (mid, led, by) = seen-before first last events (inl turn) n less lead in
        seen-turn (nat_eq place turn.place) n (made_at place events) (made-in turn.before turn.calls turn.after turn.talked) (seen-at place n first mid events by led)
        (seen-by (length turn.after.post.watch.items) n (made-in turn.before turn.calls turn.after turn.talked) (subst (λ (p : PostState C). length p.watch.items ≤ n) (sym lead.2.1) less)
        (seen-in turn.before turn.calls turn.after turn.talked))
    seen-at place n first last (inr end ∷ events) less lead =
        let (mid, led, by) = seen-before first last events (inr end) n less lead in
        seen-end (nat_eq place end.place) n (made_at place events) (seen-at place n first mid events by led)

    -- ---- the session that ends next at a place
    record Next (place : ℕ) (made : List Made) (later : Events) (sessions : List Ended) : Type 0 where
      pub whole : Ended
      pub next : next_ended place later ≡ Some whole
      pub among : Contains sessions whole
      pub more : List Made
      pub made_are : made-of whole ≡ made ++ more

    -- or none ends there
    record Open (place : ℕ) (made : List Made) (later events : Events) : Type 0 where
      pub none : next_ended place later ≡ None
      pub more : List Made
      pub made_are : made_at place (later ++ events) ≡ made ++ more

    more-turn : (here : Bool) (all made more own : List Made) → all ≡ made ++ more → (if here then all ++ own else all) ≡ made ++ (if here then more ++ own else more)
    more-turn true all made more own is = ap (λ (l : List Made). l ++ own) is ∙ append_assoc made more own
    more-turn false all made more own is = is

    ends-at : (here : Bool) (place : ℕ) (end : SessionEnd gives failed says waits) (made : List Made) (later events : Events) (sessions : List Ended) → nat_eq place end.place ≡ here
        → IsOfSession (later ++ events) (inr end) → Open place made later events → Next place made (inr end ∷ later) (end.session ∷ sessions) ⊎ Open place made (inr end ∷ later) events
    ends-at true place end made later events sessions is of still =
        inl (
        record {
          whole = end.session;
          next =
              ap (λ (o : Option Ended). option_or o (if nat_eq place end.place then Some end.session else None)) still.none
              ∙ ap (λ (here : Bool). if here then Some end.session else None) is;
          among = Contains-here end.session sessions;
          more = still.more;
          made_are = of.1 ∙ ap (λ (p : ℕ). made_at p (later ++ events)) (sym (eqb-true place end.place is)) ∙ still.made_are;
        }
        )
    ends-at false place end made later events sessions is of still =
        inr (
        record {
          none =
              ap (λ (o : Option Ended). option_or o (if nat_eq place end.place then Some end.session else None)) still.none
              ∙ ap (λ (here : Bool). if here then Some end.session else None) is;
          more = still.more;
          made_are = ap (λ (here : Bool). if here then [] else made_at place (later ++ events)) is ∙ still.made_are;
        }
        )

    next-behind : (place : ℕ) (end : SessionEnd gives failed says waits) (made : List Made) (later : Events) (sessions : List Ended) → Next place made later sessions
        → Next place made (inr end ∷ later) (end.session ∷ sessions)
    next-behind place end made later sessions n = record {
      whole = n.whole;
      next = ap (λ (o : Option Ended). option_or o (if nat_eq place end.place then Some end.session else None)) n.next;
      among = Contains-there end.session sessions n.whole n.among;
      more = n.more;
      made_are = n.made_are;
    }

    find : (place : ℕ) (later events : Events) → AreOfSessions (later ++ events)
        → Next place (made_at place events) later (sessions_of (later ++ events)) ⊎ Open place (made_at place events) later events
    find place [] events of = inr (record { none = refl; more = []; made_are = sym (append-nil (made_at place events)) })
    find place (inl turn ∷ later) events of =
        elim (find place later events of.0) [
          | inl n ↦ inl (record { whole = n.whole; next = n.next; among = n.among; more = n.more; made_are = n.made_are })
          | inr still ↦
              let own : List Made = made-in turn.before turn.calls turn.after turn.talked in
              inr (
              record {
                none = still.none;
                more = if nat_eq place turn.place then still.more ++ own else still.more;
                made_are = more-turn (nat_eq place turn.place) (made_at place (later ++ events)) (made_at place events) still.more own still.made_are;
              }
              )
        ]
    find place (inr end ∷ later) events of =
        elim (find place later events of.0) [
          | inl n ↦ inl (next-behind place end (made_at place events) later (sessions_of (later ++ events)) n)
          | inr still ↦ ends-at (nat_eq place end.place) place end (made_at place events) later events (sessions_of (later ++ events)) refl of.1 still
        ]

    -- where no session goes on in the end, one ends
    found : (place : ℕ) (later events : Events) → AreOfSessions (later ++ events) → calls_at place (later ++ events) ≡ [] → (call : Call) (calls : List Call) → calls_at place events ≡ call ∷ calls
        → Next place (made_at place events) later (sessions_of (later ++ events))
    found place later events of none call calls is =
        elim (find place later events of) [
          | inl n ↦ n
          | inr still ↦
              absurd (
              calls-more (made_at place events) still.more call calls (calls-made place events ∙ is)
              (ap calls-of (sym still.made_are) ∙ calls-made place (later ++ events) ∙ none)
              )
        ]

    -- ---- the first calls of a session
    record Front (session : Ended) (made : List Made) : Type 0 where
      pub after : StationState C V
      pub calls : List Call
      pub rest : List Call
      pub talked : On (new_station session.before session.client) calls after
      pub goes_on : On after rest session.after
      pub calls_are : session.session.calls ≡ calls ++ rest
      pub made_are : made-on (new_station session.before session.client) calls after talked ≡ made

    front-whole : (session : Ended) (made more : List Made) → made-of session ≡ made ++ more → Front session made
    front-whole session made more is =
        let s = split made more (new_station session.before session.client) session.session.calls session.after session.session.talked is in
        record { after = s.mid; calls = s.early; rest = s.rest; talked = s.one; goes_on = s.two; calls_are = s.calls_are; made_are = s.one_is }

    -- one behind the other
    calls-apart : (all early own rest calls more whole : List Call) → all ≡ early ++ calls → calls ≡ whole ++ more → whole ≡ own ++ rest → all ≡ (early ++ own) ++ (rest ++ more)
    calls-apart all early own rest calls more whole first second third =
        first ∙ ap (λ (l : List Call). early ++ l) (second ∙ ap (λ (l : List Call). l ++ more) third ∙ append_assoc own rest more) ∙ sym (append_assoc early own (rest ++ more))

    made-apart : (both early own made turn : List Made) → both ≡ early ++ own → early ≡ made → own ≡ turn → both ≡ made ++ turn
    made-apart both early own made turn are first second = are ∙ ap (λ (l : List Made). l ++ own) first ∙ ap (λ (l : List Made). made ++ l) second

    front-joined : (session : Ended) (made turn whole more others : List Made) (s : Split (new_station session.before session.client) session.session.calls session.after made others)
        (t : Split s.mid s.rest session.after whole more) → Instead s.mid t.early t.mid turn → Front session (made ++ turn)
    front-joined session made turn whole more others s t i =
        let begun : StationState C V = new_station session.before session.client in
        let (both, are) = made-both gives failed says begun s.mid i.mid s.early i.early s.one i.one in
        record {
          after = i.mid;
          calls = s.early ++ i.early;
          rest = i.rest ++ t.rest;
          talked = both;
          goes_on = Conversation-append (AllowsOn gives failed says) i.mid t.mid session.after i.rest t.rest i.two t.two;
          calls_are = calls-apart session.session.calls s.early i.early i.rest s.rest t.rest t.early s.calls_are t.calls_are i.calls_are;
          made_are = made-apart (made-on begun (s.early ++ i.early) i.mid both) (made-on begun s.early s.mid s.one) (made-on s.mid i.early i.mid i.one) made turn are s.one_is i.one_is;
        }

    -- up to a turn that had not made all of its calls
    front-instead : (session : Ended) (made turn whole more : List Made)
        → ((before : StationState C V) (calls : List Call) (after : StationState C V) (talked : On before calls after) → made-on before calls after talked ≡ whole → Instead before calls after turn)
        → made-of session ≡ (made ++ whole) ++ more → Front session (made ++ turn)
    front-instead session made turn whole more puts is =
        let s = split made (whole ++ more) (new_station session.before session.client) session.session.calls session.after session.session.talked (is ∙ append_assoc made whole more) in
        let t = split whole more s.mid s.rest session.after s.two s.two_is in
        front-joined session made turn whole more (whole ++ more) s t (puts s.mid t.early t.mid t.one t.one_is)

    front-turn : (here : Bool) (session : Ended) (made turn whole more : List Made)
        → ((before : StationState C V) (calls : List Call) (after : StationState C V) (talked : On before calls after) → made-on before calls after talked ≡ whole → Instead before calls after turn)
        → made-of session ≡ (if here then made ++ whole else made) ++ more → Front session (if here then made ++ turn else made)
    front-turn true session made turn whole more puts is = front-instead session made turn whole more puts is
    front-turn false session made turn whole more puts is = front-whole session made more is

    begun-instead : (turn whole : SessionTurn gives failed says) → TurnBeginsAs turn whole
        → (before : StationState C V) (calls : List Call) (after : StationState C V) (talked : On before calls after) → made-on before calls after talked ≡ made-in whole.before whole.calls whole.after whole.talked
        → Instead before calls after (made-in turn.before turn.calls turn.after turn.talked)
    begun-instead turn whole b before calls after talked is =
        let all : List Made = made-on before calls after talked in
        let at_turn : (own : In turn.before whole.calls whole.after) × (all ≡ made-in turn.before whole.calls whole.after own) =
        subst (λ (s : StationState C V). (own : In s whole.calls whole.after) × (all ≡ made-in s whole.calls whole.after own)) (sym b.before) (whole.talked, is) in
        let with_calls : (own : In turn.before (turn.calls ++ b.later) whole.after) × (all ≡ made-in turn.before (turn.calls ++ b.later) whole.after own) =
        subst (λ (l : List Call). (own : In turn.before l whole.after) × (all ≡ made-in turn.before l whole.after own)) b.calls_are at_turn in
        instead turn.before turn.after whole.after turn.calls b.later turn.talked with_calls.0 b.goes_on before calls after talked with_calls.1

    front-begun : (place : ℕ) (turn whole : SessionTurn gives failed says) (earlier : Events) (session : Ended) (more : List Made) → TurnBeginsAs turn whole → made-of session ≡ made_at place (inl whole ∷ earlier) ++ more
        → Front session (made_at place (inl turn ∷ earlier))
    front-begun place turn whole earlier session more b is =
        let made : List Made = made_at place earlier in
        let own : List Made = made-in turn.before turn.calls turn.after turn.talked in
        subst (λ (p : ℕ). Front session (if nat_eq place p then made ++ own else made)) (sym b.place)
        (front-turn (nat_eq place whole.place) session made own (made-in whole.before whole.calls whole.after whole.talked) more (begun-instead turn whole b) is)

    -- where it had made a call, so had the whole turn
    calls-whole : (here : Bool) (calls own rest all : List Call) → all ≡ own ++ rest → (call : Call) (more : List Call) → (if here then calls ++ own else calls) ≡ call ∷ more
        → (others : List Call) × ((if here then calls ++ all else calls) ≡ call ∷ others)
    calls-whole true calls own rest all are call more is = (more ++ rest, ap (λ (l : List Call). calls ++ l) are ∙ sym (append_assoc calls own rest) ∙ ap (λ (l : List Call). l ++ rest) is)
    calls-whole false calls own rest all are call more is = (more, is)

    calls-begun : (place : ℕ) (turn whole : SessionTurn gives failed says) (earlier : Events) → TurnBeginsAs turn whole → (call : Call) (more : List Call) → calls_at place (inl turn ∷ earlier) ≡ call ∷ more
        → (others : List Call) × (calls_at place (inl whole ∷ earlier) ≡ call ∷ others)
    calls-begun place turn whole earlier b call more is =
        calls-whole (nat_eq place whole.place) (calls_at place earlier) turn.calls b.later whole.calls b.calls_are call more
        (subst (λ (p : ℕ). (if nat_eq place p then calls_at place earlier ++ turn.calls else calls_at place earlier) ≡ call ∷ more) b.place is)

    -- ---- the first events of all
    of-later : (later events : Events) → AreOfSessions (later ++ events) → AreOfSessions events
    of-later [] events of = of
    of-later (event ∷ later) events of = of-later later events of.0

    among-later : (later events : Events) (session : Ended) → Contains (sessions_of events) session → Contains (sessions_of (later ++ events)) session
    among-later [] events session among = among
    among-later (inl turn ∷ later) events session among = among-later later events session among
    among-later (inr end ∷ later) events session among = Contains-there end.session (sessions_of (later ++ events)) session (among-later later events session among)

    first-of : (events all : Events) → AreFirstOf events all → AreOfSessions all → AreOfSessions events
    first-of events all (inl (later, are)) of = of-later later events (subst AreOfSessions are of)
    first-of events all (inr ends) of =
        let whole_of : AreOfSessions (inl ends.whole ∷ ends.earlier) = of-later ends.later (inl ends.whole ∷ ends.earlier) (subst AreOfSessions ends.all_are of) in
        let stands : StandsFrom (left_at ends.turn.place ends.earlier) ends.turn.before =
        subst (StandsFrom (left_at ends.turn.place ends.earlier)) (sym ends.begins.before) (subst (λ (p : ℕ). StandsFrom (left_at p ends.earlier) ends.whole.before) (sym ends.begins.place) whole_of.1) in
        let turn_of : AreOfSessions (inl ends.turn ∷ ends.earlier) = (whole_of.0, stands) in
        subst AreOfSessions (sym ends.events_are) turn_of

    first-among : (events all : Events) → AreFirstOf events all → (session : Ended) → Contains (sessions_of events) session → Contains (sessions_of all) session
    first-among events all (inl (later, are)) session among = subst (λ (l : Events). Contains (sessions_of l) session) (sym are) (among-later later events session among)
    first-among events all (inr ends) session among =
        let own : Contains (sessions_of (inl ends.turn ∷ ends.earlier)) session = subst (λ (l : Events). Contains (sessions_of l) session) ends.events_are among in
        subst (λ (l : Events). Contains (sessions_of l) session) (sym ends.all_are) (among-later ends.later (inl ends.whole ∷ ends.earlier) session own)

    -- what the session that goes on at a place had done
    record Begun (place : ℕ) (later events : Events) (sessions : List Ended) : Type 0 where
      pub whole : Ended
      pub next : next_ended place later ≡ Some whole
      pub among : Contains sessions whole
      pub front : Front whole (made_at place events)

    begun-at : (place : ℕ) (events all : Events) (first : AreFirstOf events all) → AreOfSessions all → calls_at place all ≡ [] → (call : Call) (calls : List Call) → calls_at place events ≡ call ∷ calls
        → Begun place (events_behind events all first) events (sessions_of all)
    begun-at place events all (inl (later, are)) of none call calls is =
        let n = found place later events (subst AreOfSessions are of) (subst (λ (l : Events). calls_at place l ≡ []) are none) call calls is in
        record {
          whole = n.whole;
          next = n.next;
          among = subst (λ (l : Events). Contains (sessions_of l) n.whole) (sym are) n.among;
          front = front-whole n.whole (made_at place events) n.more n.made_are;
        }
    begun-at place events all (inr ends) of none call calls is =
        let wholes : Events = inl ends.whole ∷ ends.earlier in
        let (others, more) = calls-begun place ends.turn ends.whole ends.earlier ends.begins call calls (subst (λ (l : Events). calls_at place l ≡ call ∷ calls) ends.events_are is) in
        let n = found place ends.later wholes (subst AreOfSessions ends.all_are of) (subst (λ (l : Events). calls_at place l ≡ []) ends.all_are none) call others more in
        record {
          whole = n.whole;
          next = n.next;
          among = subst (λ (l : Events). Contains (sessions_of l) n.whole) (sym ends.all_are) n.among;
          front = subst (λ (l : Events). Front n.whole (made_at place l)) (sym ends.events_are) (front-begun place ends.turn ends.whole ends.earlier n.whole n.more ends.begins n.made_are);
        }

    -- ---- in a cut
    module _ (cut : Cut gives failed says waits) where
      abbrev Timed : Events → List (List WorkTimes) → ℕ → Type 0
      Timed events times to = AreTimed gives failed says waits cut.life.config.drift (moments_in cut.start cut.timeline) cut.start.at events times to

      abbrev at : (client : V) (post : PostState C) (calls : List Call) (after : StationState C V) → On (new_station post client) calls after → List CallTimes → TimedSession gives failed says
      at client post calls after talked times = record { client = client; post = post; after = after; calls = calls; talked = talked; times = times }

      in-cut : (client : V) (post : PostState C) (calls : List Call) (after : StationState C V) (talked : On (new_station post client) calls after) (place : ℕ) (events : Events) (times : List (List WorkTimes)) (to : ℕ)
          → IsBegunIn cut.life (at client post calls after talked (session_times place events times)) → Timed events times to → made-on (new_station post client) calls after talked ≡ made_at place events
          → AllSeen (length (published_in cut)) (made_at place events) → (call : Call) (more : List Call) → calls ≡ call ∷ more → IsIn cut (at client post calls after talked (session_times place events times))
      in-cut client post calls after talked place events times to begun timed is seen call more first =
          let own : List CallTimes = session_times place events times in
          let (read, rise) = at-place gives failed says cut.life.config.drift (moments_in cut.start cut.timeline) waits cut.start.at place events times to timed in
          record {
            begun = begun;
            seen = seen-on (length (published_in cut)) (new_station post client) calls after talked (subst (AllSeen (length (published_in cut))) (sym is) seen) call more first;
            in_order = rise-order 0 own to rise;
            read =
                read-on gives failed says cut.life.config.drift (moments_in cut.start cut.timeline) (new_station post client) calls after talked own
                (subst (λ (made : List Made). ReadOf gives failed says cut.life.config.drift (moments_in cut.start cut.timeline) made own) (sym is) read);
          }

      module _ (worker : WorkerLife gives failed says waits) (of_life : Contains cut.life.workers worker) where
        ended-in : (first last : PostState C) (events : Events) (times : List (List WorkTimes)) (to : ℕ) → length last.watch.items ≤ length (published_in cut) → LeadFrom first events last → AreOfSessions events → Timed events times to
            → ((session : Ended) → Contains (sessions_of events) session → Contains worker.sessions session) → AllEndedIn cut events times
        ended-in first last [] times to less lead of timed among = tt
        ended-in first last (inl turn ∷ events) [] to less lead of timed among = absurd timed
        ended-in first last (inl turn ∷ events) (t ∷ times) to less lead of (begun, timed, order, read) among =
            let (mid, led, by) = seen-before first last events (inl turn) (length (published_in cut)) less lead in
            ended-in first mid events times begun by led of.0 timed among
        ended-in first last (inr end ∷ events) times to less lead of timed among =
            let (mid, led, by) = seen-before first last events (inr end) (length (published_in cut)) less lead in
            let session : Ended = end.session in
            let begun : IsBegunIn cut.life (timed_of session (session_times end.place events times)) = record {
              worker = worker;
              of_life = of_life;
              whole = session;
              of_worker = among session (Contains-here session (sessions_of events));
              begins = record { client = refl; post = refl; later = []; calls_are = sym (append-nil session.session.calls); goes_on = refl };
            } in (
              λ call more is.
                  in-cut session.client session.before session.session.calls session.after session.session.talked end.place events times to begun timed of.1.1
                  (seen-at end.place (length (published_in cut)) first mid events by led) call more is,
              ended-in first mid events times to by led of.0 timed (λ s there. among s (Contains-there session (sessions_of events) s there)),
            )

        going-on : (place : ℕ) (later events : Events) (times : List (List WorkTimes)) (to : ℕ) → Timed events times to → AllSeen (length (published_in cut)) (made_at place events)
            → (call : Call) (calls : List Call) → calls_at place events ≡ call ∷ calls → Begun place later events worker.sessions → GoesOnIn cut place later events times
        unfolding in-cut
        going-on place later events times to timed seen call calls is b =
            let whole : Ended = b.whole in
            let f = b.front in
            let own : List CallTimes = session_times place events times in
            let begun : IsBegunIn cut.life (at whole.client whole.before f.calls f.after f.talked own) = record {
              worker = worker;
              of_life = of_life;
              whole = whole;
              of_worker = b.among;
              begins = record { client = refl; post = refl; later = f.rest; calls_are = f.calls_are; goes_on = f.goes_on };
            } in
            let first : f.calls ≡ call ∷ calls = sym (calls-on (new_station whole.before whole.client) f.calls f.after f.talked) ∙ ap calls-of f.made_are ∙ calls-made place events ∙ is in
            record {
              session = at whole.client whole.before f.calls f.after f.talked own;
              made_are = f.made_are;
              times_are = refl;
              inside = in-cut whole.client whole.before f.calls f.after f.talked place events times to begun timed f.made_are seen call calls first;
              next = b.next;
            }

-- what a worker of a life had done by a cut is in it, session by session
pub cut-sessions : {C V : Type 0} (gives : C → Option ℕ → C → Type 0) (failed : C → ℕ) (says : V → Question → Bool → Type 0) (waits : ℕ) (cut : Cut gives failed says waits) (history : List Stamping) (number : ℕ)
    (worker : WorkerLife gives failed says waits) (work : WorkBy gives failed says waits) → Contains cut.life.workers worker → (is : IsWorkIn cut history number worker work)
    → AreSessionsIn cut (events_behind work.events is.of_worker.by_turns.events is.of_worker.first) work
cut-sessions gives failed says waits cut history number worker work of_life is =
    let turns = is.of_worker.by_turns in
    let first = is.of_worker.first in
    let sessions_are = turns.sessions_are in
    record {
      ended =
          ended-in gives failed says waits cut worker of_life work.post work.last work.events work.times max_time is.seen is.of_worker.lead (first-of gives failed says waits work.events turns.events first turns.of_sessions)
          is.timed
          (λ session among.
          subst (λ (l : List (WorkerSession gives failed says waits)). Contains l session) (sym sessions_are) (first-among gives failed says waits work.events turns.events first session among));
      going_on =
          λ place call calls begun.
          going-on gives failed says waits cut worker of_life place (events_behind work.events turns.events first) work.events work.times max_time is.timed
          (seen-at gives failed says waits place (length (published_in cut)) work.post work.last work.events is.seen is.of_worker.lead) call calls begun
          (subst (Begun gives failed says waits place (events_behind work.events turns.events first) work.events) (sym sessions_are)
          (begun-at gives failed says waits place work.events turns.events first turns.of_sessions (turns.none_goes_on place) call calls begun));
    }
