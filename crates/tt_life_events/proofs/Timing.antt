-- What is assumed of the sessions of a worker follows from what is assumed of its turns, since each session is its turns from state to state.
use Rattle.std.proofs.Common.{◌≡◌, ℕ, ◌≤◌, List, [], ◌∷◌, ◌++◌, map, nat_eq, if◌then◌else◌, Bool, true, false, Option, Contains, inl, inr, refl, sym, subst, arith}
use Rattle.tt_span.specs.Drift.{Moment}
use Rattle.tt_span.specs.Time.{max_time}
use Rattle.tt_session.specs.Conversation.{Conversation}
use Rattle.tt_session.specs.declared.calls.Call.{Call}
use Rattle.tt_stamp.proofs.Ids.{Contains-nil, Contains-cases}
use Rattle.tt_connections.specs.Sessions.{WorkerSession}
use Rattle.tt_connections.specs.Station.{StationState, Allows, new_station}
use Rattle.tt_connections.specs.Turns.{AllowsOn}
use Rattle.tt_connections.specs.declared.presence.Question.{Question}
use Rattle.tt_workers.specs.Happening.{AreOfSessions, MadeCall, WorkerEvent, made_at, made_in, made_on, sessions_of}
use Rattle.tt_consistency.specs.Assumed.{AllReadAt, IsServedIn, IsTimedIn, TimedLife, moments_in}
use Rattle.tt_consistency.specs.Lives.{Life, WorkerLife}
use Rattle.tt_consistency.specs.Reads.{IsReadAt}
use Rattle.tt_consistency.specs.Running.{Start}
use Rattle.tt_consistency.specs.Timed.{AreInOrder, CallTimes, given_of}
use Rattle.tt_consistency.specs.Timeline.{Timed}
use Rattle.tt_life_events.specs.Timing.{AllTimedIn, call_times, session_times}
use Rattle.tt_life_events.specs.Turns.{AllReadIn, AllTurnsOf, AreTimed, DoNotFall, TurnsOf, WorkTimes}

-- ---- true times that do not fall, from one to another
abbrev pub RiseTo : ℕ → List CallTimes → ℕ → Type 0
RiseTo from [] to = from ≤ to
RiseTo from (times ∷ later) to = (from ≤ times.came) × (times.came ≤ times.read) × (times.read ≤ times.answered) × RiseTo times.answered later to

rise-from : (from mid : ℕ) (times : List CallTimes) (to : ℕ) → from ≤ mid → RiseTo mid times to → RiseTo from times to
rise-from from mid [] to less rise = omega (arith, less, rise)
rise-from from mid (t ∷ times) to less rise = (omega (arith, less, rise.0), rise.1, rise.2, rise.3)

rise-by : (from : ℕ) (times : List CallTimes) (to top : ℕ) → to ≤ top → RiseTo from times to → RiseTo from times top
rise-by from [] to top by rise = omega (arith, by, rise)
rise-by from (t ∷ times) to top by rise = (rise.0, rise.1, rise.2, rise-by t.answered times to top by rise.3)

rise-both : (from : ℕ) (xs : List CallTimes) (mid : ℕ) (ys : List CallTimes) (to : ℕ) → RiseTo from xs mid → RiseTo mid ys to → RiseTo from (xs ++ ys) to
rise-both from [] mid ys to less rise = rise-from from mid ys to less rise
rise-both from (x ∷ xs) mid ys to first rise = (first.0, first.1, first.2, rise-both x.answered xs mid ys to first.3 rise)

pub rise-order : (from : ℕ) (times : List CallTimes) (to : ℕ) → RiseTo from times to → AreInOrder from times
rise-order from [] to rise = tt
rise-order from (t ∷ times) to rise = (rise.0, rise.1, rise.2, rise-order t.answered times to rise.3)

rise-turn : (from : ℕ) (times : List WorkTimes) (to : ℕ) → DoNotFall from times to → RiseTo from (map call_times times) to
rise-turn from [] to order = order
rise-turn from (t ∷ times) to order = (order.0, order.1, omega (arith, order.2, order.3), rise-turn t.answered times to order.4)

falls-to : (from : ℕ) (times : List WorkTimes) (to : ℕ) → DoNotFall from times to → from ≤ to
falls-to from [] to order = order
falls-to from (t ∷ times) to order = omega (arith, order.0, order.1, order.2, order.3, falls-to t.answered times to order.4)

-- ---- readings
module _ {C V : Type 0} (gives : C → Option ℕ → C → Type 0) (failed : C → ℕ) (says : V → Question → Bool → Type 0) (ppm : ℕ) (moments : List Moment) where
  abbrev Made : Type 0
  Made = MadeCall gives failed says

  -- each reading that these calls were given was taken at its time
  abbrev pub ReadOf : List Made → List CallTimes → Type 0
  ReadOf [] times = times ≡ []
  ReadOf (made ∷ more) [] = ⊥
  ReadOf (made ∷ more) (times ∷ later) =
      IsReadAt gives ppm moments made.after.post.watch made.before.post.clock made.after.post.clock (given_of gives failed says made.before made.call made.after made.allowed) times.read × ReadOf more later

  read-both : (xs ys : List Made) (ts us : List CallTimes) → ReadOf xs ts → ReadOf ys us → ReadOf (xs ++ ys) (ts ++ us)
  read-both [] ys ts us none more = subst (λ (l : List CallTimes). ReadOf ys (l ++ us)) (sym none) more
  read-both (x ∷ xs) ys [] us are more = absurd are
  read-both (x ∷ xs) ys (t ∷ ts) us are more = (are.0, read-both xs ys ts us are.1 more)

  read-in : (before : StationState C V) (calls : List Call) (after : StationState C V) (talked : Conversation (Allows gives failed says) before calls after) (times : List WorkTimes)
      → AllReadIn gives failed says ppm moments before calls after talked times → ReadOf (made_in gives failed says before calls after talked) (map call_times times)
  read-in before [] after talked [] read = refl
  read-in before [] after talked (t ∷ times) read = absurd read
  read-in before (call ∷ calls) after talked [] read = absurd read
  read-in before (call ∷ calls) after talked (t ∷ times) read = (read.0, read-in talked.0 calls after talked.2 times read.1)

  pub read-on : (before : StationState C V) (calls : List Call) (after : StationState C V) (talked : Conversation (AllowsOn gives failed says) before calls after) (times : List CallTimes)
      → ReadOf (made_on gives failed says before calls after talked) times → AllReadAt gives failed says ppm moments before calls after talked times
  read-on before [] after talked times read = read
  read-on before (call ∷ calls) after talked [] read = absurd read
  read-on before (call ∷ calls) after talked (t ∷ times) read = (read.0, read-on talked.0 calls after talked.2 times read.1)

  -- ---- the session at a place
  abbrev pub IsReadTo : List Made → List CallTimes → ℕ → Type 0
  IsReadTo made times to = ReadOf made times × RiseTo 0 times to

  at-turn : (here : Bool) (made more : List Made) (times own : List CallTimes) (begun to : ℕ) → begun ≤ to → IsReadTo made times begun → ReadOf more own → RiseTo begun own to
      → IsReadTo (if here then made ++ more else made) (if here then times ++ own else times) to
  at-turn true made more times own begun to by is read rise = (read-both made more times own is.0 read, rise-both 0 times begun own to is.1 rise)
  at-turn false made more times own begun to by is read rise = (is.0, rise-by 0 times begun to by is.1)

  at-end : (here : Bool) (made : List Made) (times : List CallTimes) (to : ℕ) → IsReadTo made times to → IsReadTo (if here then [] else made) (if here then [] else times) to
  at-end true made times to is = (refl, omega arith)
  at-end false made times to is = is

  module _ (waits : ℕ) (since : ℕ) where
    abbrev Events : Type 0
    Events = List (WorkerEvent gives failed says waits)

    pub at-place : (place : ℕ) (events : Events) (times : List (List WorkTimes)) (to : ℕ) → AreTimed gives failed says waits ppm moments since events times to
        → IsReadTo (made_at place events) (session_times place events times) to
    at-place place [] [] to timed = (refl, omega arith)
    at-place place [] (t ∷ times) to timed = absurd timed
    at-place place (inl turn ∷ events) [] to timed = absurd timed
    at-place place (inl turn ∷ events) (t ∷ times) to (begun, timed, order, read) =
        at-turn (nat_eq place turn.place) (made_at place events) (made_in gives failed says turn.before turn.calls turn.after turn.talked) (session_times place events times) (map call_times t) begun to
        (falls-to begun t to order) (at-place place events times begun timed) (read-in turn.before turn.calls turn.after turn.talked t read) (rise-turn begun t to order)
    at-place place (inr end ∷ events) times to timed = at-end (nat_eq place end.place) (made_at place events) (session_times place events times) to (at-place place events times to timed)

-- ---- all sessions of a worker
module _ {C V : Type 0} (gives : C → Option ℕ → C → Type 0) (failed : C → ℕ) (says : V → Question → Bool → Type 0) (waits : ℕ) (life : Life gives failed says waits) (start : Start) (timeline : List Timed) where
  abbrev LifeEvents : Type 0
  LifeEvents = List (WorkerEvent gives failed says waits)

  events-timed : (events : LifeEvents) (times : List (List WorkTimes)) (to : ℕ) → AreOfSessions events → AreTimed gives failed says waits life.config.drift (moments_in start timeline) start.at events times to
      → AllTimedIn life start timeline events times
  events-timed [] times to are timed = tt
  events-timed (inl turn ∷ events) [] to are timed = absurd timed
  events-timed (inl turn ∷ events) (t ∷ times) to are (begun, timed, order, read) = events-timed events times begun are.0 timed
  events-timed (inr end ∷ events) times to are timed =
      let moments : List Moment = moments_in start timeline in
      let session : WorkerSession gives failed says waits = end.session in
      let own : List CallTimes = session_times end.place events times in
      let (read, rise) = at-place gives failed says life.config.drift moments waits start.at end.place events times to timed in (
        record {
          in_order = rise-order 0 own to rise;
          read =
              read-on gives failed says life.config.drift moments (new_station session.before session.client) session.session.calls session.after session.session.talked own
              (subst (λ (made : List (MadeCall gives failed says)). ReadOf gives failed says life.config.drift moments made own) (sym are.1.1) read);
        },
        events-timed events times to are.0 timed,
      )

  pub turns-timed : (worker : WorkerLife gives failed says waits) (turns : TurnsOf gives failed says waits life start timeline worker) → AllTimedIn life start timeline turns.by_turns.events turns.times
  turns-timed worker turns = events-timed turns.by_turns.events turns.times max_time turns.by_turns.of_sessions turns.timed

  -- one of them
  session-timed : (events : LifeEvents) (times : List (List WorkTimes)) → AllTimedIn life start timeline events times → (session : WorkerSession gives failed says waits) → Contains (sessions_of events) session
      → (own : List CallTimes) × IsTimedIn life start timeline session own
  session-timed [] times timed session there = absurd (Contains-nil session there)
  session-timed (inl turn ∷ events) [] timed session there = absurd timed
  session-timed (inl turn ∷ events) (t ∷ times) timed session there = session-timed events times timed session there
  session-timed (inr end ∷ events) times timed session there =
      elim (Contains-cases end.session (sessions_of events) session there) [
        | inl same ↦ (session_times end.place events times, subst (λ (s : WorkerSession gives failed says waits). IsTimedIn life start timeline s (session_times end.place events times)) same timed.0)
        | inr among ↦ session-timed events times timed.1 session among
      ]

  worker-timed : (workers : List (WorkerLife gives failed says waits)) → AllTurnsOf gives failed says waits life start timeline workers → (worker : WorkerLife gives failed says waits) → Contains workers worker
      → (session : WorkerSession gives failed says waits) → Contains worker.sessions session → (own : List CallTimes) × IsTimedIn life start timeline session own
  worker-timed [] turns worker there session among = absurd (Contains-nil worker there)
  worker-timed (one ∷ workers) turns worker there session among =
      elim (Contains-cases one workers worker there) [
        | inl same ↦
            session-timed turns.0.by_turns.events turns.0.times (turns-timed one turns.0) session
            (subst (λ (l : List (WorkerSession gives failed says waits)). Contains l session) turns.0.by_turns.sessions_are (subst (λ (w : WorkerLife gives failed says waits). Contains w.sessions session) (sym same) among))
        | inr behind ↦ worker-timed workers turns.1 worker behind session among
      ]

-- each session of a worker of a life was served in it, with some true times
pub session-served : {C V : Type 0} (gives : C → Option ℕ → C → Type 0) (failed : C → ℕ) (says : V → Question → Bool → Type 0) (waits : ℕ) (lived : TimedLife gives failed says waits)
    → AllTurnsOf gives failed says waits lived.life lived.start lived.timeline lived.life.workers → (worker : WorkerLife gives failed says waits) → Contains lived.life.workers worker
    → (session : WorkerSession gives failed says waits) → Contains worker.sessions session → (own : List CallTimes) × IsServedIn lived session own
session-served gives failed says waits lived turns worker there session among =
    let (own, timed) = worker-timed gives failed says waits lived.life lived.start lived.timeline lived.life.workers turns worker there session among in
    (own, record { worker = worker; of_life = there; of_worker = among; timed = timed })
