-- Of the first turns of a worker no more is assumed than of all of them.
use Rattle.std.proofs.Common.{◌≡◌, ℕ, ◌≤◌, List, [], ◌∷◌, ◌++◌, Bool, Option, inl, inr, refl, subst, arith}
use Rattle.tt_span.specs.Drift.{Moment}
use Rattle.tt_span.specs.Time.{max_time}
use Rattle.tt_session.specs.Conversation.{Conversation}
use Rattle.tt_session.specs.declared.calls.Call.{Call}
use Rattle.tt_connections.specs.Station.{StationState, Allows}
use Rattle.tt_connections.specs.declared.presence.Question.{Question}
use Rattle.tt_workers.specs.Happening.{AreAllByTurns, LeadFrom, SessionTurn, WorkerEvent}
use Rattle.tt_consistency.specs.Assumed.{moments_in}
use Rattle.tt_consistency.specs.Lives.{Life, WorkerLife}
use Rattle.tt_consistency.specs.Running.{Start}
use Rattle.tt_consistency.specs.Timed.{given_of}
use Rattle.tt_consistency.specs.Timeline.{Timed, moments_told}
use Rattle.tt_consistency.proofs.Cutting.{moments-append, read-first}
use Rattle.tt_life_events.specs.Beginnings.{HasWorkTo, TurnBeginsAs}
use Rattle.tt_life_events.specs.Turns.{AllReadIn, AreTimed, DoNotFall, TurnsOf, WorkTimes}
use Rattle.tt_life_events.proofs.Begun.{lead-first}

-- ---- true times that do not fall

falls-to : (from : ℕ) (times : List WorkTimes) (to : ℕ) → DoNotFall from times to → from ≤ to
falls-to from [] to order = order
falls-to from (t ∷ times) to order = omega (arith, order.0, order.1, order.2, order.3, falls-to t.answered times to order.4)

falls-past : (from : ℕ) (times : List WorkTimes) (to top : ℕ) → to ≤ top → DoNotFall from times to → DoNotFall from times top
falls-past from [] to top by order = omega (arith, by, order)
falls-past from (t ∷ times) to top by order = (order.0, order.1, order.2, order.3, falls-past t.answered times to top by order.4)

module _ {C V : Type 0} (gives : C → Option ℕ → C → Type 0) (failed : C → ℕ) (says : V → Question → Bool → Type 0) (ppm : ℕ) (later moments : List Moment) where
  -- ---- a turn

  turn-read : (calls : List Call) (before after : StationState C V) (talked : Conversation (Allows gives failed says) before calls after) (times : List WorkTimes)
      → AllReadIn gives failed says ppm (later ++ moments) before calls after talked times → AllReadIn gives failed says ppm moments before calls after talked times
  turn-read [] before after talked [] read = tt
  turn-read [] before after talked (t ∷ times) read = absurd read
  turn-read (call ∷ calls) before after talked [] read = absurd read
  turn-read (call ∷ calls) before after talked (t ∷ times) read = (
    read-first gives ppm later moments talked.0.post.watch before.post.clock talked.0.post.clock (given_of gives failed says before call talked.0 talked.1) t.read read.0,
    turn-read calls talked.0 after talked.2 times read.1,
  )

  -- the first calls of a turn
  record FirstCalls (early rest : List Call) (before after : StationState C V) (from to : ℕ) : Type 0 where
    pub mid : StationState C V
    pub talked : Conversation (Allows gives failed says) before early mid
    pub goes_on : Conversation (Allows gives failed says) mid rest after
    pub times : List WorkTimes
    pub order : DoNotFall from times to
    pub read : AllReadIn gives failed says ppm moments before early mid talked times

  calls-first : (early rest : List Call) (before after : StationState C V) (talked : Conversation (Allows gives failed says) before (early ++ rest) after) (times : List WorkTimes) (from to : ℕ) → DoNotFall from times to
      → AllReadIn gives failed says ppm (later ++ moments) before (early ++ rest) after talked times → FirstCalls early rest before after from to
  calls-first [] rest before after talked times from to order read = record { mid = before; talked = refl; goes_on = talked; times = []; order = falls-to from times to order; read = tt }
  calls-first (call ∷ early) rest before after talked [] from to order read = absurd read
  calls-first (call ∷ early) rest before after talked (t ∷ times) from to order read =
      let first = calls-first early rest talked.0 after talked.2 times t.answered to order.4 read.1 in
      record {
        mid = first.mid;
        talked = (talked.0, talked.1, first.talked);
        goes_on = first.goes_on;
        times = t ∷ first.times;
        order = (order.0, order.1, order.2, order.3, first.order);
        read = (
          read-first gives ppm later moments talked.0.post.watch before.post.clock talked.0.post.clock (given_of gives failed says before call talked.0 talked.1) t.read read.0,
          first.read,
        );
      }

  -- ---- all turns

  module _ (waits : ℕ) (since : ℕ) where
    abbrev Events : Type 0
    Events = List (WorkerEvent gives failed says waits)

    events-read : (events : Events) (times : List (List WorkTimes)) (to : ℕ) → AreTimed gives failed says waits ppm (later ++ moments) since events times to → AreTimed gives failed says waits ppm moments since events times to
    events-read [] [] to timed = timed
    events-read [] (t ∷ times) to timed = absurd timed
    events-read (inl turn ∷ events) [] to timed = absurd timed
    events-read (inl turn ∷ events) (t ∷ times) to (begun, timed, order, read) = (begun, events-read events times begun timed, order, turn-read turn.calls turn.before turn.after turn.talked t read)
    events-read (inr end ∷ events) times to timed = events-read events times to timed

    events-first : (after events : Events) (times : List (List WorkTimes)) (to : ℕ) → AreTimed gives failed says waits ppm (later ++ moments) since (after ++ events) times to
        → (own : List (List WorkTimes)) × (by : ℕ) × (by ≤ to) × AreTimed gives failed says waits ppm (later ++ moments) since events own by
    events-first [] events times to timed = (times, to, omega arith, timed)
    events-first (inl turn ∷ after) events [] to timed = absurd timed
    events-first (inl turn ∷ after) events (t ∷ times) to (begun, timed, order, read) =
        let (own, by, less, own_timed) = events-first after events times begun timed in
        (own, by, omega (arith, less, falls-to begun t to order), own_timed)
    events-first (inr end ∷ after) events times to timed = events-first after events times to timed

    -- the first calls of a turn, and the events before it
    record FirstOf (whole : SessionTurn gives failed says) (earlier : Events) (early rest : List Call) (to : ℕ) : Type 0 where
      pub begun : ℕ
      pub times : List (List WorkTimes)
      pub timed : AreTimed gives failed says waits ppm moments since earlier times begun
      pub calls : FirstCalls early rest whole.before whole.after begun to

    turn-first : (whole : SessionTurn gives failed says) (earlier : Events) (early rest : List Call) → whole.calls ≡ early ++ rest → (times : List (List WorkTimes)) (by to : ℕ) → by ≤ to
        → AreTimed gives failed says waits ppm (later ++ moments) since (inl whole ∷ earlier) times by → FirstOf whole earlier early rest to
    turn-first whole earlier early rest are [] by to less timed = absurd timed
    turn-first whole earlier early rest are (t ∷ times) by to less (begun, timed, order, read) =
        let both : (talked : Conversation (Allows gives failed says) whole.before (early ++ rest) whole.after) × AllReadIn gives failed says ppm (later ++ moments) whole.before (early ++ rest) whole.after talked t =
        subst (λ (calls : List Call). (talked : Conversation (Allows gives failed says) whole.before calls whole.after) × AllReadIn gives failed says ppm (later ++ moments) whole.before calls whole.after talked t) are (whole.talked, read) in
        record {
          begun = begun;
          times = times;
          timed = events-read earlier times begun timed;
          calls = calls-first early rest whole.before whole.after both.0 t begun to (falls-past begun t by to less order) both.1;
        }

-- ---- a worker of a life

module _ {C V : Type 0} (gives : C → Option ℕ → C → Type 0) (failed : C → ℕ) (says : V → Question → Bool → Type 0) (waits : ℕ) (life : Life gives failed says waits) (start : Start) (later timeline : List Timed) where
  abbrev WorkerEvents : Type 0
  WorkerEvents = List (WorkerEvent gives failed says waits)

  abbrev First : SessionTurn gives failed says → WorkerEvents → List Call → List Call → Type 0
  First whole earlier early rest = FirstOf gives failed says life.config.drift (moments_told later) (moments_in start timeline) waits start.at whole earlier early rest max_time

  work-to : (worker : WorkerLife gives failed says waits) (by_turns : AreAllByTurns worker.post worker.sessions worker.last) (after earlier : WorkerEvents) (whole : SessionTurn gives failed says) (early rest : List Call)
      → by_turns.events ≡ after ++ inl whole ∷ earlier → whole.calls ≡ early ++ rest → First whole earlier early rest → HasWorkTo life start timeline worker earlier whole early
  work-to worker by_turns after earlier whole early rest are calls_are first =
      let (found, (before, led, (began, left)), goes) = lead-first gives failed says waits worker.post after (inl whole ∷ earlier) worker.last (subst (λ (l : WorkerEvents). LeadFrom worker.post l worker.last) are by_turns.lead) in
      let turn : SessionTurn gives failed says = record { place = whole.place; before = whole.before; calls = early; after = first.calls.mid; talked = first.calls.talked } in
      let begins : TurnBeginsAs turn whole = record { place = refl; before = refl; later = rest; calls_are = calls_are; goes_on = first.calls.goes_on } in
      record {
        work = record { post = worker.post; last = turn.after.post; events = inl turn ∷ earlier; times = first.calls.times ∷ first.times };
        of_worker = record {
          post = refl;
          by_turns = by_turns;
          first = inr (record { turn = turn; whole = whole; begins = begins; earlier = earlier; later = after; events_are = refl; all_are = are });
          lead = (before, led, (began, refl));
        };
        turn = turn;
        begins = begins;
        calls_are = refl;
        events_are = refl;
        timed = (first.begun, first.timed, first.calls.order, first.calls.read);
      }

  pub work-first : (worker : WorkerLife gives failed says waits) (turns : TurnsOf gives failed says waits life start (later ++ timeline) worker) (after earlier : WorkerEvents) (whole : SessionTurn gives failed says) (early rest : List Call)
      → turns.by_turns.events ≡ after ++ inl whole ∷ earlier → whole.calls ≡ early ++ rest → HasWorkTo life start timeline worker earlier whole early
  work-first worker turns after earlier whole early rest are calls_are =
      let begin : List Moment = record { clock = start.clock; time = start.at } ∷ [] in
      let told : List Moment = moments_told later in
      let moments : List Moment = moments_in start timeline in
      let over : AreTimed gives failed says waits life.config.drift (told ++ moments) start.at turns.by_turns.events turns.times max_time =
      subst (λ (ms : List Moment). AreTimed gives failed says waits life.config.drift ms start.at turns.by_turns.events turns.times max_time) (moments-append later timeline begin) turns.timed in
      let (own, by, less, timed) =
      events-first gives failed says life.config.drift told moments waits start.at after (inl whole ∷ earlier) turns.times max_time
      (subst (λ (l : WorkerEvents). AreTimed gives failed says waits life.config.drift (told ++ moments) start.at l turns.times max_time) are over) in
      work-to worker turns.by_turns after earlier whole early rest are calls_are (turn-first gives failed says life.config.drift told moments waits start.at whole earlier early rest calls_are own by max_time less timed)
