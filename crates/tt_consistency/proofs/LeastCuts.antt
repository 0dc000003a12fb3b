-- Least cuts of lives, splits of what happened in them, and what broke in a cut.
use Rattle.std.proofs.Common.{◌≡◌, ℕ, ◌<◌, ◌≤◌, List, [], ◌∷◌, ◌++◌, length, leb, Bool, true, false, Option, inl, inr, refl, sym, ap, ◌∙◌, subst, arith, append_assoc, length-append}
use Rattle.std.specs.Prelude.{◌⊎◌, Contains}
use Rattle.std.proofs.lemmas.Bool.Decides.{leb_tells}
use Rattle.std.proofs.lemmas.List.{length-map}
use Rattle.std.proofs.lemmas.List.Elements.{All-contains}
use mathlib.Core.List.{IsPrefix}
use Rattle.tt_span.specs.Drift.{Moment, KeepsDrift}
use Rattle.tt_publish.specs.declared.readings.FusedSpan.{FusedSpan}
use Rattle.tt_publish.specs.Reading.{fused_span_of}
use Rattle.tt_session.specs.Conversation.{Conversation}
use Rattle.tt_session.specs.declared.calls.Call.{Call}
use Rattle.tt_connections.specs.Sessions.{WorkerSession, IsServedBetween}
use Rattle.tt_connections.specs.Station.{StationState, new_station}
use Rattle.tt_connections.specs.Turns.{AllowsOn}
use Rattle.tt_connections.specs.declared.presence.Question.{Question}
use Rattle.tt_connections.proofs.Turning.{prefix-both, calls-go_on}
use Rattle.tt_world.specs.Meeting.{HasUnmet}
use Rattle.tt_world.proofs.Histories.Meeting.{keeps_or_not, one_broken}
use Rattle.tt_consistency.specs.Assumed.{AllReadAt, IsAssumed, IsLived, IsServedIn, TimedLife, moments_in}
use Rattle.tt_consistency.specs.Calls.{RoundsCall, AreInTurn, calls_steps, kept_after}
use Rattle.tt_consistency.specs.Cuts.{AreLeast, Cut, HasBroken, IsBegunIn, IsLeastCut, IsReadIn, IsToldOf, life_by, published_in}
use Rattle.tt_consistency.specs.Faulty.{FewFaulty}
use Rattle.tt_consistency.specs.Lives.{IsLife, Life, WorkerLife, WorksIn, begun_in}
use Rattle.tt_consistency.specs.Running.{IsRunning, Machine, Start, begun_with, life_of_machine}
use Rattle.tt_consistency.specs.Steps.{Step}
use Rattle.tt_consistency.specs.Timed.{CallTimes, TimedSession, given_of}
use Rattle.tt_consistency.specs.Timeline.{AreOfTime, Does, Answers, Happening, IsTimeline, Timed, moments_told, step_of, steps_told}
use Rattle.tt_consistency.proofs.Cutting.{assumed-first, calls-grow, cut-meets, drift-first, few-first, in_turn-first, moments-append, of_time-first, prefix-length, read-cut, read-first, session-cut, steps-first}

-- ---- ends of lists
-- of two ends of one list the shorter one ends the longer one
ends : {A : Type 0} (more other later end : List A) → more ++ other ≡ later ++ end → length other ≤ length end → (between : List A) × (end ≡ between ++ other)
ends [] other [] end is less = ([], sym is)
ends [] other (x ∷ later) end is less = absurd (omega (arith, ap length is, length-append later end, less))
ends (x ∷ more) other [] end is less = (x ∷ more, sym is)
ends (x ∷ more) other (y ∷ later) end is less =
    let same : x ∷ (more ++ other) ≡ y ∷ (later ++ end) = is in
    let rest : more ++ other ≡ later ++ end = cc in
    ends more other later end rest less

-- ---- what happened splits where its steps do
abbrev Split : List Timed → List Step → Type 0
Split all early = (after timeline : List Timed) × (all ≡ after ++ timeline) × (steps_told timeline ≡ early)

behind : (timed : Timed) (all : List Timed) (early : List Step) → Split all early → Split (timed ∷ all) early
behind timed all early parts = (timed ∷ parts.0, parts.1, ap (λ (list : List Timed). timed ∷ list) parts.2, parts.3)

step-split : (timed : Timed) (all : List Timed) (happening : Happening) (step : Step) (later early : List Step) → ((more : List Step) → steps_told all ≡ more ++ early → Split all early)
    → step_of happening ++ steps_told all ≡ step ∷ (later ++ early) → Split (timed ∷ all) early
step-split timed all (Does own) step later early rest is =
    let same : own ∷ steps_told all ≡ step ∷ (later ++ early) = is in
    let others : steps_told all ≡ later ++ early = cc in
    behind timed all early (rest later others)
step-split timed all (Answers source nonce span) step later early rest is = behind timed all early (rest (step ∷ later) is)

steps-split : (all : List Timed) (early later : List Step) → steps_told all ≡ later ++ early → Split all early
steps-split all early [] is = ([], all, refl, is)
steps-split [] early (step ∷ later) is = let none : [] ≡ step ∷ (later ++ early) = is in absurd cc
steps-split (timed ∷ all) early (step ∷ later) is = step-split timed all timed.happening step later early (λ more same. steps-split all early more same) is

pub told-split : (later calls : List RoundsCall) (all : List Timed) → steps_told all ≡ calls_steps (later ++ calls) → (after timeline : List Timed) × (all ≡ after ++ timeline) × (steps_told timeline ≡ calls_steps calls)
told-split later calls all is = steps-split all (calls_steps calls) (calls_steps later) (is ∙ steps-first later calls)

-- ---- a machine that runs has run up to each of its calls
timeline-first : (begun shown : ℕ) (later timeline : List Timed) → IsTimeline begun shown (later ++ timeline) → IsTimeline begun shown timeline
timeline-first begun shown [] timeline is = is
timeline-first begun shown (timed ∷ later) timeline is = timeline-first begun shown later timeline is.3

pub machine-first : (machine : Machine) (later calls : List RoundsCall) → IsRunning machine → machine.calls ≡ later ++ calls
    → (after timeline : List Timed) × (machine.timeline ≡ after ++ timeline) × IsRunning (record machine { calls = calls; timeline = timeline })
machine-first machine later calls running are =
    let parts = told-split later calls machine.timeline (running.told ∙ ap calls_steps are) in
    let begin : List Moment = record { clock = machine.start.clock; time = machine.start.at } ∷ [] in (
      parts.0,
      parts.1,
      parts.2,
      record {
        configured = running.configured;
        lives = running.lives;
        at = running.at;
        clock = running.clock;
        in_turn = in_turn-first (begun_with machine) later calls (subst (AreInTurn (begun_with machine)) are running.in_turn);
        told = parts.3;
        of_time = of_time-first parts.0 parts.1 (subst AreOfTime parts.2 running.of_time);
        forward = timeline-first machine.start.at machine.start.clock parts.0 parts.1 (subst (IsTimeline machine.start.at machine.start.clock) parts.2 running.forward);
        nonces = omega (arith, running.nonces, ap (length {A = Timed}) parts.2, length-append parts.0 parts.1);
        drift = drift-first machine.config.drift (moments_told parts.0) (moments_told parts.1 ++ begin)
            (subst (KeepsDrift machine.config.drift) (moments-append parts.0 parts.1 begin) (subst (λ (timeline : List Timed). KeepsDrift machine.config.drift (moments_told timeline ++ begin)) parts.2 running.drift));
        few_faulty = few-first machine.config (life_of_machine machine) parts.0 parts.1 (subst (FewFaulty machine.config (life_of_machine machine)) parts.2 running.few_faulty);
      },
    )

module _ {C V : Type 0} (gives : C → Option ℕ → C → Type 0) (failed : C → ℕ) (says : V → Question → Bool → Type 0) (waits : ℕ) where
  -- ---- as few calls as published what was seen
  module _ (life : Life gives failed says waits) (is : IsLife life) (session : TimedSession gives failed says) where
    abbrev seen : ℕ
    seen = length session.after.post.watch.items

    abbrev made : List RoundsCall → ℕ
    made calls = length (kept_after (begun_in life) calls).published

    -- calls published no less than the first ones of them
    made-first : (more other calls : List RoundsCall) → AreInTurn (begun_in life) calls → calls ≡ more ++ other → made other ≤ made calls
    made-first more other calls turn are =
        subst (λ (list : List RoundsCall). made other ≤ made list) (sym are)
        (prefix-length (kept_after (begun_in life) other).published (kept_after (begun_in life) (more ++ other)).published
        (calls-grow (begun_in life) more other (subst (AreInTurn (begun_in life)) are turn)))

    -- first calls that published less than was seen have no first calls that published it
    fewer : (later calls more other : List RoundsCall) → life.calls ≡ later ++ calls → life.calls ≡ more ++ other → made calls < seen → seen ≤ made other → length calls < length other
    fewer later calls more other are other_are few enough = by_length (leb_tells (length other) (length calls))
      where
        by_length : ((leb (length other) (length calls) ≡ true) × (length other ≤ length calls)) ⊎ ((leb (length other) (length calls) ≡ false) × (length calls < length other)) → length calls < length other
        by_length (inl less) =
            let inner = ends more other later calls (sym other_are ∙ are) less.1 in
            let turn : AreInTurn (begun_in life) calls = in_turn-first (begun_in life) later calls (subst (AreInTurn (begun_in life)) are is.in_turn) in
            absurd (omega (arith, made-first inner.0 other calls turn inner.1, few, enough))
        by_length (inr more_of) = more_of.1

    abbrev Least : Type 0
    Least = (first : List RoundsCall) × AreLeast life session first

    -- the call is needed, or those before it published what was seen too
    least-by : (later : List RoundsCall) (call : RoundsCall) (calls : List RoundsCall) → life.calls ≡ later ++ call ∷ calls → seen ≤ made (call ∷ calls) → (life.calls ≡ (later ++ call ∷ []) ++ calls → seen ≤ made calls → Least)
        → ((leb seen (made calls) ≡ true) × (seen ≤ made calls)) ⊎ ((leb seen (made calls) ≡ false) × (made calls < seen)) → Least
    least-by later call calls are enough fewer_do (inl less) = fewer_do (are ∙ sym (append_assoc later (call ∷ []) calls)) less.1
    least-by later call calls are enough fewer_do (inr few) = (
      call ∷ calls,
      record {
        later = later;
        calls_are = are;
        enough = enough;
        least = λ more other other_are does.
            let inner : life.calls ≡ (later ++ call ∷ []) ++ calls = are ∙ sym (append_assoc later (call ∷ []) calls) in
            let fewer_calls : length calls < length other = fewer (later ++ call ∷ []) calls more other inner other_are few.1 does in
            omega (arith, fewer_calls);
      },
    )

    least-from : (later calls : List RoundsCall) → life.calls ≡ later ++ calls → seen ≤ made calls → Least
    least-from later [] are enough = ([], record { later = later; calls_are = are; enough = enough; least = λ more other other_are does. omega arith })
    least-from later (call ∷ calls) are enough =
        least-by later call calls are enough (λ inner less. least-from (later ++ call ∷ []) calls inner less) (leb_tells seen (made calls))

    -- all calls published what was seen
    all-seen : IsBegunIn life session → seen ≤ made life.calls
    all-seen begun =
        let works : WorksIn life begun.worker = All-contains (WorksIn life) life.workers begun.worker is.workers begun.of_life in
        let between : IsServedBetween begun.worker.post begun.worker.last begun.whole = All-contains (IsServedBetween begun.worker.post begun.worker.last) begun.worker.sessions begun.whole works.in_turn begun.of_worker in
        let of_life : IsPrefix session.after.post.watch.items life.published =
        prefix-both session.after.post.watch.items begun.whole.after.post.watch.items life.published
        (calls-go_on gives failed says begun.begins.later session.after begun.whole.after begun.begins.goes_on).watch.seen
        (prefix-both begun.whole.after.post.watch.items begun.worker.last.watch.items life.published between.1.watch.seen works.seen) in
        omega (arith, prefix-length session.after.post.watch.items life.published of_life, length-map life.published fused_span_of, ap (length {A = FusedSpan}) is.published)

    pub least-calls : IsBegunIn life session → Least
    least-calls begun = least-from [] life.calls refl (all-seen begun)

  -- ---- each place of a session has a least cut
  pub least-there : (life : Life gives failed says waits) (worker : WorkerLife gives failed says waits) (whole : WorkerSession gives failed says waits) (early later : List Call) (times : List CallTimes)
      → IsLife life → Contains life.workers worker → Contains worker.sessions whole → whole.session.calls ≡ early ++ later
      → (session : TimedSession gives failed says) × (calls : List RoundsCall) × (session.calls ≡ early) × (session.times ≡ times) × IsBegunIn life session × AreLeast life session calls
  least-there life worker whole early later times is of_life of_worker are =
      let first = session-cut gives failed says waits whole early later times are in
      let begun : IsBegunIn life first.0 = record { worker = worker; of_life = of_life; whole = whole; of_worker = of_worker; begins = first.3 } in
      let least = least-calls life is first.0 begun in
      (first.0, least.0, first.1, first.2, begun, least.1)

  -- what is assumed of readings over more moments is assumed over fewer
  module _ (ppm : ℕ) (later moments : List Moment) where
    reads-first : (calls : List Call) (before after : StationState C V) (talked : Conversation (AllowsOn gives failed says) before calls after) (times : List CallTimes)
        → AllReadAt gives failed says ppm (later ++ moments) before calls after talked times → AllReadAt gives failed says ppm moments before calls after talked times
    reads-first [] before after talked times read = read
    reads-first (call ∷ calls) before after talked [] read = absurd read
    reads-first (call ∷ calls) before after talked (t ∷ times) read = (
      read-first gives ppm later moments talked.0.post.watch talked.1.post.clock talked.0.post.clock (given_of gives failed says (record before { post = talked.1.post }) call talked.0 talked.1.allowed) t.read read.0,
      reads-first calls talked.0 after talked.2 times read.1,
    )

  read-earlier : (life : Life gives failed says waits) (start : Start) (later timeline : List Timed) (session : TimedSession gives failed says) → IsReadIn life start (later ++ timeline) session → IsReadIn life start timeline session
  read-earlier life start later timeline session read =
      let begin : List Moment = record { clock = start.clock; time = start.at } ∷ [] in
      let first : StationState C V = new_station session.post session.client in
      reads-first life.config.drift (moments_told later) (moments_told timeline ++ begin) session.calls first session.after session.talked session.times
      (subst (λ (moments : List Moment). AllReadAt gives failed says life.config.drift moments first session.calls session.after session.talked session.times) (moments-append later timeline begin) read)

  -- what is assumed of a whole life and of a whole session is assumed of a least cut too
  pub least-cut : (lived : TimedLife gives failed says waits) (whole : WorkerSession gives failed says waits) (early rest : List Call) (times more : List CallTimes)
      → IsLived lived → IsServedIn lived whole (times ++ more) → whole.session.calls ≡ early ++ rest → length early ≡ length times
      → (cut : Cut gives failed says waits) × (session : TimedSession gives failed says) × IsLeastCut lived early times cut session
  least-cut lived whole early rest times more is served are same =
      let read = read-cut gives failed says waits lived.life lived.start [] lived.timeline whole early rest times more served.timed are same in
      let session : TimedSession gives failed says = read.0 in
      let begun : IsBegunIn lived.life session = record { worker = served.worker; of_life = served.of_life; whole = whole; of_worker = served.of_worker; begins = read.3 } in
      let least = least-calls lived.life is.proved session begun in
      let parts = told-split least.1.later least.0 lived.timeline (is.assumed.told ∙ ap calls_steps least.1.calls_are) in
      let assumed : IsAssumed (record lived.life { calls = least.0 }) lived.start parts.1 =
      assumed-first gives failed says waits lived.life lived.start parts.0 parts.1 least.0 (subst (IsAssumed lived.life lived.start) parts.2 is.assumed) parts.3 in
      let cut : Cut gives failed says waits = record { life = lived.life; calls = least.0; start = lived.start; timeline = parts.1 } in (
        cut,
        session,
        record {
          life = refl;
          start = refl;
          later = parts.0;
          timeline = parts.2;
          calls_are = read.1;
          times_are = read.2;
          is_cut = record { proved = is.proved; later = least.1.later; calls_are = least.1.calls_are; assumed = assumed };
          inside = record {
            begun = begun;
            seen = least.1.enough;
            in_order = read.4;
            read = read-earlier lived.life lived.start parts.0 parts.1 session (subst (λ (timeline : List Timed). IsReadIn lived.life lived.start timeline session) parts.2 read.5);
          };
          least = least.1;
        },
      )

  -- ---- what broke in a cut
  pub cut-breaks : (cut : Cut gives failed says waits) (later : List RoundsCall) → IsLife cut.life → cut.life.calls ≡ later ++ cut.calls → IsToldOf (life_by cut) cut.start cut.timeline
      → HasUnmet cut.life.config.drift (published_in cut) → HasBroken cut
  cut-breaks cut later proved are told =
      one_broken cut.life.config.drift (published_in cut) (keeps_or_not cut.life.config.drift (moments_in cut.start cut.timeline))
      (λ drift few.
      cut-meets gives failed says waits cut (record {
        proved = proved;
        later = later;
        calls_are = are;
        assumed = record { lives = told.lives; at = told.at; clock = told.clock; told = told.told; of_time = told.of_time; times = told.times; begins = told.begins; readings = told.readings; nonces = told.nonces; drift = drift; few_faulty = few };
      }))
