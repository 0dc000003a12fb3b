-- Cuts of lives: each is a machine that runs, and its sessions are served on it.
use Rattle.std.proofs.Common.{◌≡◌, ℕ, ◌≤◌, List, [], ◌∷◌, ◌++◌, length, map, Bool, Option, Some, Result, Ok, Err, inr, refl, sym, ap, ◌∙◌, subst, arith, ⊎_elim, append_assoc, append-nil, All}
use Rattle.std.specs.List.{AllByRecursion}
use Rattle.std.proofs.lemmas.List.{length-append, length-map}
use Rattle.std.proofs.lemmas.List.Elements.{All-contains}
use mathlib.Core.List.{IsPrefix}
use Rattle.tt_span.specs.Drift.{Moment, AgreesWith, KeepsDrift}
use Rattle.tt_span.specs.Interval.{Interval, Holds}
use Rattle.tt_source.specs.Table.{TableState, poll_of, take_of}
use Rattle.tt_source.specs.declared.faults.SourceFault.{SourceFault}
use Rattle.tt_daemon.specs.Config.{Configuration}
use Rattle.tt_daemon.specs.declared.faults.DaemonFault.{DaemonFault}
use Rattle.tt_judge.specs.Consistency.{IsConsistent}
use Rattle.tt_judge.specs.declared.history.Commit.{Commit}
use Rattle.tt_publish.specs.Known.{WatchState}
use Rattle.tt_publish.specs.Reading.{fused_span_of}
use Rattle.tt_publish.specs.declared.readings.FusedSpan.{FusedSpan}
use Rattle.tt_rounds.specs.Fusing.{Fusion, fusion_at}
use Rattle.tt_session.specs.Conversation.{Conversation}
use Rattle.tt_session.specs.declared.calls.Call.{Call}
use Rattle.tt_connections.specs.Sessions.{WorkerSession, IsServedBetween}
use Rattle.tt_connections.specs.Station.{PostState, StationState, new_station}
use Rattle.tt_connections.specs.Turns.{AllowsOn}
use Rattle.tt_connections.specs.declared.presence.Question.{Question}
use Rattle.tt_connections.proofs.Turning.{prefix-same, prefix-both, calls-go_on}
use Rattle.tt_world.specs.Life.{Life as WorldLife}
use Rattle.tt_world.specs.Meeting.{AllMeet}
use Rattle.tt_consistency.specs.Assumed.{AllReadAt, IsAssumed, IsLived, IsServedIn, IsTimedIn, TimedLife, moments_in}
use Rattle.tt_consistency.specs.Calls.{RoundsCall, AreInTurn, RiseIn, calls_steps, kept_after}
use Rattle.tt_consistency.specs.CourseSteps.{rounds_steps}
use Rattle.tt_consistency.specs.Cuts.{BeginsAs, Cut, IsBegunIn, IsCut, IsIn, IsReadIn, IsSeenBeside, IsSeenInCut, machine_by, published_in, whole_of}
use Rattle.tt_consistency.specs.Faulty.{FewFaulty}
use Rattle.tt_consistency.specs.Lives.{IsLife, Life, WorksIn, begun_in}
use Rattle.tt_consistency.specs.Order.{BeginsAt, IsWithin}
use Rattle.tt_consistency.specs.Reads.{IsReadAt, IsTakenAt}
use Rattle.tt_consistency.specs.Rising.{BeginFrom, IsInTime, StepsRise, TimesRise}
use Rattle.tt_consistency.specs.Running.{IsRunning, Start, published_by}
use Rattle.tt_consistency.specs.Served.{IsServedOn}
use Rattle.tt_consistency.specs.Stampers.{IsRightStamper, Stamper}
use Rattle.tt_consistency.specs.Steps.{Kept, Step, Polls, Takes, Fuses, after_step, after_steps, new_kept, with_fusion, with_table}
use Rattle.tt_consistency.specs.Timed.{AreInOrder, CallTimes, IsTimed, TimedSession, given_of, timed_of}
use Rattle.tt_consistency.specs.Timeline.{Does, AreOfTime, HeldTrueTime, IsAmong, Timed, moment_of, moments_told, step_of, steps_told}
use Rattle.tt_consistency.proofs.BesideSessions.{stamper-within}
use Rattle.tt_consistency.proofs.Calling.{calls-made}
use Rattle.tt_consistency.proofs.Holding.{publications-hold, publications-meet}
use Rattle.tt_consistency.proofs.Judging.{within-consistent}
use Rattle.tt_consistency.proofs.Leasing.{session-machine, session-outside}
use Rattle.tt_consistency.proofs.Living.{prefix-map, calls-look}
use Rattle.tt_consistency.proofs.LivingRounds.{after_steps-append}
use Rattle.tt_consistency.proofs.Rising.{calls-rise, timeline-rises}
use Rattle.tt_consistency.proofs.Serving.{served-timed}
use Rattle.tt_consistency.proofs.Walking.{session-within}

-- ---- lists
-- of two beginnings of one list the shorter one begins the other
pub shorter : {A : Type 0} (xs ys zs : List A) → IsPrefix xs zs → IsPrefix ys zs → length xs ≤ length ys → IsPrefix xs ys
shorter [] ys zs p q less = (ys, refl)
shorter (x ∷ xs) [] zs p q less = absurd (omega (arith, less))
shorter (x ∷ xs) (y ∷ ys) [] p q less = let none : x ∷ (xs ++ p.0) ≡ [] = p.1 in absurd cc
shorter {A = A} (x ∷ xs) (y ∷ ys) (z ∷ zs) p q less =
    let one : x ∷ (xs ++ p.0) ≡ z ∷ zs = p.1 in
    let other : y ∷ (ys ++ q.0) ≡ z ∷ zs = q.1 in
    let first : x ≡ y = cc in
    let rest_of_one : xs ++ p.0 ≡ zs = cc in
    let rest_of_other : ys ++ q.0 ≡ zs = cc in
    let rest : IsPrefix xs ys = shorter xs ys zs (p.0, rest_of_one) (q.0, rest_of_other) (omega (arith, less)) in
    (rest.0, ap (λ (a : A). a ∷ (xs ++ rest.0)) first ∙ ap (λ (list : List A). y ∷ list) rest.1)

pub prefix-length : {A : Type 0} (xs ys : List A) → IsPrefix xs ys → length xs ≤ length ys
prefix-length [] ys p = omega arith
prefix-length (x ∷ xs) [] p = let none : x ∷ (xs ++ p.0) ≡ [] = p.1 in absurd cc
prefix-length (x ∷ xs) (y ∷ ys) p =
    let same : x ∷ (xs ++ p.0) ≡ y ∷ ys = p.1 in
    let rest : xs ++ p.0 ≡ ys = cc in
    let less = prefix-length xs ys (p.0, rest) in
    omega (arith, less)

all-of_end : {X : Type 0} (P : X → Type 0) (xs ys : List X) → AllByRecursion P (xs ++ ys) → AllByRecursion P ys
all-of_end P [] ys all = all
all-of_end P (x ∷ xs) ys all = all-of_end P xs ys all.1

-- ---- publications only grow
table-grows : (kept : Kept) (made : Result TableState SourceFault) → IsPrefix kept.published (with_table kept made).published
table-grows kept (Ok table) = prefix-same kept.published kept.published refl
table-grows kept (Err fault) = prefix-same kept.published kept.published refl

fusion-grows : (kept : Kept) (made : Result Fusion DaemonFault) → IsPrefix kept.published (with_fusion kept made).published
fusion-grows kept (Ok fusion) = (record { clock = fusion.clock; span = fusion.span } ∷ [], refl)
fusion-grows kept (Err fault) = prefix-same kept.published kept.published refl

step-grows : (kept : Kept) (step : Step) → IsPrefix kept.published (after_step kept step).published
step-grows kept (Polls source clock) = table-grows kept (poll_of kept.daemon.table source clock)
step-grows kept (Takes source bytes clock) = table-grows kept (take_of kept.daemon.table source clock bytes)
step-grows kept (Fuses clock) = fusion-grows kept (fusion_at kept.daemon clock)

steps-grow : (kept : Kept) (steps : List Step) → IsPrefix kept.published (after_steps kept steps).published
steps-grow kept [] = prefix-same kept.published kept.published refl
steps-grow kept (step ∷ steps) =
    prefix-both kept.published (after_steps kept steps).published (after_step (after_steps kept steps) step).published (steps-grow kept steps) (step-grows (after_steps kept steps) step)

-- ---- the first ones of a daemon's calls
pub in_turn-first : (begun : Kept) (later early : List RoundsCall) → AreInTurn begun (later ++ early) → AreInTurn begun early
in_turn-first begun [] early turn = turn
in_turn-first begun (call ∷ later) early turn = in_turn-first begun later early turn.2

rise-first : (from to : ℕ) (later early : List RoundsCall) → RiseIn from (later ++ early) to → (shown : ℕ) × RiseIn from early shown
rise-first from to [] early rise = (to, rise)
rise-first from to (call ∷ later) early (before, after, earlier, rises, last) = rise-first from before later early earlier

pub steps-first : (later early : List RoundsCall) → calls_steps (later ++ early) ≡ calls_steps later ++ calls_steps early
steps-first [] early = refl
steps-first (call ∷ later) early =
    let steps : List Step = rounds_steps call.rounds call.turns (call.from []) call.given in
    ap (λ (more : List Step). steps ++ more) (steps-first later early) ∙ sym (append_assoc steps (calls_steps later) (calls_steps early))

pub calls-grow : (begun : Kept) (later early : List RoundsCall) → AreInTurn begun (later ++ early) → IsPrefix (kept_after begun early).published (kept_after begun (later ++ early)).published
calls-grow begun later early turn =
    let mid : Kept = after_steps begun (calls_steps early) in
    let first : kept_after begun early ≡ mid = calls-made begun early (in_turn-first begun later early turn) in
    let all : kept_after begun (later ++ early) ≡ after_steps mid (calls_steps later) =
    calls-made begun (later ++ early) turn ∙ ap (after_steps begun) (steps-first later early) ∙ after_steps-append begun (calls_steps later) (calls_steps early) in
    subst (λ (kept : Kept). IsPrefix kept.published (kept_after begun (later ++ early)).published) (sym first)
    (subst (λ (kept : Kept). IsPrefix mid.published kept.published) (sym all) (steps-grow mid (calls_steps later)))

-- ---- no more is assumed of a cut than of its life
told-append : (later timeline : List Timed) → steps_told (later ++ timeline) ≡ steps_told later ++ steps_told timeline
told-append [] timeline = refl
told-append (timed ∷ later) timeline =
    let own : List Step = step_of timed.happening in
    ap (λ (more : List Step). own ++ more) (told-append later timeline) ∙ sym (append_assoc own (steps_told later) (steps_told timeline))

pub moments-append : (later timeline : List Timed) (last : List Moment) → moments_told (later ++ timeline) ++ last ≡ moments_told later ++ (moments_told timeline ++ last)
moments-append [] timeline last = refl
moments-append (timed ∷ later) timeline last =
    let own : List Moment = moment_of timed.at timed.happening in
    append_assoc own (moments_told (later ++ timeline)) last
    ∙ ap (λ (more : List Moment). own ++ more) (moments-append later timeline last)
    ∙ sym (append_assoc own (moments_told later) (moments_told timeline ++ last))

pub of_time-first : (later timeline : List Timed) → AreOfTime (later ++ timeline) → AreOfTime timeline
of_time-first [] timeline are = are
of_time-first (timed ∷ later) timeline are = of_time-first later timeline are.1

times-first : (begun : ℕ) (later timeline : List Timed) → TimesRise begun (later ++ timeline) → TimesRise begun timeline
times-first begun [] timeline rise = rise
times-first begun (timed ∷ later) timeline rise = times-first begun later timeline rise.2

begin-before : (shown : ℕ) (step : Step) (steps : List Step) → BeginFrom shown (step ∷ steps) → BeginFrom shown steps
begin-before shown step [] begin = tt
begin-before shown step (other ∷ steps) begin = begin

begin-first : (shown : ℕ) (later steps : List Step) → BeginFrom shown (later ++ steps) → BeginFrom shown steps
begin-first shown [] steps begin = begin
begin-first shown (step ∷ later) steps begin = begin-first shown later steps (begin-before shown step (later ++ steps) begin)

pub drift-first : (ppm : ℕ) (later moments : List Moment) → KeepsDrift ppm (later ++ moments) → KeepsDrift ppm moments
drift-first ppm [] moments keeps = keeps
drift-first ppm (moment ∷ later) moments keeps = drift-first ppm later moments keeps.1

pub few-first : (config : Configuration) (life : WorldLife) (later timeline : List Timed) → FewFaulty config life (later ++ timeline) → FewFaulty config life timeline
few-first config life later timeline few more before at clock are =
    let fusion : Timed = record { at = at; happening = Does (Fuses clock) } in
    few (later ++ more) before at clock (ap (λ (list : List Timed). later ++ list) are ∙ sym (append_assoc later more (fusion ∷ before)))

-- ---- no more is assumed of a reading over fewer moments, nor of the first times of calls
module _ {C : Type 0} (gives : C → Option ℕ → C → Type 0) (ppm : ℕ) (later moments : List Moment) where
  among-later : (more : List Moment) (moment : Moment) → IsAmong moment moments → IsAmong moment (more ++ moments)
  among-later [] moment is = is
  among-later (other ∷ more) moment is = inr (among-later more moment is)

  taken-first : (watch : WatchState) (before after : C) (reading : Interval) (time : ℕ) → IsTakenAt gives ppm (later ++ moments) watch before after reading time → IsTakenAt gives ppm moments watch before after reading time
  taken-first watch before after reading time taken = record {
    last = taken.last;
    clock = taken.clock;
    last_is = taken.last_is;
    gave = taken.gave;
    can = taken.can;
    reading_is = taken.reading_is;
    drift = (all-of_end (AgreesWith ppm (record { clock = taken.clock; time = time })) later moments taken.drift.0, drift-first ppm later moments taken.drift.1);
    in_time = taken.in_time;
    no_earlier = λ made is. taken.no_earlier made (among-later later (record { clock = (fused_span_of taken.last).clock; time = made }) is);
  }

  pub read-first : {Fault : Type 0} (watch : WatchState) (before after : C) (given : Result Interval Fault) (time : ℕ) → IsReadAt gives ppm (later ++ moments) watch before after given time → IsReadAt gives ppm moments watch before after given time
  read-first watch before after (Ok reading) time read = taken-first watch before after reading time read
  read-first watch before after (Err fault) time read = tt

pub order-first : (from : ℕ) (times more : List CallTimes) → AreInOrder from (times ++ more) → AreInOrder from times
order-first from [] more order = tt
order-first from (t ∷ times) more order = (order.0, order.1, order.2, order-first t.answered times more order.3)

module _ {C V : Type 0} (gives : C → Option ℕ → C → Type 0) (failed : C → ℕ) (says : V → Question → Bool → Type 0) (waits : ℕ) where
  pub assumed-first : (life : Life gives failed says waits) (start : Start) (later timeline : List Timed) (calls : List RoundsCall) → IsAssumed life start (later ++ timeline) → steps_told timeline ≡ calls_steps calls → IsAssumed (record life { calls = calls }) start timeline
  assumed-first life start later timeline calls assumed told =
      let begin : List Moment = record { clock = start.clock; time = start.at } ∷ [] in
      record {
        lives = assumed.lives;
        at = assumed.at;
        clock = assumed.clock;
        told = told;
        of_time = of_time-first later timeline assumed.of_time;
        times = times-first start.at later timeline assumed.times;
        begins = begin-first start.clock (steps_told later) (steps_told timeline) (subst (BeginFrom start.clock) (told-append later timeline) assumed.begins);
        readings = all-of_end IsInTime (steps_told later) (steps_told timeline) (subst (AllByRecursion IsInTime) (told-append later timeline) assumed.readings);
        nonces = omega (arith, assumed.nonces, length-append later timeline);
        drift = drift-first life.config.drift (moments_told later) (moments_told timeline ++ begin) (subst (KeepsDrift life.config.drift) (moments-append later timeline begin) assumed.drift);
        few_faulty = few-first life.config (record { machine = life.number; number = life.epoch }) later timeline assumed.few_faulty;
      }

  -- ---- a cut is a machine that runs
  module _ (cut : Cut gives failed says waits) (is : IsCut cut) where
    all_in_turn : AreInTurn (begun_in cut.life) (is.later ++ cut.calls)
    all_in_turn = subst (AreInTurn (begun_in cut.life)) is.calls_are is.proved.in_turn

    in_turn : AreInTurn (begun_in cut.life) cut.calls
    in_turn = in_turn-first (begun_in cut.life) is.later cut.calls all_in_turn

    pub cut-runs : IsRunning (machine_by cut)
    cut-runs =
        let rising = rise-first 0 is.proved.rising.0 is.later cut.calls (subst (λ (calls : List RoundsCall). RiseIn 0 calls is.proved.rising.0) is.calls_are is.proved.rising.1) in
        let steps : StepsRise 0 (steps_told cut.timeline) rising.0 = subst (λ (steps : List Step). StepsRise 0 steps rising.0) (sym is.assumed.told) (calls-rise 0 rising.0 cut.calls rising.1) in
        record {
          configured = is.proved.configured;
          lives = omega (arith, is.assumed.lives, is.proved.last);
          at = is.assumed.at;
          clock = is.assumed.clock;
          in_turn = subst (λ (epoch : ℕ). AreInTurn (new_kept cut.life.config cut.life.number epoch) cut.calls) (sym is.assumed.lives) in_turn;
          told = is.assumed.told;
          of_time = is.assumed.of_time;
          forward = timeline-rises cut.start.at cut.start.clock 0 cut.timeline rising.0 is.assumed.times steps is.assumed.begins is.assumed.readings;
          nonces = is.assumed.nonces;
          drift = is.assumed.drift;
          few_faulty = subst (λ (epoch : ℕ). FewFaulty cut.life.config (record { machine = cut.life.number; number = epoch }) cut.timeline) (sym is.assumed.lives) is.assumed.few_faulty;
        }

    published-is : published_in cut ≡ published_by (machine_by cut)
    published-is = ap (λ (epoch : ℕ). (kept_after (new_kept cut.life.config cut.life.number epoch) cut.calls).published) (sym is.assumed.lives)

    pub cut-holds : AllByRecursion (HeldTrueTime (moments_in cut.start cut.timeline)) (published_in cut)
    cut-holds = subst (AllByRecursion (HeldTrueTime (moments_in cut.start cut.timeline))) (sym published-is) (publications-hold (machine_by cut) cut-runs)

    pub cut-meets : AllMeet cut.life.config.drift (published_in cut)
    cut-meets = subst (AllMeet cut.life.config.drift) (sym published-is) (publications-meet (machine_by cut) cut-runs)

    -- ---- its sessions
    module _ (session : TimedSession gives failed says) (inside : IsIn cut session) where
      works : WorksIn cut.life inside.begun.worker
      works = All-contains (WorksIn cut.life) cut.life.workers inside.begun.worker is.proved.workers inside.begun.of_life

      between : IsServedBetween inside.begun.worker.post inside.begun.worker.last inside.begun.whole
      between = All-contains (IsServedBetween inside.begun.worker.post inside.begun.worker.last) inside.begun.worker.sessions inside.begun.whole works.in_turn inside.begun.of_worker

      drift : session.post.watch.drift ≡ cut.life.config.drift
      drift =
          ap (λ (post : PostState C). post.watch.drift) inside.begun.begins.post ∙ between.0.watch.drift ∙ ap (λ (watch : WatchState). watch.drift) works.watch

      -- what its watch had seen is the first ones of the publications of the life
      of_life : IsPrefix session.after.post.watch.items cut.life.published
      of_life =
          let whole = inside.begun.whole in
          let last = inside.begun.worker.last in
          prefix-both session.after.post.watch.items whole.after.post.watch.items cut.life.published
          (calls-go_on gives failed says inside.begun.begins.later session.after whole.after inside.begun.begins.goes_on).watch.seen
          (prefix-both whole.after.post.watch.items last.watch.items cut.life.published between.1.watch.seen works.seen)

      -- and so of those of the cut
      of_cut : IsPrefix (map fused_span_of session.after.post.watch.items) (published_in cut)
      of_cut =
          let spans : List FusedSpan = map fused_span_of session.after.post.watch.items in
          let all : map fused_span_of cut.life.published ≡ (kept_after (begun_in cut.life) (is.later ++ cut.calls)).published =
          is.proved.published ∙ ap (λ (calls : List RoundsCall). (kept_after (begun_in cut.life) calls).published) is.calls_are in
          let one : IsPrefix spans (kept_after (begun_in cut.life) (is.later ++ cut.calls)).published =
          subst (IsPrefix spans) all (prefix-map fused_span_of session.after.post.watch.items cut.life.published of_life) in
          shorter spans (published_in cut) (kept_after (begun_in cut.life) (is.later ++ cut.calls)).published one (calls-grow (begun_in cut.life) is.later cut.calls all_in_turn)
          (omega (arith, inside.seen, length-map session.after.post.watch.items fused_span_of))

      session-served : IsServedOn gives failed says (machine_by cut) session
      session-served = record {
        in_order = inside.in_order;
        look = calls-look gives failed says (machine_by cut) session.calls (new_station session.post session.client) session.after session.talked session.times drift
            (subst (IsPrefix (map fused_span_of session.after.post.watch.items)) published-is of_cut) inside.read;
      }

      pub cut-timed : IsTimed gives failed says session
      cut-timed = served-timed gives failed says (machine_by cut) cut-runs session session-served

  -- ---- leases
  pub cut-leased : (life : Life gives failed says waits) (session : TimedSession gives failed says) (place number stamp : ℕ) → IsLife life → IsBegunIn life session → BeginsAt session.calls place number stamp
      → Holds life.lease stamp × ((stampers : Interval) → life.stampers ≡ Some stampers → Holds stampers stamp → ⊥)
  cut-leased life session place number stamp proved begun begins =
      let works : WorksIn life begun.worker = All-contains (WorksIn life) life.workers begun.worker proved.workers begun.of_life in
      let between : IsServedBetween begun.worker.post begun.worker.last begun.whole = All-contains (IsServedBetween begun.worker.post begun.worker.last) begun.worker.sessions begun.whole works.in_turn begun.of_worker in
      let lease : session.post.lease ≡ life.lease = ap (λ (post : PostState C). post.lease) begun.begins.post ∙ between.0.lease ∙ works.lease in
      let stampers : session.post.stampers ≡ life.stampers = ap (λ (post : PostState C). post.stampers) begun.begins.post ∙ between.0.stampers ∙ works.stampers in (
        subst (λ (l : Interval). Holds l stamp) lease (session-machine gives failed says session place number stamp begins),
        λ taken has. session-outside gives failed says session place number stamp taken (stampers ∙ has) begins,
      )

  -- ---- sessions have cuts
  split : (early later : List Call) (before after : StationState C V) → Conversation (AllowsOn gives failed says) before (early ++ later) after
      → (mid : StationState C V) × Conversation (AllowsOn gives failed says) before early mid × Conversation (AllowsOn gives failed says) mid later after
  split [] later before after talked = (before, refl, talked)
  split (call ∷ early) later before after talked =
      let rest = split early later talked.0 after talked.2 in
      (rest.0, (talked.0, talked.1, rest.1), rest.2)

  pub session-cut : (whole : WorkerSession gives failed says waits) (early later : List Call) (times : List CallTimes) → whole.session.calls ≡ early ++ later
      → (session : TimedSession gives failed says) × (session.calls ≡ early) × (session.times ≡ times) × BeginsAs session whole
  session-cut whole early later times are =
      let first : StationState C V = new_station whole.before whole.client in
      let parts = split early later first whole.after (subst (λ (calls : List Call). Conversation (AllowsOn gives failed says) first calls whole.after) are whole.session.talked) in
      let session : TimedSession gives failed says = record { client = whole.client; post = whole.before; after = parts.0; calls = early; talked = parts.1; times = times } in
      (session, refl, refl, record { client = refl; post = refl; later = later; calls_are = are; goes_on = parts.2 })

  -- ---- no more is assumed of the first calls of a session
  module _ (ppm : ℕ) (later moments : List Moment) where
    calls-first : (early rest : List Call) (before after : StationState C V) (talked : Conversation (AllowsOn gives failed says) before (early ++ rest) after) (times more : List CallTimes) → length early ≡ length times
        → AllReadAt gives failed says ppm (later ++ moments) before (early ++ rest) after talked (times ++ more)
        → AllReadAt gives failed says ppm moments before early (split early rest before after talked).0 (split early rest before after talked).1 times
    unfolding split
    calls-first [] rest before after talked [] more same read = refl
    calls-first [] rest before after talked (t ∷ times) more same read = absurd (omega (arith, same))
    calls-first (call ∷ early) rest before after talked [] more same read = absurd (omega (arith, same))
    calls-first (call ∷ early) rest before after talked (t ∷ times) more same read = (
      read-first gives ppm later moments talked.0.post.watch talked.1.post.clock talked.0.post.clock (given_of gives failed says (record before { post = talked.1.post }) call talked.0 talked.1.allowed) t.read read.0,
      calls-first early rest talked.0 after talked.2 times more (omega (arith, same)) read.1,
    )

  pub read-cut : (life : Life gives failed says waits) (start : Start) (later timeline : List Timed) (whole : WorkerSession gives failed says waits) (early rest : List Call) (times more : List CallTimes)
      → IsTimedIn life start (later ++ timeline) whole (times ++ more) → whole.session.calls ≡ early ++ rest → length early ≡ length times
      → (session : TimedSession gives failed says) × (session.calls ≡ early) × (session.times ≡ times) × BeginsAs session whole × AreInOrder 0 session.times × IsReadIn life start timeline session
  read-cut life start later timeline whole early rest times more timed are same =
      let begin : List Moment = record { clock = start.clock; time = start.at } ∷ [] in
      let first : StationState C V = new_station whole.before whole.client in
      let moments : List Moment = moments_told later ++ (moments_told timeline ++ begin) in
      let read : AllReadAt gives failed says life.config.drift moments first whole.session.calls whole.after whole.session.talked (times ++ more) =
      subst (λ (ms : List Moment). AllReadAt gives failed says life.config.drift ms first whole.session.calls whole.after whole.session.talked (times ++ more)) (moments-append later timeline begin) timed.read in
      let both : (talked : Conversation (AllowsOn gives failed says) first (early ++ rest) whole.after) × AllReadAt gives failed says life.config.drift moments first (early ++ rest) whole.after talked (times ++ more) =
      subst (λ (calls : List Call). (talked : Conversation (AllowsOn gives failed says) first calls whole.after) × AllReadAt gives failed says life.config.drift moments first calls whole.after talked (times ++ more)) are
      (whole.session.talked, read) in
      let parts = split early rest first whole.after both.0 in
      let session : TimedSession gives failed says = record { client = whole.client; post = whole.before; after = parts.0; calls = early; talked = parts.1; times = times } in (
        session,
        refl,
        refl,
        record { client = refl; post = refl; later = rest; calls_are = are; goes_on = parts.2 },
        order-first 0 times more timed.in_order,
        calls-first life.config.drift (moments_told later) (moments_told timeline ++ begin) early rest first whole.after both.0 times more same both.1,
      )

  -- ---- a whole life is a cut
  pub whole-cut : (lived : TimedLife gives failed says waits) → IsLived lived → IsCut (whole_of lived)
  whole-cut lived is = record { proved = is.proved; later = []; calls_are = refl; assumed = is.assumed }

  pub whole-in : (lived : TimedLife gives failed says waits) (session : WorkerSession gives failed says waits) (times : List CallTimes) → IsLived lived → IsServedIn lived session times → IsIn (whole_of lived) (timed_of session times)
  whole-in lived session times is served =
      let works : WorksIn lived.life served.worker = All-contains (WorksIn lived.life) lived.life.workers served.worker is.proved.workers served.of_life in
      let between : IsServedBetween served.worker.post served.worker.last session = All-contains (IsServedBetween served.worker.post served.worker.last) served.worker.sessions session works.in_turn served.of_worker in
      let seen : IsPrefix session.after.post.watch.items lived.life.published = prefix-both session.after.post.watch.items served.worker.last.watch.items lived.life.published between.1.watch.seen works.seen in
      record {
        begun = record {
          worker = served.worker;
          of_life = served.of_life;
          whole = session;
          of_worker = served.of_worker;
          begins = record { client = refl; post = refl; later = []; calls_are = sym (append-nil session.session.calls); goes_on = refl };
        };
        seen = omega (arith, prefix-length session.after.post.watch.items lived.life.published seen, length-map lived.life.published fused_span_of, ap (length {A = FusedSpan}) is.proved.published);
        in_order = served.timed.in_order;
        read = served.timed.read;
      }

  -- ---- cuts and stampers together
  cuts-within : (cuts : List (Cut gives failed says waits)) → All IsCut cuts → (commit : Commit) → IsSeenInCut cuts commit → IsWithin commit
  cuts-within cuts are commit at =
      session-within gives failed says at.session commit (cut-timed at.cut (All-contains IsCut cuts at.cut are at.among) at.session at.inside) at.seen

  pub cuts-consistent : (cuts : List (Cut gives failed says waits)) (stampers : List Stamper) (history : List Commit) → All IsCut cuts → All IsRightStamper stampers → All (IsSeenBeside cuts stampers) history → IsConsistent history
  cuts-consistent cuts stampers history are right seen =
      within-consistent history (λ number other inside.
      ⊎_elim
      (λ at. cuts-within cuts are _ at)
      (λ at. stamper-within at.stamper _ (All-contains IsRightStamper stampers at.stamper right at.among) at.seen)
      (seen number other inside))
