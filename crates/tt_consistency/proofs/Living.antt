-- Lives of machines: each is a machine that runs, and its sessions are served on it.
use Rattle.std.proofs.Common.{◌≡◌, ℕ, List, [], ◌∷◌, map, Bool, Option, sym, ap, ◌∙◌, subst, arith, All, Contains}
use Rattle.std.specs.List.{AllByRecursion}
use Rattle.std.proofs.lemmas.List.{map-append}
use Rattle.std.proofs.lemmas.List.Elements.{All-contains}
use mathlib.Core.List.{IsPrefix}
use Rattle.tt_judge.specs.declared.history.Commit.{Commit}
use Rattle.tt_publish.specs.Known.{WatchState}
use Rattle.tt_publish.specs.Reading.{fused_span_of}
use Rattle.tt_publish.specs.declared.readings.FusedSpan.{FusedSpan}
use Rattle.tt_session.specs.Conversation.{Conversation}
use Rattle.tt_session.specs.declared.calls.Call.{Call}
use Rattle.tt_session.specs.declared.calls.Call.TheVariants.{Now, Begin, Lease, Pass}
use Rattle.tt_connections.specs.Sessions.{WorkerSession, IsServedBetween}
use Rattle.tt_connections.specs.Station.{StationState, Allows, new_station}
use Rattle.tt_connections.specs.Turns.{AllowsOn}
use Rattle.tt_connections.specs.declared.presence.Question.{Question}
use Rattle.tt_connections.proofs.Turning.{prefix-both, turn-goes_on, calls-go_on}
use Rattle.tt_consistency.specs.Timed.{CallTimes, IsTimed, given_of, timed_of}
use Rattle.tt_consistency.specs.Order.{IsSeenAtSome}
use Rattle.tt_consistency.specs.Calls.{AreInTurn, kept_after}
use Rattle.tt_consistency.specs.Faulty.{FewFaulty}
use Rattle.tt_consistency.specs.Reads.{IsReadAt}
use Rattle.tt_consistency.specs.Rising.{StepsRise}
use Rattle.tt_consistency.specs.Steps.{Step, new_kept}
use Rattle.tt_consistency.specs.Timeline.{Timed, HeldTrueTime, steps_told}
use Rattle.tt_consistency.proofs.Rising.{calls-rise, timeline-rises}
use Rattle.tt_consistency.specs.Assumed.{moments_in, IsAssumed, machine_of, AllReadAt, IsTimedIn, TimedLife, IsLived, IsServedIn, IsSeenInOneOf}
use Rattle.tt_consistency.specs.Lives.{Life, WorkerLife, WorksIn, IsLife}
use Rattle.tt_consistency.specs.Running.{Machine, IsRunning, Start, clock_moments, published_by}
use Rattle.tt_consistency.specs.Served.{LooksBy, AllLookAt, IsServedOn}
use Rattle.tt_consistency.proofs.Holding.{publications-hold}
use Rattle.tt_consistency.proofs.Serving.{served-timed}

-- ---- beginnings of lists
pub prefix-map : {A B : Type 0} (f : A → B) (xs ys : List A) → IsPrefix xs ys → IsPrefix (map f xs) (map f ys)
prefix-map f xs ys p = (map f p.0, sym (map-append f xs p.0) ∙ ap (map f) p.1)

module _ {C V : Type 0} (gives : C → Option ℕ → C → Type 0) (failed : C → ℕ) (says : V → Question → Bool → Type 0) where
  -- ---- in one conversation
  -- where the readings of a conversation were taken by the drift bound of a machine, and its watch has seen nothing but what the machine published, its calls looked at the machine's publications
  module _ (machine : Machine) where
    call-looks : (before : StationState C V) (call : Call) (after : StationState C V) (allowed : Allows gives failed says before call after) (time : ℕ) → IsPrefix (map fused_span_of after.post.watch.items) (published_by machine)
        → IsReadAt gives after.post.watch.drift (clock_moments machine) after.post.watch before.post.clock after.post.clock (given_of gives failed says before call after allowed) time → LooksBy gives failed says machine before call after allowed time
    call-looks before (Now answer) after allowed time seen read = record { seen = seen; read = read }
    call-looks before (Begin number floor answer) after allowed time seen read = record { seen = seen; read = read }
    call-looks before (Lease lo hi answer) after allowed time seen read = tt
    call-looks before (Pass number answer) after allowed time seen read = record { seen = seen; read = read }

    pub calls-look : (calls : List Call) (before after : StationState C V) (talked : Conversation (AllowsOn gives failed says) before calls after) (times : List CallTimes) → before.post.watch.drift ≡ machine.config.drift → IsPrefix (map fused_span_of after.post.watch.items) (published_by machine)
        → AllReadAt gives failed says machine.config.drift (clock_moments machine) before calls after talked times → AllLookAt gives failed says machine before calls after talked times
    calls-look [] before after talked times drift seen read = read
    calls-look (call ∷ calls) before after talked [] drift seen read = absurd read
    calls-look (call ∷ calls) before after talked (t ∷ times) drift seen read =
        let mid = talked.0 in
        let same : mid.post.watch.drift ≡ machine.config.drift = (turn-goes_on gives failed says before call mid talked.1).watch.drift ∙ drift in
        let later : IsPrefix mid.post.watch.items after.post.watch.items = (calls-go_on gives failed says calls mid after talked.2).watch.seen in (
          call-looks (record before { post = talked.1.post }) call mid talked.1.allowed t.read
              (prefix-both (map fused_span_of mid.post.watch.items) (map fused_span_of after.post.watch.items) (published_by machine) (prefix-map fused_span_of mid.post.watch.items after.post.watch.items later) seen)
              (subst (λ (ppm : ℕ). IsReadAt gives ppm (clock_moments machine) mid.post.watch talked.1.post.clock mid.post.clock (given_of gives failed says (record before { post = talked.1.post }) call mid talked.1.allowed) t.read) (sym same) read.0),
          calls-look calls mid after talked.2 times same seen read.1,
        )

  module _ (waits : ℕ) where
    -- ---- in a life
    module _ (life : Life gives failed says waits) (start : Start) (timeline : List Timed) (proved : IsLife life) (assumed : IsAssumed life start timeline) where
      -- the life, as a machine
      abbrev machine : Machine
      machine = machine_of life start timeline

      pub life-runs : IsRunning machine
      life-runs =
          let steps : StepsRise 0 (steps_told timeline) proved.rising.0 = subst (λ (steps : List Step). StepsRise 0 steps proved.rising.0) (sym assumed.told) (calls-rise 0 proved.rising.0 life.calls proved.rising.1) in
          record {
            configured = proved.configured;
            lives = omega (arith, assumed.lives, proved.last);
            at = assumed.at;
            clock = assumed.clock;
            in_turn = subst (λ (epoch : ℕ). AreInTurn (new_kept life.config life.number epoch) life.calls) (sym assumed.lives) proved.in_turn;
            told = assumed.told;
            of_time = assumed.of_time;
            forward = timeline-rises start.at start.clock 0 timeline proved.rising.0 assumed.times steps assumed.begins assumed.readings;
            nonces = assumed.nonces;
            drift = assumed.drift;
            few_faulty = subst (λ (epoch : ℕ). FewFaulty life.config (record { machine = life.number; number = epoch }) timeline) (sym assumed.lives) assumed.few_faulty;
          }

      published-is : map fused_span_of life.published ≡ published_by machine
      published-is = subst (λ (epoch : ℕ). map fused_span_of life.published ≡ (kept_after (new_kept life.config life.number epoch) life.calls).published) (sym assumed.lives) proved.published

      pub life-holds : AllByRecursion (HeldTrueTime (moments_in start timeline)) (map fused_span_of life.published)
      life-holds = subst (AllByRecursion (HeldTrueTime (moments_in start timeline))) (sym published-is) (publications-hold machine life-runs)

      module _ (worker : WorkerLife gives failed says waits) (of_life : Contains life.workers worker) (session : WorkerSession gives failed says waits) (of_worker : Contains worker.sessions session) (times : List CallTimes) (read : IsTimedIn life start timeline session times) where
        session-served : IsServedOn gives failed says machine (timed_of session times)
        session-served =
            let works : WorksIn life worker = All-contains (WorksIn life) life.workers worker proved.workers of_life in
            let between : IsServedBetween worker.post worker.last session = All-contains (IsServedBetween worker.post worker.last) worker.sessions session works.in_turn of_worker in
            let drift : session.before.watch.drift ≡ life.config.drift = between.0.watch.drift ∙ ap (λ (watch : WatchState). watch.drift) works.watch in
            let ended : IsPrefix session.after.post.watch.items life.published = prefix-both session.after.post.watch.items worker.last.watch.items life.published between.1.watch.seen works.seen in
            let seen : IsPrefix (map fused_span_of session.after.post.watch.items) (published_by machine) =
            subst (λ (published : List FusedSpan). IsPrefix (map fused_span_of session.after.post.watch.items) published) published-is (prefix-map fused_span_of session.after.post.watch.items life.published ended) in
            record {
              in_order = read.in_order;
              look = calls-look machine session.session.calls (new_station session.before session.client) session.after session.session.talked times drift seen read.read;
            }

        pub session-timed : IsTimed gives failed says (timed_of session times)
        session-timed = served-timed gives failed says machine life-runs (timed_of session times) session-served

    -- ---- in any number of lives
    pub lived-timed : (lived : TimedLife gives failed says waits) → IsLived lived → (session : WorkerSession gives failed says waits) (times : List CallTimes) → IsServedIn lived session times → IsTimed gives failed says (timed_of session times)
    lived-timed lived is session times served =
        session-timed lived.life lived.start lived.timeline is.proved is.assumed served.worker served.of_life session served.of_worker times served.timed

    pub lives-seen : (lives : List (TimedLife gives failed says waits)) (history : List Commit) → All IsLived lives → All (IsSeenInOneOf lives) history → All (IsSeenAtSome gives failed says) history
    lives-seen lives history are seen number other inside =
        let at = seen number other inside in
        let timed : IsTimed gives failed says (timed_of at.session at.times) = lived-timed at.lived (All-contains IsLived lives at.lived are at.among) at.session at.times at.served in
        record {
          session = timed_of at.session at.times;
          timed = timed;
          seen = at.seen;
        }
