-- All that the threads of a life had done by some moment is one list.
use Rattle.std.proofs.Common.{◌≡◌, ℕ, suc, ◌+◌, ◌<◌, ◌≤◌, ◌^◌, List, [], ◌∷◌, ◌++◌, length, map, Bool, Option, refl, sym, ap, subst, ◌∙◌, arith, append-nil, All}
use Rattle.std.specs.List.{AllByRecursion}
use Rattle.std.proofs.lemmas.List.{length-map}
use Rattle.std.proofs.lemmas.List.Elements.{All-head, All-tail}
use mathlib.Core.List.{IsPrefix}
use Rattle.atomic_table.specs.Seated.{TableId}
use Rattle.tt_span.specs.Time.{max_time}
use Rattle.tt_daemon.specs.Config.{Configuration}
use Rattle.tt_publish.specs.Known.{WatchState}
use Rattle.tt_publish.specs.Reading.{fused_span_of}
use Rattle.tt_publish.specs.declared.readings.FusedSpan.{FusedSpan}
use Rattle.tt_stamp.specs.Stamping.{Continues, IsLegalRun, SeatState}
use Rattle.tt_stamp.specs.declared.stampings.Stamping.{Stamping}
use Rattle.tt_connections.specs.Station.{PostState}
use Rattle.tt_connections.specs.Turns.{PostGoesOn}
use Rattle.tt_connections.specs.declared.presence.Question.{Question}
use Rattle.tt_connections.proofs.Turning.{prefix-both}
use Rattle.tt_world.specs.Config.{config_at}
use Rattle.tt_world.specs.Life.{life_at}
use Rattle.tt_world.specs.declared.events.Event.{Event}
use Rattle.tt_consistency.specs.Assumed.{moments_in}
use Rattle.tt_consistency.specs.Calls.{RoundsCall, AreInTurn, RiseIn, kept_after}
use Rattle.tt_consistency.specs.Cuts.{Cut, IsToldOf, life_by, published_in as published_by}
use Rattle.tt_consistency.specs.Lives.{IsLife, WorkerLife, WorksIn, begun_in}
use Rattle.tt_consistency.specs.Rising.{StepsRise}
use Rattle.tt_consistency.specs.Sequencer.{HasSeatOf, HaveSeatsOf, ShareOneSequencer}
use Rattle.tt_consistency.specs.Steps.{Kept, Step, after_steps, new_kept}
use Rattle.tt_consistency.specs.Timeline.{BeginsLife, Timed, steps_told}
use Rattle.tt_consistency.proofs.Calling.{made-by_calls, named-by_calls}
use Rattle.tt_consistency.proofs.Cutting.{calls-grow, in_turn-first, shorter}
use Rattle.tt_consistency.proofs.Rising.{calls-rise, timeline-rises}
use Rattle.tt_life_events.specs.Acts.{AllReadAs, CanBe, IsRunOfAll, IsUnworked, LifeDone, entries_in, published_in, timeline_in}
use Rattle.tt_life_events.specs.Merging.{AreInOrder, IsMergeOf, IsOneListWith, stamps_in}
use Rattle.tt_life_events.specs.Threads.{AreOfWorkers, AreSince, AreThreads, ClockRises, daemon_list}
use Rattle.tt_life_events.specs.Beginnings.{AreListsBy, AreWorksIn, HasOneListBy, IsWorkOf, WorkBy}
use Rattle.tt_life_events.proofs.Begun.{legal-first, rising-first, work-goes_on}
use Rattle.tt_life_events.proofs.Doing.{Has, events-done, map-prefix}
use Rattle.tt_life_events.proofs.Following.{list-is_run}
use Rattle.tt_life_events.proofs.Logging.{HaveEntries, log-merge}
use Rattle.tt_life_events.proofs.Threading.{all-read-as, threads-can, threads-list, threads-told}

module _ {C V : Type 0} (gives : C → Option ℕ → C → Type 0) (failed : C → ℕ) (says : V → Question → Bool → Type 0) (waits : ℕ)
    (cut : Cut gives failed says waits) (is : IsLife cut.life) (later : List RoundsCall) (calls_are : cut.life.calls ≡ later ++ cut.calls) where
  abbrev spans : List FusedSpan
  spans = published_by cut

  all_in_turn : AreInTurn (begun_in cut.life) (later ++ cut.calls)
  all_in_turn = subst (AreInTurn (begun_in cut.life)) calls_are is.in_turn

  in_turn : AreInTurn (begun_in cut.life) cut.calls
  in_turn = in_turn-first (begun_in cut.life) later cut.calls all_in_turn

  -- ---- the lists of workers

  -- what a worker had seen is the first ones of what was published by then
  work-seen : (worker : WorkerLife gives failed says waits) (work : WorkBy gives failed says waits) → WorksIn cut.life worker → IsWorkOf worker work → length work.last.watch.items ≤ length spans
      → IsPrefix (map fused_span_of work.last.watch.items) spans
  work-seen worker work works of seen =
      let own : List FusedSpan = map fused_span_of work.last.watch.items in
      let all : List FusedSpan = (kept_after (begun_in cut.life) (later ++ cut.calls)).published in
      let all_are : map fused_span_of cut.life.published ≡ all = is.published ∙ ap (λ (calls : List RoundsCall). (kept_after (begun_in cut.life) calls).published) calls_are in
      let goes : PostGoesOn work.last worker.last = work-goes_on gives failed says waits worker work of in
      let of_life : IsPrefix work.last.watch.items cut.life.published = prefix-both work.last.watch.items worker.last.watch.items cut.life.published goes.watch.seen works.seen in
      let of_all : IsPrefix own all = subst (IsPrefix own) all_are (map-prefix fused_span_of work.last.watch.items cut.life.published of_life) in
      shorter own spans all of_all (calls-grow (begun_in cut.life) later cut.calls all_in_turn) (omega (arith, seen, length-map work.last.watch.items fused_span_of))

  -- the lists of what was done, by workers with the numbers from this one on
  record ListsFrom (w : ℕ) (workers : List (WorkerLife gives failed says waits)) (works : List (WorkBy gives failed says waits)) (history : List Stamping) : Type 0 where
    pub lists : List (List LifeDone)
    pub are : AreListsBy cut.life.config.drift spans w works lists
    pub own : AreOfWorkers cut.life.config (moments_in cut.start cut.timeline) spans w lists
    pub since : AllByRecursion (AreSince cut.start.at) lists
    pub in_order : AllByRecursion (AreInOrder max_time) lists
    pub entries : HaveEntries w lists history
    pub size : length lists ≡ length workers

  begins : (w : ℕ) (worker : WorkerLife gives failed says waits) (work : WorkBy gives failed says waits) (table : TableId) (seats : ℕ) (history : List Stamping) → WorksIn cut.life worker → HasSeatOf table seats history w worker
      → work.post ≡ worker.post → Has cut.life.config (moments_in cut.start cut.timeline) spans cut.start.at w work.post cut.start.at []
  begins w worker work table seats history works seat same = record {
    drift = ap (λ (p : PostState C). p.watch.drift) same ∙ ap (λ (watch : WatchState). watch.drift) works.watch;
    numbers = ap (λ (p : PostState C). p.seat.numbers) same ∙ ap (λ (s : SeatState). s.numbers) seat.seat_is;
    entries = sym (ap (λ (p : PostState C). p.seat.own) same ∙ ap (λ (s : SeatState). s.own) seat.seat_is);
    seen = omega arith;
    of_worker = tt;
    own = tt;
    is_since = tt;
    in_order = tt;
    begun = omega arith;
  }

  lists-from : (w : ℕ) (workers : List (WorkerLife gives failed says waits)) (works : List (WorkBy gives failed says waits)) (table : TableId) (seats : ℕ) (whole history : List Stamping)
      → w + length workers ≤ cut.life.config.workers → All (WorksIn cut.life) workers → HaveSeatsOf table seats whole w workers → AreWorksIn cut history w workers works → ListsFrom w workers works history
  lists-from w [] [] table seats whole history fits works have did = record { lists = []; are = refl; own = tt; since = tt; in_order = tt; entries = tt; size = refl }
  lists-from w [] (work ∷ others) table seats whole history fits works have did = absurd did
  lists-from w (worker ∷ workers) [] table seats whole history fits works have did = absurd did
  lists-from w (worker ∷ workers) (work ∷ others) table seats whole history fits works have (mine, theirs) =
      let worked : WorksIn cut.life worker = All-head (WorksIn cut.life) worker workers works in
      let seen : IsPrefix (map fused_span_of work.last.watch.items) spans = work-seen worker work worked mine.of_worker mine.seen in
      let (list, list_is, has) =
      events-done cut.life.config (moments_in cut.start cut.timeline) spans cut.start.at w gives failed says cut.life.config.drift (omega arith) waits work.post work.events work.last work.times max_time mine.of_worker.lead mine.timed seen
      (begins w worker work table seats whole worked have.0 mine.of_worker.post) in
      let rest = lists-from (suc w) workers others table seats whole history (omega arith) (All-tail (WorksIn cut.life) worker workers works) have.1 theirs in
      record {
        lists = list ∷ rest.lists;
        are = (list_is, rest.are);
        own = (has.of_worker, has.own, rest.own);
        since = (has.is_since, rest.since);
        in_order = (has.in_order, rest.in_order);
        entries = (has.entries ∙ sym mine.own, rest.entries);
        size = omega (arith, rest.size);
      }

  -- ---- all threads

  module _ (told : IsToldOf (life_by cut) cut.start cut.timeline) where
    published-is : spans ≡ (after_steps (new_kept cut.life.config cut.life.number cut.life.epoch) (steps_told cut.timeline)).published
    published-is = ap (λ (kept : Kept). kept.published) (made-by_calls cut.life.config cut.life.number cut.life.epoch cut.timeline cut.calls in_turn told.told)

    cut-threads : (seats : ℕ) (history : List Stamping) → IsLegalRun seats history → (lists : List (List LifeDone)) (log : List LifeDone) → AreOfWorkers cut.life.config (moments_in cut.start cut.timeline) spans 0 lists
        → AllByRecursion (AreSince cut.start.at) lists → AllByRecursion (AreInOrder max_time) lists → IsMergeOf (map stamps_in lists) log → entries_in log ≡ history → AreInOrder max_time log
        → AreThreads cut.life.config cut.life.number cut.life.epoch cut.start cut.timeline lists seats log
    cut-threads seats history legal lists log own since in_order merge are log_in_order =
        let rising = rising-first 0 is.rising.0 later cut.calls (subst (λ (calls : List RoundsCall). RiseIn 0 calls is.rising.0) calls_are is.rising.1) in
        let steps : StepsRise 0 (steps_told cut.timeline) rising.0 = subst (λ (steps : List Step). StepsRise 0 steps rising.0) (sym told.told) (calls-rise 0 rising.0 cut.calls rising.1) in
        record {
          forward = timeline-rises cut.start.at cut.start.clock 0 cut.timeline rising.0 told.times steps told.begins told.readings;
          named = named-by_calls cut.life.config cut.life.number cut.life.epoch cut.timeline cut.calls in_turn told.told;
          own = subst (λ (l : List FusedSpan). AreOfWorkers cut.life.config (moments_in cut.start cut.timeline) l 0 lists) published-is own;
          since = since;
          in_order = in_order;
          stamps_in_order = log_in_order;
          stamps = merge;
          legal = subst (IsLegalRun seats) (sym are) legal;
        }

    -- lists of the workers, whose stamps merge into a log in the order of true time, are one list with that of the daemon
    pub cut-one : (configs : List Configuration) (base : List Event) → cut.life.number < length configs → config_at configs cut.life.number ≡ cut.life.config
        → BeginsLife configs cut.life.number cut.life.epoch cut.start.at cut.start.clock base → IsUnworked (config_at configs cut.life.number) base (life_at base cut.life.number)
        → (seats : ℕ) (history : List Stamping) → IsLegalRun seats history → (published : List FusedSpan) → published ≡ spans
        → (lists : List (List LifeDone)) (log : List LifeDone) → AreOfWorkers cut.life.config (moments_in cut.start cut.timeline) published 0 lists → AllByRecursion (AreSince cut.start.at) lists → AllByRecursion (AreInOrder max_time) lists
        → IsMergeOf (map stamps_in lists) log → entries_in log ≡ history → AreInOrder max_time log
        → (all : List LifeDone) × IsOneListWith max_time (daemon_list cut.timeline) lists log all
        × (ClockRises cut.start.clock all → length all < 2 ^ 64 → IsRunOfAll configs cut.life.number cut.life.epoch base all × AllReadAs cut.life.config cut.life.number cut.life.epoch published all)
    cut-one configs base there same begin unworked seats history legal published spans_are lists log own since in_order merge are log_in_order =
        let m = cut.life.number in
        let epoch = cut.life.epoch in
        let made_own : AreOfWorkers cut.life.config (moments_in cut.start cut.timeline) spans 0 lists = subst (λ (l : List FusedSpan). AreOfWorkers cut.life.config (moments_in cut.start cut.timeline) l 0 lists) spans_are own in
        let threads : AreThreads (config_at configs m) m epoch cut.start cut.timeline lists seats log =
        subst (λ (config : Configuration). AreThreads config m epoch cut.start cut.timeline lists seats log) (sym same) (cut-threads seats history legal lists log made_own since in_order merge are log_in_order) in
        let list = threads-list (config_at configs m) m epoch cut.start cut.timeline lists seats log told.at threads in (
          list.0,
          list.1,
          λ rises few.
              let can = threads-can (config_at configs m) m epoch cut.start cut.timeline lists seats log list.0 threads list.1 rises in
              let own_can : CanBe cut.life.config m epoch cut.start list.0 = subst (λ (config : Configuration). CanBe config m epoch cut.start list.0) same can.0 in
              let told_all : timeline_in list.0 ≡ cut.timeline = threads-told (config_at configs m) m epoch cut.start cut.timeline lists seats log list.0 threads list.1 in
              let made : published ≡ published_in cut.life.config m epoch list.0 ++ [] =
              spans_are ∙ published-is ∙ ap (λ (t : List Timed). (after_steps (new_kept cut.life.config m epoch) (steps_told t)).published) (sym told_all) ∙ sym (append-nil (published_in cut.life.config m epoch list.0)) in
              (list-is_run configs m epoch there base cut.start begin unworked list.0 seats few can.0 can.1, all-read-as cut.life.config m epoch cut.start (moments_in cut.start cut.timeline) published list.0 [] own_can made),
        )

    pub cut-list : (configs : List Configuration) (base : List Event) (works : List (WorkBy gives failed says waits)) (shared : ShareOneSequencer cut.life.workers) (history : List Stamping)
        → Continues history shared.history → AreWorksIn cut history 0 cut.life.workers works → cut.life.number < length configs → config_at configs cut.life.number ≡ cut.life.config
        → length cut.life.workers ≤ cut.life.config.workers → BeginsLife configs cut.life.number cut.life.epoch cut.start.at cut.start.clock base → IsUnworked (config_at configs cut.life.number) base (life_at base cut.life.number)
        → HasOneListBy configs base cut.life cut.start cut.timeline spans works history
    cut-list configs base works shared history goes did there same fits begin unworked =
        let seats = length cut.life.workers in
        let room : 0 + length cut.life.workers ≤ cut.life.config.workers = omega arith in
        let legal : IsLegalRun seats history = legal-first seats goes.0 history (subst (IsLegalRun seats) goes.1 shared.legal) in
        let from = lists-from 0 cut.life.workers works shared.table seats shared.history history room is.workers shared.each did in
        let (log, merge, are) = log-merge from.lists seats history from.size from.entries legal in
        record {
          lists = from.lists;
          log = log;
          are_lists = from.are;
          own = from.own;
          merge = merge;
          log_is = are;
          one_list = cut-one configs base there same begin unworked seats history legal spans refl from.lists log from.own from.since from.in_order merge are;
        }
