-- A whole life is a cut of itself, so all that its threads did is one list.
use Rattle.std.proofs.Common.{◌≡◌, ℕ, suc, ◌<◌, ◌≤◌, List, [], ◌∷◌, length, map, Bool, Option, inl, refl, sym, ap, subst, arith, All}
use Rattle.std.proofs.lemmas.List.{length-map}
use Rattle.std.proofs.lemmas.List.Elements.{All-head, All-tail}
use Rattle.atomic_table.specs.Seated.{TableId}
use Rattle.tt_daemon.specs.Config.{Configuration}
use Rattle.tt_publish.specs.Reading.{fused_span_of}
use Rattle.tt_publish.specs.declared.readings.FusedSpan.{FusedSpan}
use Rattle.tt_stamp.specs.declared.stampings.Stamping.{Stamping}
use Rattle.tt_connections.specs.declared.presence.Question.{Question}
use Rattle.tt_world.specs.Config.{config_at}
use Rattle.tt_world.specs.Life.{life_at}
use Rattle.tt_world.specs.declared.events.Event.{Event}
use Rattle.tt_consistency.specs.Cuts.{Cut, IsToldOf, published_in, whole_of}
use Rattle.tt_consistency.specs.Lives.{IsLife, Life, WorkerLife, WorksIn}
use Rattle.tt_consistency.specs.Running.{Start}
use Rattle.tt_consistency.specs.Sequencer.{HaveSeatsOf, ShareOneSequencer}
use Rattle.tt_consistency.specs.Timeline.{BeginsLife, Timed}
use Rattle.tt_consistency.proofs.Cutting.{prefix-length}
use Rattle.tt_life_events.specs.Acts.{IsUnworked, LifeDone}
use Rattle.tt_life_events.specs.Turns.{AllTurnsOf, AreListsOf}
use Rattle.tt_life_events.specs.Lists.{HasOneList}
use Rattle.tt_life_events.specs.Beginnings.{AreListsBy, AreWorksIn, HasOneListBy, works_of}
use Rattle.tt_life_events.proofs.CutLists.{cut-list}

module _ {C V : Type 0} (gives : C → Option ℕ → C → Type 0) (failed : C → ℕ) (says : V → Question → Bool → Type 0) (waits : ℕ) (life : Life gives failed says waits) (start : Start) (timeline : List Timed) where
  abbrev spans : List FusedSpan
  spans = map fused_span_of life.published

  abbrev pub whole : Cut gives failed says waits
  whole = whole_of (record { life = life; start = start; timeline = timeline })

  abbrev Turns : List (WorkerLife gives failed says waits) → Type 0
  Turns workers = AllTurnsOf gives failed says waits life start timeline workers

  lists-whole : (w : ℕ) (workers : List (WorkerLife gives failed says waits)) (turns : Turns workers) (lists : List (List LifeDone))
      → AreListsBy life.config.drift spans w (works_of gives failed says waits life start timeline workers turns) lists → AreListsOf gives failed says waits life start timeline w workers turns lists
  lists-whole w [] turns lists are = are
  lists-whole w (worker ∷ workers) turns [] are = absurd are
  lists-whole w (worker ∷ workers) turns (list ∷ lists) (is, are) = (is, lists-whole (suc w) workers turns.1 lists are)

  module _ (is : IsLife life) where
    works-whole : (w : ℕ) (workers : List (WorkerLife gives failed says waits)) (turns : Turns workers) (table : TableId) (seats : ℕ) (history : List Stamping) → All (WorksIn life) workers → HaveSeatsOf table seats history w workers
        → AreWorksIn whole history w workers (works_of gives failed says waits life start timeline workers turns)
    works-whole w [] turns table seats history works have = tt
    works-whole w (worker ∷ workers) turns table seats history works have =
        let mine : WorksIn life worker = All-head (WorksIn life) worker workers works in (
          record {
            of_worker = record { post = refl; by_turns = turns.0.by_turns; first = inl ([], refl); lead = turns.0.by_turns.lead };
            seen = omega (arith, prefix-length worker.last.watch.items life.published mine.seen, length-map life.published fused_span_of, ap (length {A = FusedSpan}) is.published);
            own = have.0.own;
            timed = turns.0.timed;
          },
          works-whole (suc w) workers turns.1 table seats history (All-tail (WorksIn life) worker workers works) have.1,
        )

    -- all that the workers of a life did is what they did in a cut
    pub life-works : (turns : Turns life.workers) (shared : ShareOneSequencer life.workers) → AreWorksIn whole shared.history 0 life.workers (works_of gives failed says waits life start timeline life.workers turns)
    life-works turns shared = works-whole 0 life.workers turns shared.table (length life.workers) shared.history is.workers shared.each

    -- and the list of that is the list of the life
    pub list-whole : (configs : List Configuration) (base : List Event) (turns : Turns life.workers) (history : List Stamping)
        → HasOneListBy configs base life start timeline (published_in whole) (works_of gives failed says waits life start timeline life.workers turns) history → HasOneList configs base gives failed says waits life start timeline turns history
    list-whole configs base turns history has =
        let by : HasOneListBy configs base life start timeline spans (works_of gives failed says waits life start timeline life.workers turns) history =
        subst (λ (l : List FusedSpan). HasOneListBy configs base life start timeline l (works_of gives failed says waits life start timeline life.workers turns) history) (sym is.published) has in
        record { lists = by.lists; log = by.log; are_lists = lists-whole 0 life.workers turns by.lists by.are_lists; own = by.own; merge = by.merge; log_is = by.log_is; one_list = by.one_list }

    pub life-list : IsToldOf life start timeline → (configs : List Configuration) (base : List Event) (turns : Turns life.workers) → life.number < length configs → config_at configs life.number ≡ life.config
        → length life.workers ≤ life.config.workers → BeginsLife configs life.number life.epoch start.at start.clock base → IsUnworked (config_at configs life.number) base (life_at base life.number)
        → (shared : ShareOneSequencer life.workers) → HasOneList configs base gives failed says waits life start timeline turns shared.history
    life-list told configs base turns there same fits begin unworked shared =
        list-whole configs base turns shared.history
        (cut-list gives failed says waits whole is [] refl told configs base (works_of gives failed says waits life start timeline life.workers turns) shared shared.history ([], refl) (life-works turns shared) there same fits begin unworked)
