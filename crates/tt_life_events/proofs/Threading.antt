-- What the threads of a machine did by themselves can be one list.
use Rattle.std.proofs.Common.{◌≡◌, ℕ, suc, ◌+◌, ◌-◌, ◌<◌, ◌≤◌, Bool, true, false, cond, eqb, leb, List, [], ◌∷◌, ◌++◌, length, Option, Some, None, inl, inr, refl, sym, ap, subst, ◌∙◌, arith, ne_eqb, append_assoc, length-append}
use Rattle.std.specs.Prelude.{◌⊎◌, slice_index_or}
use Rattle.std.specs.List.{AllByRecursion}
use Rattle.std.specs.Option.{option_map}
use Rattle.std.proofs.Math.ListN.{get_or-append}
use Rattle.std.proofs.Math.Seq.{get_or-append_seam}
use Rattle.std.proofs.lemmas.Bool.Decides.{leb_tells}
use Rattle.std.proofs.lemmas.List.{append-nil}
use Rattle.tt_span.specs.Time.{max_time}
use Rattle.tt_span.specs.Drift.{Moment}
use Rattle.tt_daemon.specs.Config.{Configuration}
use Rattle.tt_publish.specs.declared.readings.FusedSpan.{FusedSpan}
use Rattle.tt_stamp.specs.Stamping.{IsLegalRun}
use Rattle.tt_stamp.specs.declared.stampings.Stamping.{Stamping}
use Rattle.tt_world.specs.Publications.{no_publication, publication_at, reading_at}
use Rattle.tt_world.specs.declared.workers.Arrival.{Arrival}
use Rattle.tt_consistency.specs.Assumed.{moments_in}
use Rattle.tt_consistency.specs.Running.{Start}
use Rattle.tt_consistency.specs.Steps.{Kept, Step, after_step, after_steps, new_kept}
use Rattle.tt_consistency.specs.Timeline.{AreOf, Happening, IsAmong, IsForward, IsTimeline, Timed, clock_of_step, last_shown, last_time, moment_of, moments_told, step_of, steps_told}
use Rattle.tt_consistency.specs.Timeline as telling
use Rattle.tt_life_events.specs.Merging.{AreInOrder, Deed, Does, IsMerge, IsMergeBefore, IsMergeOf, IsOneListWith, Stamps, if_stamp, stamps_in}
use Rattle.tt_life_events.specs.Acts.{Act, AllReadAs, CanBe, Gives, Happens, IsNext, LifeDone, Reads, ReadsAs, Waiting, entries_in, if_given, if_happens, published_in, reading_in, seen_by, seen_in, shown_by, shown_in, time_in, timeline_in, waits_in}
use Rattle.tt_life_events.specs.Threads.{AreOfWorkers, AreOwn, AreSince, AreThreads, Begun, ClockRises, IsOwn, begun_by, begun_in, daemon_list, worker_of}
use Rattle.tt_life_events.proofs.Growing.{Grows, step-grows}
use Rattle.tt_life_events.proofs.Merges.{before-merge, life-merge, merge-swap}
use Rattle.tt_life_events.proofs.Parts.{AreNumbered, HoldOfEach, all-hold, all-merge, all-workers, left_by, part-left}

-- ---- what a worker has is what its own list says

seen-left : (w : ℕ) (past : List LifeDone) → seen_in w past ≡ left_by (seen_by w) 0 past
seen-left w [] = refl
seen-left w (done ∷ past) = ap (seen_by w done.deed) (seen-left w past)

begun-left : (w : ℕ) (past : List LifeDone) → begun_in w past ≡ left_by (begun_by w) None past
begun-left w [] = refl
begun-left w (done ∷ past) = ap (begun_by w done.deed) (begun-left w past)

seen-other : (w : ℕ) (deed : Deed Act Gives) → (worker_of deed ≡ w → ⊥) → (n : ℕ) → seen_by w deed n ≡ n
seen-other w (Does (Happens h)) other n = refl
seen-other w (Does (Reads v clock k asked)) other n = ap (λ (b : Bool). cond b k n) (ne_eqb v w other)
seen-other w (Stamps given) other n = refl

begun-other : (w : ℕ) (deed : Deed Act Gives) → (worker_of deed ≡ w → ⊥) → (o : Option Begun) → begun_by w deed o ≡ o
begun-other w (Does (Happens h)) other o = refl
begun-other w (Does (Reads v clock k asked)) other o =
    ap (λ (b : Bool). cond b (option_map (λ (arrival : Arrival). record { clock = clock; publication = k; arrival = arrival }) asked) o) (ne_eqb v w other)
begun-other w (Stamps given) other o = ap (λ (b : Bool). cond b None o) (ne_eqb given.worker w other)

seen-nothing : (w : ℕ) (other : List LifeDone) → AllByRecursion (λ (done : LifeDone). worker_of done.deed ≡ w → ⊥) other → AllByRecursion (λ (done : LifeDone). (n : ℕ) → seen_by w done.deed n ≡ n) other
seen-nothing w [] none = tt
seen-nothing w (done ∷ other) none = (seen-other w done.deed none.0, seen-nothing w other none.1)

begun-nothing : (w : ℕ) (other : List LifeDone) → AllByRecursion (λ (done : LifeDone). worker_of done.deed ≡ w → ⊥) other → AllByRecursion (λ (done : LifeDone). (o : Option Begun) → begun_by w done.deed o ≡ o) other
begun-nothing w [] none = tt
begun-nothing w (done ∷ other) none = (begun-other w done.deed none.0, begun-nothing w other none.1)

seen-part : (w : ℕ) (one other all : List LifeDone) → IsMerge one other all → AllByRecursion (λ (done : LifeDone). worker_of done.deed ≡ w → ⊥) other → seen_in w all ≡ seen_in w one
seen-part w one other all is none = seen-left w all ∙ part-left (seen_by w) 0 one other all is (seen-nothing w other none) ∙ sym (seen-left w one)

begun-part : (w : ℕ) (one other all : List LifeDone) → IsMerge one other all → AllByRecursion (λ (done : LifeDone). worker_of done.deed ≡ w → ⊥) other → begun_in w all ≡ begun_in w one
begun-part w one other all is none = begun-left w all ∙ part-left (begun_by w) None one other all is (begun-nothing w other none) ∙ sym (begun-left w one)

-- ---- the workers together

module _ (config : Configuration) (moments : List Moment) (published : List FusedSpan) where
  abbrev Own : List LifeDone → LifeDone → Type 0
  Own past done = IsOwn config moments published past done.at done.deed

  own-carries : (one other all : List LifeDone) (at : ℕ) (deed : Deed Act Gives) → IsMerge one other all → AllByRecursion (λ (done : LifeDone). worker_of done.deed ≡ worker_of deed → ⊥) other
      → IsOwn config moments published one at deed → IsOwn config moments published all at deed
  own-carries one other all at (Does (Happens h)) is none own = absurd own
  own-carries one other all at (Does (Reads w clock k asked)) is none own =
      (own.0, own.1, own.2, own.3, subst (λ (n : ℕ). n ≤ k) (sym (seen-part w one other all is none)) own.4, own.5)
  own-carries one other all at (Stamps given) is none own =
      let (known, (begun, waits, latest, floor)) = own in
      (known, (begun, begun-part given.worker one other all is none ∙ waits, latest, floor))

  each-own : (past : List LifeDone) → AreOwn config moments published past → HoldOfEach worker_of Own past
  each-own [] own = tt
  each-own (done ∷ past) own = (own.0, each-own past own.1)

  numbered : (w : ℕ) (workers : List (List LifeDone)) → AreOfWorkers config moments published w workers → AreNumbered worker_of Own w workers
  numbered w [] are = tt
  numbered w (one ∷ workers) are = (are.0, each-own one are.1, numbered (suc w) workers are.2)

  workers-own : (workers : List (List LifeDone)) (all : List LifeDone) → IsMergeOf workers all → AreOfWorkers config moments published 0 workers → HoldOfEach worker_of Own all
  workers-own workers all is are =
      (all-hold worker_of Own (λ one other every done merged none own. own-carries one other every done.at done.deed merged none own) 0 workers all is (numbered 0 workers are)).0

-- ---- one list

module _ (config : Configuration) (m number : ℕ) (start : Start) (moments : List Moment) (published : List FusedSpan) where
  -- what is known of a thing that a daemon did
  record IsOfDaemon (done : LifeDone) : Type 0 where
    pub happening : Happening
    pub is : done.deed ≡ Does (Happens happening)
    pub named : AreOf config.sources (step_of happening)
    pub fits : IsForward 0 happening
    pub among : AllByRecursion (λ (moment : Moment). IsAmong moment moments) (moment_of done.at happening)

  -- what is not yet published is fused later than all of these
  abbrev Ahead : List FusedSpan → List LifeDone → Type 0
  Ahead some left = (k : ℕ) → length some < k → k ≤ length published
      → (made : ℕ) × IsAmong (record { clock = (publication_at published k).clock; time = made }) moments × AllByRecursion (λ (earlier : LifeDone). earlier.at < made) left

  seam : (some rest : List FusedSpan) (p : FusedSpan) (k : ℕ) → k ≡ length some + 1 → publication_at (some ++ p ∷ rest) k ≡ p
  seam some rest p k is =
      let place : k - 1 ≡ length some = omega arith in
      ap (λ (n : ℕ). slice_index_or (some ++ p ∷ rest) n no_publication) place ∙ get_or-append_seam some p rest no_publication

  in_part : (some rest : List FusedSpan) (k : ℕ) → 0 < k → k ≤ length some → publication_at (some ++ rest) k ≡ publication_at some k
  in_part some rest k first made = get_or-append some rest no_publication (k - 1) (omega arith)

  -- one more publication was ahead
  ahead-more : (some rest : List FusedSpan) (p : FusedSpan) (at : ℕ) (left : List LifeDone) → published ≡ (some ++ p ∷ []) ++ rest → IsAmong (record { clock = p.clock; time = at }) moments
      → AllByRecursion (λ (earlier : LifeDone). earlier.at < at) left → Ahead (some ++ p ∷ []) left → Ahead some left
  ahead-more some rest p at left are among below ahead = λ k more within. by_place k within (leb_tells k (length some + 1)) more
    where
      by_place : (k : ℕ) → k ≤ length published → ((leb k (length some + 1) ≡ true) × (k ≤ length some + 1)) ⊎ ((leb k (length some + 1) ≡ false) × (length some + 1 < k)) → length some < k
          → (made : ℕ) × IsAmong (record { clock = (publication_at published k).clock; time = made }) moments × AllByRecursion (λ (earlier : LifeDone). earlier.at < made) left
      by_place k within (inl (e, less)) more =
          let here : publication_at published k ≡ p = ap (λ (l : List FusedSpan). publication_at l k) (are ∙ append_assoc some (p ∷ []) rest) ∙ seam some rest p k (omega arith) in
          (at, subst (λ (q : FusedSpan). IsAmong (record { clock = q.clock; time = at }) moments) (sym here) among, below)
      by_place k within (inr (e, beyond)) more = ahead k (omega (arith, length-append some (p ∷ []))) within

  -- the commit that waits, with the reading that was taken for it
  abbrev taken : Begun → Waiting
  taken begun = record { reading = reading_at config.drift (publication_at published begun.publication) begun.clock; arrival = begun.arrival }

  grown-before : (kept after : Kept) (clock : ℕ) (rest : List FusedSpan) → Grows clock kept after → published ≡ after.published ++ rest → (more : List FusedSpan) × (published ≡ kept.published ++ more)
  grown-before kept after clock rest (inl same) are = (rest, are ∙ ap (λ (l : List FusedSpan). l ++ rest) same)
  grown-before kept after clock rest (inr (p, at_clock, grown)) are = (p ∷ rest, are ∙ ap (λ (l : List FusedSpan). l ++ rest) grown ∙ append_assoc kept.published (p ∷ []) rest)

  grown-ahead : (kept after : Kept) (clock at : ℕ) (left : List LifeDone) (rest : List FusedSpan) → Grows clock kept after → published ≡ after.published ++ rest → IsAmong (record { clock = clock; time = at }) moments
      → AllByRecursion (λ (earlier : LifeDone). earlier.at < at) left → Ahead after.published left → Ahead kept.published left
  grown-ahead kept after clock at left rest (inl same) are among below ahead = subst (λ (l : List FusedSpan). Ahead l left) same ahead
  grown-ahead kept after clock at left rest (inr (p, at_clock, grown)) are among below ahead =
      ahead-more kept.published rest p at left (are ∙ ap (λ (l : List FusedSpan). l ++ rest) grown)
      (subst (λ (c : ℕ). IsAmong (record { clock = c; time = at }) moments) (sym at_clock) among) below
      (subst (λ (l : List FusedSpan). Ahead l left) grown ahead)

  -- what was published before something that was done begins what was published after it
  before-deed : (at : ℕ) (deed : Deed Act Gives) (all : List LifeDone) (rest : List FusedSpan) → published ≡ published_in config m number (record { at = at; deed = deed } ∷ all) ++ rest
      → (more : List FusedSpan) × (published ≡ published_in config m number all ++ more)
  before-deed at (Does (Happens (telling.Does step))) all rest are =
      let kept : Kept = after_steps (new_kept config m number) (steps_told (timeline_in all)) in
      grown-before kept (after_step kept step) (clock_of_step step) rest (step-grows kept step) are
  before-deed at (Does (Happens (telling.Answers source nonce span))) all rest are = (rest, are)
  before-deed at (Does (Reads w clock k asked)) all rest are = (rest, are)
  before-deed at (Stamps given) all rest are = (rest, are)

  read-waits : (w v clock k : ℕ) (asked : Option Arrival) (all : List LifeDone) (rest : List FusedSpan) (b : Bool) → published ≡ published_in config m number all ++ rest → 0 < k → k ≤ length (published_in config m number all)
      → waits_in config m number w all ≡ option_map taken (begun_in w all)
      → cond b (option_map (λ (arrival : Arrival). record { reading = reading_in config m number all clock k; arrival = arrival }) asked) (waits_in config m number w all)
      ≡ option_map taken (cond b (option_map (λ (arrival : Arrival). record { clock = clock; publication = k; arrival = arrival }) asked) (begun_in w all))
  read-waits w v clock k None all rest true are first made before = refl
  read-waits w v clock k (Some arrival) all rest true are first made before =
      ap (λ (p : FusedSpan). Some (record { reading = reading_at config.drift p clock; arrival = arrival }))
      (sym (ap (λ (l : List FusedSpan). publication_at l k) are ∙ in_part (published_in config m number all) rest k first made))
  read-waits w v clock k asked all rest false are first made before = before

  stamp-waits : (w : ℕ) (all : List LifeDone) (b : Bool) → waits_in config m number w all ≡ option_map taken (begun_in w all)
      → cond b None (waits_in config m number w all) ≡ option_map taken (cond b None (begun_in w all))
  stamp-waits w all true before = refl
  stamp-waits w all false before = before

  deed-waits : (w at : ℕ) (deed : Deed Act Gives) (all : List LifeDone) (rest : List FusedSpan) → published ≡ published_in config m number all ++ rest → IsNext config m number start.clock all deed
      → waits_in config m number w all ≡ option_map taken (begun_in w all)
      → waits_in config m number w (record { at = at; deed = deed } ∷ all) ≡ option_map taken (begun_by w deed (begun_in w all))
  deed-waits w at (Does (Happens h)) all rest are can before = before
  deed-waits w at (Does (Reads v clock k asked)) all rest are can before = read-waits w v clock k asked all rest (eqb v w) are can.3 can.4 before
  deed-waits w at (Stamps given) all rest are can before = stamp-waits w all (eqb given.worker w) before

  waits-begun : (w : ℕ) (all : List LifeDone) (rest : List FusedSpan) → published ≡ published_in config m number all ++ rest → CanBe config m number start all → waits_in config m number w all ≡ option_map taken (begun_in w all)
  waits-begun w [] rest are can = refl
  waits-begun w (done ∷ all) rest are can =
      let (more, were) = before-deed done.at done.deed all rest are in
      deed-waits w done.at done.deed all more were can.2 (waits-begun w all more were can.3)

  -- ---- one more thing

  time-by : (at : ℕ) (all : List LifeDone) → AreInOrder at all → start.at ≤ at → time_in start.at all ≤ at
  time-by at [] order since = since
  time-by at (done ∷ all) order since = order.0

  seen-daemon : (w : ℕ) (daemon : List LifeDone) → AllByRecursion IsOfDaemon daemon → AllByRecursion (λ (done : LifeDone). (n : ℕ) → seen_by w done.deed n ≡ n) daemon
  seen-daemon w [] of = tt
  seen-daemon w (done ∷ daemon) of = (λ n. ap (λ (d : Deed Act Gives). seen_by w d n) of.0.is, seen-daemon w daemon of.1)

  begun-daemon : (w : ℕ) (daemon : List LifeDone) → AllByRecursion IsOfDaemon daemon → AllByRecursion (λ (done : LifeDone). (o : Option Begun) → begun_by w done.deed o ≡ o) daemon
  begun-daemon w [] of = tt
  begun-daemon w (done ∷ daemon) of = (λ o. ap (λ (d : Deed Act Gives). begun_by w d o) of.0.is, begun-daemon w daemon of.1)

  forward-by : (shown : ℕ) (h : Happening) → IsForward 0 h → shown ≤ shown_by (Does (Happens h)) shown → IsForward shown h
  forward-by shown (telling.Does step) fits on = (on, fits.1)
  forward-by shown (telling.Answers source nonce span) fits on = tt

  -- what was ahead before something that the daemon did
  ahead-daemon : (at : ℕ) (h : Happening) (all left : List LifeDone) (rest : List FusedSpan) → published ≡ published_in config m number (record { at = at; deed = Does (Happens h) } ∷ all) ++ rest
      → AllByRecursion (λ (moment : Moment). IsAmong moment moments) (moment_of at h) → AllByRecursion (λ (earlier : LifeDone). earlier.at < at) left
      → Ahead (published_in config m number (record { at = at; deed = Does (Happens h) } ∷ all)) left → Ahead (published_in config m number all) left
  ahead-daemon at (telling.Answers source nonce span) all left rest are among below ahead = ahead
  ahead-daemon at (telling.Does step) all left rest are among below ahead =
      let kept : Kept = after_steps (new_kept config m number) (steps_told (timeline_in all)) in
      grown-ahead kept (after_step kept step) (clock_of_step step) at left rest (step-grows kept step) are among.0 below ahead

  -- a worker's next thing
  own-next : (at : ℕ) (deed : Deed Act Gives) (all daemon left : List LifeDone) (rest : List FusedSpan) → IsMergeBefore daemon left all → AllByRecursion IsOfDaemon daemon → IsOwn config moments published left at deed
      → shown_in start.clock all ≤ shown_by deed (shown_in start.clock all) → published ≡ published_in config m number all ++ rest → Ahead (published_in config m number all) (record { at = at; deed = deed } ∷ left)
      → CanBe config m number start all → IsNext config m number start.clock all deed
  own-next at (Does (Happens h)) all daemon left rest is of own on are ahead can = absurd own
  own-next at (Does (Reads w clock k asked)) all daemon left rest is of own on are ahead can =
      let merged : IsMerge left daemon all = merge-swap daemon left all (before-merge daemon left all is) in
      let seen : seen_in w all ≡ seen_in w left = seen-left w all ∙ part-left (seen_by w) 0 left daemon all merged (seen-daemon w daemon of) ∙ sym (seen-left w left) in
      (own.0, on, own.1, own.2, made (leb_tells k (length (published_in config m number all))), subst (λ (n : ℕ). n ≤ k) (sym seen) own.4)
    where
      made : ((leb k (length (published_in config m number all)) ≡ true) × (k ≤ length (published_in config m number all)))
          ⊎ ((leb k (length (published_in config m number all)) ≡ false) × (length (published_in config m number all) < k)) → k ≤ length (published_in config m number all)
      made (inl (e, within)) = within
      made (inr (e, beyond)) =
          let (time, among, later) = ahead k beyond own.3 in
          absurd (omega (arith, own.5 time among, later.0))
  own-next at (Stamps given) all daemon left rest is of own on are ahead can =
      let (known, (begun, waits, latest, floor)) = own in
      let merged : IsMerge left daemon all = merge-swap daemon left all (before-merge daemon left all is) in
      let same : begun_in given.worker all ≡ begun_in given.worker left =
      begun-left given.worker all ∙ part-left (begun_by given.worker) None left daemon all merged (begun-daemon given.worker daemon of) ∙ sym (begun-left given.worker left) in
      (known, (taken begun, waits-begun given.worker all rest are can ∙ ap (option_map taken) (same ∙ waits), latest, floor))

  -- ---- all of it

  can-all : (all daemon left : List LifeDone) (top : ℕ) (rest : List FusedSpan) → IsMergeBefore daemon left all → AllByRecursion IsOfDaemon daemon → HoldOfEach worker_of (Own config moments published) left
      → AreInOrder top all → top ≤ max_time → AreSince start.at all → ClockRises start.clock all → published ≡ published_in config m number all ++ rest → Ahead (published_in config m number all) left → CanBe config m number start all
  can-all [] daemon left top rest is of own order in_time since rises are ahead = tt
  can-all (x ∷ all) daemon left top rest (inl (others, here, below, is)) of own order in_time since rises are ahead =
      let mine : AllByRecursion IsOfDaemon (x ∷ others) = subst (AllByRecursion IsOfDaemon) here of in
      let known = mine.0 in
      let by : x.at ≤ top = order.0 in
      let were : published ≡ published_in config m number (record { at = x.at; deed = Does (Happens known.happening) } ∷ all) ++ rest =
      are ∙ ap (λ (d : Deed Act Gives). published_in config m number (record { at = x.at; deed = d } ∷ all) ++ rest) known.is in
      let still : Ahead (published_in config m number (record { at = x.at; deed = Does (Happens known.happening) } ∷ all)) left =
      subst (λ (d : Deed Act Gives). Ahead (published_in config m number (record { at = x.at; deed = d } ∷ all)) left) known.is ahead in
      let (more, before) = before-deed x.at (Does (Happens known.happening)) all rest were in
      let shown : shown_in start.clock all ≤ shown_by (Does (Happens known.happening)) (shown_in start.clock all) =
      subst (λ (d : Deed Act Gives). shown_in start.clock all ≤ shown_by d (shown_in start.clock all)) known.is rises.0 in (
        time-by x.at all order.1 since.0,
        omega arith,
        subst (IsNext config m number start.clock all) (sym known.is) (known.named, forward-by (shown_in start.clock all) known.happening known.fits shown),
        can-all all others left x.at more is mine.1 own order.1 (omega arith) since.1 rises.1 before (ahead-daemon x.at known.happening all left rest were known.among below still),
      )
  can-all (x ∷ all) daemon left top rest (inr (others, here, is)) of own order in_time since rises are ahead =
      let mine : HoldOfEach worker_of (Own config moments published) (x ∷ others) = subst (HoldOfEach worker_of (Own config moments published)) here own in
      let by : x.at ≤ top = order.0 in
      let now : Ahead (published_in config m number (x ∷ all)) (x ∷ others) = subst (Ahead (published_in config m number (x ∷ all))) here ahead in
      let same : published_in config m number (x ∷ all) ≡ published_in config m number all = own-published x.at x.deed all others mine.0 in
      let still : Ahead (published_in config m number all) (x ∷ others) = subst (λ (l : List FusedSpan). Ahead l (x ∷ others)) same now in
      let before : published ≡ published_in config m number all ++ rest = are ∙ ap (λ (l : List FusedSpan). l ++ rest) same in
      let later : Ahead (published_in config m number all) others = λ k beyond within. let (made, among, times) = still k beyond within in (made, among, times.1) in
      let can = can-all all daemon others x.at rest is of mine.1 order.1 (omega arith) since.1 rises.1 before later in (
        time-by x.at all order.1 since.0,
        omega arith,
        own-next x.at x.deed all daemon others rest is of mine.0 rises.0 before still can,
        can,
      )
    where
      own-published : (at : ℕ) (deed : Deed Act Gives) (all left : List LifeDone) → IsOwn config moments published left at deed → published_in config m number (record { at = at; deed = deed } ∷ all) ≡ published_in config m number all
      own-published at (Does (Happens h)) all left own = absurd own
      own-published at (Does (Reads w clock k asked)) all left own = refl
      own-published at (Stamps given) all left own = refl

-- ---- the list of a daemon

own-named : (n : ℕ) (h : Happening) (steps : List Step) → AreOf n (step_of h ++ steps) → AreOf n (step_of h) × AreOf n steps
own-named n (telling.Does step) steps named = ((named.0, tt), named.1)
own-named n (telling.Answers source nonce span) steps named = (tt, named)

fits-by : (shown : ℕ) (h : Happening) → IsForward shown h → IsForward 0 h
fits-by shown (telling.Does step) on = (omega arith, on.1)
fits-by shown (telling.Answers source nonce span) on = tt

among-here : (moments : List Moment) (at : ℕ) (h : Happening) (later : List Moment) → ((moment : Moment) → IsAmong moment (moment_of at h ++ later) → IsAmong moment moments) → AllByRecursion (λ (moment : Moment). IsAmong moment moments) (moment_of at h)
among-here moments at (telling.Does step) later within = (within (record { clock = clock_of_step step; time = at }) (inl refl), tt)
among-here moments at (telling.Answers source nonce span) later within = tt

among-later : (at : ℕ) (h : Happening) (later : List Moment) (moment : Moment) → IsAmong moment later → IsAmong moment (moment_of at h ++ later)
among-later at (telling.Does step) later moment is = inr is
among-later at (telling.Answers source nonce span) later moment is = is

among-left : (moment : Moment) (xs ys : List Moment) → IsAmong moment xs → IsAmong moment (xs ++ ys)
among-left moment [] ys is = absurd is
among-left moment (x ∷ xs) ys (inl same) = inl same
among-left moment (x ∷ xs) ys (inr later) = inr (among-left moment xs ys later)

daemon-in_order : (begun shown to : ℕ) (timeline : List Timed) → IsTimeline begun shown timeline → last_time begun timeline ≤ to → AreInOrder to (daemon_list timeline)
daemon-in_order begun shown to [] is by = tt
daemon-in_order begun shown to (timed ∷ timeline) is by = (by, daemon-in_order begun shown timed.at timeline is.3 is.0)

last-since : (begun shown : ℕ) (timeline : List Timed) → IsTimeline begun shown timeline → begun ≤ last_time begun timeline
last-since begun shown [] is = omega arith
last-since begun shown (timed ∷ timeline) is = let before = last-since begun shown timeline is.3 in omega (arith, before, is.0)

daemon-since : (begun shown : ℕ) (timeline : List Timed) → IsTimeline begun shown timeline → AreSince begun (daemon_list timeline)
daemon-since begun shown [] is = tt
daemon-since begun shown (timed ∷ timeline) is = (last-since begun shown (timed ∷ timeline) is, daemon-since begun shown timeline is.3)

daemon-stamps : (timeline : List Timed) → stamps_in (daemon_list timeline) ≡ []
daemon-stamps [] = refl
daemon-stamps (timed ∷ timeline) = daemon-stamps timeline

timeline-list : (timeline : List Timed) → timeline_in (daemon_list timeline) ≡ timeline
timeline-list [] = refl
timeline-list (timed ∷ timeline) = ap (λ (l : List Timed). timed ∷ l) (timeline-list timeline)

pub entries-stamps : (past : List LifeDone) → entries_in past ≡ entries_in (stamps_in past)
entries-stamps [] = refl
entries-stamps (done ∷ past) = by_deed (entries-stamps past) done.deed refl
  where
    by_deed : entries_in past ≡ entries_in (stamps_in past) → (deed : Deed Act Gives) → done.deed ≡ deed → if_given deed ++ entries_in past ≡ entries_in (if_stamp done deed ++ stamps_in past)
    by_deed rest (Does act) e = rest
    by_deed rest (Stamps given) e = ap (λ (l : List Stamping). given.entry ∷ l) rest ∙ ap (λ (d : Deed Act Gives). if_given d ++ entries_in (stamps_in past)) (sym e)

last-in_time : (begun shown : ℕ) (timeline : List Timed) → begun ≤ max_time → IsTimeline begun shown timeline → last_time begun timeline ≤ max_time
last-in_time begun shown [] fits is = fits
last-in_time begun shown (timed ∷ timeline) fits is = is.1

module _ (config : Configuration) (m number : ℕ) (start : Start) (moments : List Moment) (published : List FusedSpan) where
  daemon-of : (begun shown : ℕ) (timeline : List Timed) → AreOf config.sources (steps_told timeline) → IsTimeline begun shown timeline → ((moment : Moment) → IsAmong moment (moments_told timeline) → IsAmong moment moments)
      → AllByRecursion (IsOfDaemon config m number start moments published) (daemon_list timeline)
  daemon-of begun shown [] named is within = tt
  daemon-of begun shown (timed ∷ timeline) named is within =
      let (here, later) = own-named config.sources timed.happening (steps_told timeline) named in (
        record {
          happening = timed.happening;
          is = refl;
          named = here;
          fits = fits-by (last_shown shown timeline) timed.happening is.2;
          among = among-here moments timed.at timed.happening (moments_told timeline) within;
        },
        daemon-of begun shown timeline later is.3 (λ moment among. within moment (among-later timed.at timed.happening (moments_told timeline) moment among)),
      )

  no-happening : (at : ℕ) (deed : Deed Act Gives) (left : List LifeDone) → IsOwn config moments published left at deed → if_happens at deed ≡ []
  no-happening at (Does (Happens h)) left own = absurd own
  no-happening at (Does (Reads w clock k asked)) left own = refl
  no-happening at (Stamps given) left own = refl

  timeline-merge : (daemon left all : List LifeDone) → IsMerge daemon left all → HoldOfEach worker_of (Own config moments published) left → timeline_in all ≡ timeline_in daemon
  timeline-merge daemon left [] is own = ap timeline_in (sym is.0)
  timeline-merge daemon left (x ∷ all) (inl (rest, here, is)) own =
      ap (λ (l : List Timed). if_happens x.at x.deed ++ l) (timeline-merge rest left all is own) ∙ ap timeline_in (sym here)
  timeline-merge daemon left (x ∷ all) (inr (rest, here, is)) own =
      let mine : HoldOfEach worker_of (Own config moments published) (x ∷ rest) = subst (HoldOfEach worker_of (Own config moments published)) here own in
      ap (λ (l : List Timed). l ++ timeline_in all) (no-happening x.at x.deed rest mine.0) ∙ timeline-merge daemon rest all is mine.1

-- ---- all threads

pub threads-list : (config : Configuration) (m number : ℕ) (start : Start) (timeline : List Timed) (workers : List (List LifeDone)) (seats : ℕ) (history : List LifeDone) → start.at ≤ max_time → AreThreads config m number start timeline workers seats history
    → (all : List LifeDone) × IsOneListWith max_time (daemon_list timeline) workers history all
threads-list config m number start timeline workers seats history fits threads =
    life-merge max_time max_time (daemon_list timeline) workers history
    (daemon-in_order start.at start.clock max_time timeline threads.forward (last-in_time start.at start.clock timeline fits threads.forward))
    (daemon-stamps timeline) threads.in_order threads.stamps_in_order threads.stamps

-- what happened between the daemon and its sources is the timeline
pub threads-told : (config : Configuration) (m number : ℕ) (start : Start) (timeline : List Timed) (workers : List (List LifeDone)) (seats : ℕ) (history all : List LifeDone)
    → AreThreads config m number start timeline workers seats history → IsOneListWith max_time (daemon_list timeline) workers history all → timeline_in all ≡ timeline
threads-told config m number start timeline workers seats history all threads one =
    let moments = moments_in start timeline in
    let published = (after_steps (new_kept config m number) (steps_told timeline)).published in
    let own = workers-own config moments published workers one.of_workers one.workers_are threads.own in
    let merged = before-merge (daemon_list timeline) one.of_workers all one.merge in
    timeline-merge config m number start moments published (daemon_list timeline) one.of_workers all merged own ∙ timeline-list timeline

pub threads-can : (config : Configuration) (m number : ℕ) (start : Start) (timeline : List Timed) (workers : List (List LifeDone)) (seats : ℕ) (history all : List LifeDone)
    → AreThreads config m number start timeline workers seats history → IsOneListWith max_time (daemon_list timeline) workers history all → ClockRises start.clock all
    → CanBe config m number start all × IsLegalRun seats (entries_in all)
threads-can config m number start timeline workers seats history all threads one rises =
    let moments = moments_in start timeline in
    let published = (after_steps (new_kept config m number) (steps_told timeline)).published in
    let own = workers-own config moments published workers one.of_workers one.workers_are threads.own in
    let merged = before-merge (daemon_list timeline) one.of_workers all one.merge in
    let told : timeline_in all ≡ timeline = threads-told config m number start timeline workers seats history all threads one in
    let same : published ≡ published_in config m number all = ap (λ (t : List Timed). (after_steps (new_kept config m number) (steps_told t)).published) (sym told) in
    let since = all-merge (λ (done : LifeDone). start.at ≤ done.at) (daemon_list timeline) one.of_workers all merged (daemon-since start.at start.clock timeline threads.forward) (all-workers (λ (done : LifeDone). start.at ≤ done.at) workers one.of_workers one.workers_are threads.since) in
    let entries : entries_in all ≡ entries_in history = entries-stamps all ∙ ap entries_in one.stamps in (
      can-all config m number start moments published all (daemon_list timeline) one.of_workers max_time [] one.merge
          (daemon-of config m number start moments published start.at start.clock timeline threads.named threads.forward (λ moment among. among-left moment (moments_told timeline) (record { clock = start.clock; time = start.at } ∷ []) among))
          own one.in_order (omega arith) since rises (same ∙ sym (append-nil (published_in config m number all)))
          (λ k beyond within. absurd (omega (arith, ap length same, beyond, within))),
      subst (IsLegalRun seats) (sym entries) threads.legal,
    )

-- ---- readings

module _ (config : Configuration) (m number : ℕ) (start : Start) (moments : List Moment) (published : List FusedSpan) where
  read-as : (deed : Deed Act Gives) (past : List LifeDone) (rest : List FusedSpan) → IsNext config m number start.clock past deed → published ≡ published_in config m number past ++ rest → ReadsAs config m number published past deed
  read-as (Does (Happens h)) past rest can are = tt
  read-as (Does (Reads w clock k asked)) past rest can are =
      ap (λ (p : FusedSpan). reading_at config.drift p clock)
      (sym (ap (λ (l : List FusedSpan). publication_at l k) are ∙ in_part config m number start moments published (published_in config m number past) rest k can.3 can.4))
  read-as (Stamps given) past rest can are = tt

  pub all-read-as : (all : List LifeDone) (rest : List FusedSpan) → CanBe config m number start all → published ≡ published_in config m number all ++ rest → AllReadAs config m number published all
  all-read-as [] rest can are = tt
  all-read-as (done ∷ past) rest can are =
      let (more, before) = before-deed config m number start moments published done.at done.deed past rest are in
      (read-as done.deed past more can.2 before, all-read-as past more can.3 before)
