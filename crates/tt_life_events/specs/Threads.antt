-- What each thread of a machine did by itself in one life, in true time. Each list has the newest first.
use Rattle.std.specs.Prelude.{◌≡◌, ℕ, suc, ◌<◌, ◌≤◌, ◌==◌, if◌then◌else◌, List, [], ◌∷◌, length, map, Option, Some, None}
use Rattle.std.specs.List.{AllByRecursion}
use Rattle.std.specs.Option.{option_map}
use Rattle.tt_span.specs.Time.{max_time}
use Rattle.tt_span.specs.Drift.{Moment}
use Rattle.tt_daemon.specs.Config.{Configuration}
use Rattle.tt_publish.specs.declared.readings.FusedSpan.{FusedSpan}
use Rattle.tt_stamp.specs.Stamping.{IsLegalRun}
use Rattle.tt_world.specs.Publications.{publication_at, reading_at}
use Rattle.tt_world.specs.declared.workers.Arrival.{Arrival}
use Rattle.tt_consistency.specs.Assumed.{moments_in}
use Rattle.tt_consistency.specs.Reads.{IsNoEarlier}
use Rattle.tt_consistency.specs.Running.{Start}
use Rattle.tt_consistency.specs.Steps.{after_steps, new_kept}
use Rattle.tt_consistency.specs.Timeline.{AreOf, IsTimeline, Timed, steps_told}
use Rattle.tt_life_events.specs.Acts.{Act, Gives, Happens, LifeDone, Reads, entries_in, seen_in, shown_by, shown_in}
use Rattle.tt_life_events.specs.Merging.{AreInOrder, Deed, Does, IsMergeOf, Stamps, stamps_in}

-- ---- the daemon

-- what happened between a daemon and its sources, as a list of what is done
abbrev pub daemon_list : List Timed → List LifeDone
daemon_list [] = []
daemon_list (timed ∷ timeline) = record { at = timed.at; deed = Does (Happens timed.happening) } ∷ daemon_list timeline

-- ---- a worker

-- a commit that waits for its stamp: its worker read for it at this clock reading from this publication
pub record Begun : Type 0 where
  pub clock : ℕ
  pub publication : ℕ
  pub arrival : Arrival

-- the commit of a worker that waits after what is done, where this one waited before
abbrev pub begun_by : ℕ → Deed Act Gives → Option Begun → Option Begun
begun_by w (Does (Reads worker clock publication asked)) before =
    if worker == w then option_map (λ arrival. record { clock = clock; publication = publication; arrival = arrival }) asked else before
begun_by w (Stamps given) before = if given.worker == w then None else before
begun_by w (Does (Happens happening)) before = before

-- the commit of a worker that waits for its stamp, if one does
abbrev pub begun_in : ℕ → List LifeDone → Option Begun
begun_in w [] = None
begun_in w (done ∷ past) = begun_by w done.deed (begun_in w past)

-- the worker that does something; what happens between the daemon and its sources counts as that of worker 0
abbrev pub worker_of : Deed Act Gives → ℕ
worker_of (Does (Reads worker clock publication asked)) = worker
worker_of (Stamps given) = given.worker
worker_of (Does (Happens happening)) = 0

-- where the daemon read its clock at these moments and has published this in all
module _ (config : Configuration) (moments : List Moment) (published : List FusedSpan) where
  -- a worker does this at a true time, after what it did before: it reads from a publication that was made by then, and that is no older than its last; or it stamps the commit that waits, by the reading that was taken for it
  abbrev pub IsOwn : List LifeDone → ℕ → Deed Act Gives → Type 0
  IsOwn past at (Does (Happens happening)) = ⊥
  IsOwn past at (Does (Reads worker clock publication asked)) =
      (worker < config.workers) × (clock ≤ max_time) × (0 < publication) × (publication ≤ length published)
      × (seen_in worker past ≤ publication) × IsNoEarlier moments (publication_at published publication) at
  IsOwn past at (Stamps given) =
      (given.worker < config.workers)
      × ((begun : Begun) × (begun_in given.worker past ≡ Some begun)
      × (given.entry.latest ≡ (reading_at config.drift (publication_at published begun.publication) begun.clock).hi) × (given.entry.floor ≡ begun.arrival.floor))

  -- the same of each thing that it did
  abbrev pub AreOwn : List LifeDone → Type 0
  AreOwn [] = Unit {0}
  AreOwn (done ∷ past) = IsOwn past done.at done.deed × AreOwn past

  -- these are the lists of workers with these numbers, from this one on
  abbrev pub AreOfWorkers : ℕ → List (List LifeDone) → Type 0
  AreOfWorkers w [] = Unit {0}
  AreOfWorkers w (one ∷ workers) = AllByRecursion (λ (done : LifeDone). worker_of done.deed ≡ w) one × AreOwn one × AreOfWorkers (suc w) workers

-- ---- all of them

-- what is done is no earlier than this
abbrev pub AreSince : ℕ → List LifeDone → Type 0
AreSince begun past = AllByRecursion (λ (done : LifeDone). begun ≤ done.at) past

-- the threads of a machine in one life: the timeline of its daemon and the lists of its workers, in whose orders no true time falls, and the history of their sequencer, along which none falls
pub record AreThreads (config : Configuration) (m number : ℕ) (start : Start) (timeline : List Timed) (workers : List (List LifeDone)) (seats : ℕ) (history : List LifeDone) : Type 0 where
  pub forward : IsTimeline start.at start.clock timeline
  pub named : AreOf config.sources (steps_told timeline)
  pub own : AreOfWorkers config (moments_in start timeline) (after_steps (new_kept config m number) (steps_told timeline)).published 0 workers
  pub since : AllByRecursion (AreSince start.at) workers
  pub in_order : AllByRecursion (AreInOrder max_time) workers
  pub stamps_in_order : AreInOrder max_time history
  pub stamps : IsMergeOf (map stamps_in workers) history
  pub legal : IsLegalRun seats (entries_in history)

-- in a list no clock reading is below one before it, or below this one
abbrev pub ClockRises : ℕ → List LifeDone → Type 0
ClockRises shown [] = Unit {0}
ClockRises shown (done ∷ past) = (shown_in shown past ≤ shown_by done.deed (shown_in shown past)) × ClockRises shown past
