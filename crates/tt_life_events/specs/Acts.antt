-- What the threads of a machine did in one life, as one list, and the events of the model that it is. Each list has the newest first.
use Rattle.std.specs.Prelude.{◌≡◌, ℕ, ◌<◌, ◌≤◌, ◌==◌, if◌then◌else◌, List, [], ◌∷◌, ◌++◌, length, Option, Some, None}
use Rattle.std.specs.Option.{option_map}
use Rattle.tt_span.specs.Time.{max_time}
use Rattle.tt_span.specs.Interval.{Interval}
use Rattle.tt_span.specs.Drift.{Moment}
use Rattle.tt_daemon.specs.Config.{Configuration}
use Rattle.tt_publish.specs.declared.readings.FusedSpan.{FusedSpan}
use Rattle.tt_stamp.specs.Stamping.{stamps_of as stamps_alone}
use Rattle.tt_stamp.specs.declared.stampings.Stamping.{Stamping}
use Rattle.tt_world.specs.Bad.{accepted}
use Rattle.tt_world.specs.Commits.{stamps_of}
use Rattle.tt_world.specs.Config.{config_at}
use Rattle.tt_world.specs.Life.{Life, life_of, life_at}
use Rattle.tt_world.specs.Past.{moments_of}
use Rattle.tt_world.specs.Publications.{publication_at, publications_of, reading_at, seen_of}
use Rattle.tt_world.specs.Reply.{reply_of}
use Rattle.tt_world.specs.declared.events.Event.{Event}
use Rattle.tt_world.specs.declared.events.Action.TheVariants as action
use Rattle.tt_world.specs.declared.events.Reply.TheVariants as reply
use Rattle.tt_world.specs.declared.workers.Arrival.{Arrival}
use Rattle.tt_consistency.specs.Running.{Start}
use Rattle.tt_consistency.specs.Steps.{after_steps, new_kept, steps_in}
use Rattle.tt_consistency.specs.Timeline.{AreOf, Happening, IsForward, Timed, events_at, moment_of, shows_after, step_of, steps_told}
use Rattle.tt_life_events.specs.Merging.{Deed, Does, Done, Stamps}

-- ---- what is done

-- what the threads of a machine do besides giving stamps: the daemon makes a step or a source gives an answer; or a worker takes a reading, at a reading of its clock, from the publication of this number, for a commit that it was asked for, or for none
pub data Act : Type 0 where
  Happens : Happening → Act
  Reads : ℕ → ℕ → ℕ → Option Arrival → Act

-- a worker gives its commit a stamp, the one of this entry in the history of the sequencer
pub record Gives : Type 0 where
  pub worker : ℕ
  pub entry : Stamping

-- one of all the things that are done in a life
abbrev pub LifeDone : Type 0
LifeDone = Done Act Gives

-- ---- what a list says

-- what happens between the daemon and its sources in what is done
abbrev pub if_happens : ℕ → Deed Act Gives → List Timed
if_happens at (Does (Happens happening)) = record { at = at; happening = happening } ∷ []
if_happens at _ = []

-- the timeline of a list
abbrev pub timeline_in : List LifeDone → List Timed
timeline_in [] = []
timeline_in (done ∷ past) = if_happens done.at done.deed ++ timeline_in past

-- the entry of the history in what is done
abbrev pub if_given : Deed Act Gives → List Stamping
if_given (Stamps given) = given.entry ∷ []
if_given _ = []

-- the entries of the history in a list
abbrev pub entries_in : List LifeDone → List Stamping
entries_in [] = []
entries_in (done ∷ past) = if_given done.deed ++ entries_in past

-- what the clock shows after what is done
abbrev pub shown_by : Deed Act Gives → ℕ → ℕ
shown_by (Does (Happens happening)) shown = shows_after happening shown
shown_by (Does (Reads worker clock publication asked)) shown = clock
shown_by (Stamps given) shown = shown

-- what the clock showed last, or this where it was not read
abbrev pub shown_in : ℕ → List LifeDone → ℕ
shown_in shown [] = shown
shown_in shown (done ∷ past) = shown_by done.deed (shown_in shown past)

-- the true time of the last thing that was done, or this where nothing was
abbrev pub time_in : ℕ → List LifeDone → ℕ
time_in begun [] = begun
time_in begun (done ∷ past) = done.at

-- the moments at which the clock was read in what is done
abbrev pub if_moment : ℕ → Deed Act Gives → List Moment
if_moment at (Does (Happens happening)) = moment_of at happening
if_moment at (Does (Reads worker clock publication asked)) = record { clock = clock; time = at } ∷ []
if_moment at (Stamps given) = []

-- the moments at which the daemon and the workers read the clock
abbrev pub moments_in : List LifeDone → List Moment
moments_in [] = []
moments_in (done ∷ past) = if_moment done.at done.deed ++ moments_in past

-- the number of the last publication that a worker has read from, 0 where it has read from none
abbrev pub seen_by : ℕ → Deed Act Gives → ℕ → ℕ
seen_by w (Does (Reads worker clock publication asked)) seen = if worker == w then publication else seen
seen_by w _ seen = seen

abbrev pub seen_in : ℕ → List LifeDone → ℕ
seen_in w [] = 0
seen_in w (done ∷ past) = seen_by w done.deed (seen_in w past)

-- a commit that waits for its stamp, and the reading that its worker took for it
pub record Waiting : Type 0 where
  pub reading : Interval
  pub arrival : Arrival

-- in one life of a machine of this configuration
module _ (config : Configuration) (m number : ℕ) where
  -- what the daemon has published, the oldest first
  abbrev pub published_in : List LifeDone → List FusedSpan
  published_in past = (after_steps (new_kept config m number) (steps_told (timeline_in past))).published

  -- the reading from a publication at a clock reading
  abbrev pub reading_in : List LifeDone → ℕ → ℕ → Interval
  reading_in past clock publication = reading_at config.drift (publication_at (published_in past) publication) clock

  -- the commit of a worker that waits after what is done, where this one waited before: a reading for a commit begins it, a later reading or the stamp ends its waiting
  abbrev pub waits_by : ℕ → List LifeDone → Deed Act Gives → Option Waiting → Option Waiting
  waits_by w past (Does (Reads worker clock publication asked)) before =
      if worker == w then option_map (λ arrival. record { reading = reading_in past clock publication; arrival = arrival }) asked else before
  waits_by w past (Stamps given) before = if given.worker == w then None else before
  waits_by w past (Does (Happens happening)) before = before

  -- the commit of a worker that waits for its stamp, if one does
  abbrev pub waits_in : ℕ → List LifeDone → Option Waiting
  waits_in w [] = None
  waits_in w (done ∷ past) = waits_by w past done.deed (waits_in w past)

  -- ---- which lists can be

  -- this can be done next, where the clock showed this at the beginning: a step or an answer is as in a timeline; a reading is by a worker, at a clock reading that is no lower than the last, from a publication that was made and is no older than the worker's last; a stamp is for the commit of a worker that waits, by the reading that was taken for it
  abbrev pub IsNext : ℕ → List LifeDone → Deed Act Gives → Type 0
  IsNext shown past (Does (Happens happening)) = AreOf config.sources (step_of happening) × IsForward (shown_in shown past) happening
  IsNext shown past (Does (Reads worker clock publication asked)) =
      (worker < config.workers) × (shown_in shown past ≤ clock) × (clock ≤ max_time)
      × (0 < publication) × (publication ≤ length (published_in past)) × (seen_in worker past ≤ publication)
  IsNext shown past (Stamps given) =
      (given.worker < config.workers)
      × ((waiting : Waiting) × (waits_in given.worker past ≡ Some waiting) × (given.entry.latest ≡ waiting.reading.hi) × (given.entry.floor ≡ waiting.arrival.floor))

  -- each thing could be done next, and no true time falls, from the beginning on
  abbrev pub CanBe : Start → List LifeDone → Type 0
  CanBe start [] = Unit {0}
  CanBe start (done ∷ past) = (time_in start.at past ≤ done.at) × (done.at ≤ max_time) × IsNext start.clock past done.deed × CanBe start past

-- ---- its events

-- the event of a reading, behind that of the commit for which it is taken
abbrev pub reading_events : ℕ → ℕ → ℕ → ℕ → ℕ → Option Arrival → List Event
reading_events m at worker clock publication None = record { at = at; action = action.Read m worker clock publication } ∷ []
reading_events m at worker clock publication (Some arrival) =
    record { at = at; action = action.Read m worker clock publication } ∷ record { at = at; action = action.Arrive m worker arrival.id arrival.floor } ∷ []

-- the events of machine m in what is done at a true time after this past; a stamp comes behind a grant of its lease
abbrev pub events_by : List Event → ℕ → ℕ → Deed Act Gives → List Event
events_by past m at (Does (Happens happening)) = events_at past m at happening
events_by past m at (Does (Reads worker clock publication asked)) = reading_events m at worker clock publication asked
events_by past m at (Stamps given) =
    record { at = at; action = action.Stamp m given.worker } ∷ record { at = at; action = action.Lease m given.entry.lease } ∷ []

-- the events of machine m in a list, after the events of a base
abbrev pub events_in : List Event → ℕ → List LifeDone → List Event
events_in base m [] = []
events_in base m (done ∷ past) = events_by (events_in base m past ++ base) m done.at done.deed ++ events_in base m past

-- the event of a commit before its reading, if the reading is for one
abbrev pub asked_before : ℕ → ℕ → ℕ → Option Arrival → List Event
asked_before m at worker None = []
asked_before m at worker (Some arrival) = record { at = at; action = action.Arrive m worker arrival.id arrival.floor } ∷ []

-- ---- what the model says of them

-- in the life that begins no worker has read from a publication, and no stamp was given
pub record IsUnworked (config : Configuration) (base : List Event) (life : Life) : Type 0 where
  pub seen : (w : ℕ) → seen_of base life w ≡ 0
  pub stamps : stamps_of config base life ≡ []

module _ (configs : List Configuration) (m number : ℕ) where
  -- the model replies to a reading with the reading of the life, and to a stamp with the stamp of the life
  abbrev pub RepliesAs : List Event → List LifeDone → ℕ → Deed Act Gives → Type 0
  RepliesAs before past at (Does (Happens happening)) = Unit {0}
  RepliesAs before past at (Does (Reads worker clock publication asked)) =
      reply_of configs (asked_before m at worker asked ++ before) (record { at = at; action = action.Read m worker clock publication })
      ≡ reply.Read (reading_in (config_at configs m) m number past clock publication)
  RepliesAs before past at (Stamps given) =
      reply_of configs (record { at = at; action = action.Lease m given.entry.lease } ∷ before) (record { at = at; action = action.Stamp m given.worker })
      ≡ reply.Stamped given.entry.stamp

  -- so it does to each
  abbrev pub AllReplyAs : List Event → List LifeDone → Type 0
  AllReplyAs base [] = Unit {0}
  AllReplyAs base (done ∷ past) = RepliesAs (events_in base m past ++ base) past done.at done.deed × AllReplyAs base past

  -- the events of a list, after those of a base, are a run of machine m that does exactly what the list says: none is bad, the machine stays in its life, makes these steps, reads its clock at these moments, publishes this, gives these stamps, and replies to readings and stamps as the life did
  pub record IsRunOfAll (base : List Event) (all : List LifeDone) : Type 0 where
    pub good : accepted configs (events_in base m all ++ base) ≡ events_in base m all ++ base
    pub same_life : life_of (events_in base m all ++ base) m ≡ life_of base m
    pub steps_are : steps_in (events_in base m all ++ base) m ≡ steps_told (timeline_in all) ++ steps_in base m
    pub moments_are : moments_of (events_in base m all ++ base) (life_at base m) ≡ moments_in all ++ moments_of base (life_at base m)
    pub published : publications_of (config_at configs m) (events_in base m all ++ base) (life_at base m) ≡ published_in (config_at configs m) m number all
    pub stamps : stamps_of (config_at configs m) (events_in base m all ++ base) (life_at base m) ≡ stamps_alone (entries_in all)
    pub replies : AllReplyAs base all

-- ---- what the life says of them

-- where this was published in all, the oldest first: the reading that the model replies with is the one from the publication of its number
module _ (config : Configuration) (m number : ℕ) (published : List FusedSpan) where
  abbrev pub ReadsAs : List LifeDone → Deed Act Gives → Type 0
  ReadsAs past (Does (Reads worker clock publication asked)) = reading_in config m number past clock publication ≡ reading_at config.drift (publication_at published publication) clock
  ReadsAs past _ = Unit {0}

  -- so is each
  abbrev pub AllReadAs : List LifeDone → Type 0
  AllReadAs [] = Unit {0}
  AllReadAs (done ∷ past) = ReadsAs past done.deed × AllReadAs past
