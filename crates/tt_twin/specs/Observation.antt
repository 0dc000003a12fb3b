-- What a observation of one publication shows of a run. The list has the newest event first, and only events that were not bad.
use Rattle.std.specs.Prelude.{◌≡◌, ℕ, ◌-◌, List, length, map, slice_get, Option, Some, None, Bool, true, false, Result}
use Rattle.tt_daemon.specs.Config.{Configuration}
use Rattle.tt_world.specs.declared.events.Event.{Event}
use Rattle.tt_world.specs.Publications.{Showing, shown_of}
use Rattle.tt_twin.specs.declared.observations.Glance.{Glance}
use Rattle.tt_twin.specs.declared.observations.Made.{Made}
use Rattle.tt_twin.specs.declared.observations.Observation.{Observation}
use Rattle.tt_twin.specs.declared.observations.News.{News}
use Rattle.tt_twin.specs.declared.observations.News.TheVariants.{Nothing, Published, Looked}
use Rattle.tt_world.specs.declared.events.Action.{Action}
use Rattle.tt_world.specs.declared.events.Reply.{Reply}
use Rattle.tt_world.specs.declared.events.Reply.TheVariants as replies
use Rattle.tt_span.specs.Time.{cut}
use Rattle.tt_world.specs.declared.events.Action.TheVariants as does
use Rattle.tt_twin.specs.declared.twins.Side.{Side}
use Rattle.tt_twin.specs.Twin.{end_after, twin_unless_cut}
use Rattle.tt_twin.specs.declared.twins.Asked.{Asked}
use Rattle.tt_twin.specs.declared.twin_faults.TwinFault.{TwinFault}
use Rattle.tt_twin.specs.Looks.{Making, making_of, Look, looks_of, known_sources}

-- what the observation keeps of a look
abbrev pub glance_of : Look → Glance
glance_of look = record { worker = look.worker; clock = look.clock }

-- a look is taken again, at what the true time x of the fusion has become at most or at least
abbrev pub glance_again : Side → ℕ → ℕ → ℕ → ℕ → Glance → Event
glance_again side ppm m clock x glance = record { at = cut (end_after side ppm x (glance.clock - clock)); action = does.Read m glance.worker glance.clock 1 }

-- what is kept of how a publication was made tells which of those that are shown it is, and which sources its machine knew
abbrev pub IsMade : List Configuration → ℕ → List Showing → Option Making → Option Made → Type 0
IsMade configs m shown None None = Unit {0}
IsMade configs m shown None (Some made) = ⊥
IsMade configs m shown (Some making) None = ⊥
IsMade configs m shown (Some making) (Some made) = (slice_get shown made.place ≡ Some making.showing) × (made.known.items ≡ known_sources configs making.before m)

-- the observation shows publication k of machine m in this run
pub record IsObservation (configs : List Configuration) (past : List Event) (m k : ℕ) (observation : Observation) : Type 0 where
  pub counted : observation.shown ≡ length (shown_of configs past)
  pub made : IsMade configs m (shown_of configs past) (making_of configs past m k) observation.made
  pub glances : observation.glances.items ≡ map glance_of (looks_of configs past m k)

-- what a fusion on machine m that was replied to so tells
abbrev pub news_of_fusion : ℕ → Reply → News
news_of_fusion m (replies.Published number span) = Published m number
news_of_fusion m _ = Nothing

-- what a reading that was replied to so tells
abbrev pub news_of_reading : ℕ → ℕ → Glance → Reply → News
news_of_reading m k glance (replies.Read reading) = Looked m k glance
news_of_reading m k glance _ = Nothing

-- what an action that was replied to so tells of publications
abbrev pub news_in : Action → Reply → News
news_in (does.Fuse machine clock) reply = news_of_fusion machine reply
news_in (does.Read machine worker clock publication) reply = news_of_reading machine publication (record { worker = worker; clock = clock }) reply
news_in _ reply = Nothing

-- what an action asks for, if it reads
abbrev pub asked_in : Action → Option Asked
asked_in (does.Read machine worker clock publication) = Some (record { machine = machine; clock = clock; publication = publication })
asked_in _ = None

-- whether a reply is a reading
abbrev pub is_read : Reply → Bool
is_read (replies.Read reading) = true
is_read _ = false

-- the twin of a reading of what was asked for, the last event of those that were not bad
abbrev pub twin_of_asked : Side → List Configuration → List Event → Asked → Result (List Event) TwinFault
twin_of_asked side configs past asked =
    twin_unless_cut side configs asked.machine asked.clock (making_of configs past asked.machine asked.publication) (looks_of configs past asked.machine asked.publication)
