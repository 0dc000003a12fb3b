-- What a machine has seen of one of its publications: how it was made, and what its workers read from it since. Each list of events has the newest first, and only events that were not bad.
use Rattle.std.specs.Prelude.{ℕ, ◌==◌, ◌&&◌, if◌then◌else◌, List, [], ◌∷◌, ◌++◌, map, filter, is_some, Option, Some, None}
use Rattle.std.specs.List.{range_with_len}
use Rattle.std.specs.Option.{option_or}
use Rattle.tt_span.specs.Interval.{Interval}
use Rattle.tt_daemon.specs.Config.{Configuration}
use Rattle.tt_world.specs.declared.events.Event.{Event}
use Rattle.tt_world.specs.declared.events.Action.{Action}
use Rattle.tt_world.specs.declared.events.Action.TheVariants.{Read}
use Rattle.tt_world.specs.Config.{config_at}
use Rattle.tt_world.specs.Life.{life_at}
use Rattle.tt_world.specs.Publications.{Showing, shown_by, publications_of, publication_at, reading_at}
use Rattle.tt_world.specs.State.{knows}

-- the sources that machine m knows, in their order
abbrev pub known_sources : List Configuration → List Event → ℕ → List ℕ
known_sources configs past m = filter (λ i. knows configs past m i) (range_with_len 0 (config_at configs m).sources)

-- how a publication was made: what is shown of it, and what had happened before
pub record Making : Type 0 where
  pub showing : Showing
  pub before : List Event

-- how machine m made its publication k, if that is the first of these
abbrev pub making_in : List Event → ℕ → ℕ → List Showing → Option Making
making_in past m k [] = None
making_in past m k (showing ∷ rest) = if showing.machine == m && showing.number == k then Some (record { showing = showing; before = past }) else None

-- how an action makes publication k of machine m, if it does
abbrev pub making_by : List Configuration → List Event → ℕ → ℕ → Action → Option Making
making_by configs past m k action = making_in past m k (shown_by configs past action)

-- how machine m last made a publication with number k, if it has made one: its numbers begin again when it restarts
abbrev pub making_of : List Configuration → List Event → ℕ → ℕ → Option Making
making_of configs [] m k = None
making_of configs (event ∷ past) m k = option_or (making_by configs past m k event.action) (making_of configs past m k)

-- a worker's look at a publication: when the clock showed what, the reading that it gave, and the true time, of which the machine is not told
pub record Look : Type 0 where
  pub worker : ℕ
  pub clock : ℕ
  pub reading : Interval
  pub at : ℕ

-- what the machine is told of a look
pub record Sight : Type 0 where
  pub worker : ℕ
  pub clock : ℕ
  pub reading : Interval

-- what the machine is told of each of the looks
abbrev pub sights_of : List Look → List Sight
sights_of looks = map (λ look. record { worker = look.worker; clock = look.clock; reading = look.reading }) looks

-- the clock readings of the looks
abbrev pub clocks_of : List Look → List ℕ
clocks_of looks = map (λ look. look.clock) looks

-- the look at publication k of machine m that an action takes at a true time, if it does
abbrev pub look_by : List Configuration → List Event → ℕ → ℕ → ℕ → Action → List Look
look_by configs past m k at (Read machine worker clock publication) =
    if machine == m && publication == k
    then record {
      worker = worker;
      clock = clock;
      reading = reading_at (config_at configs m).drift (publication_at (publications_of (config_at configs m) past (life_at past m)) k) clock;
      at = at;
    } ∷ []
    else []
look_by configs past m k at _ = []

-- the looks at publication k of machine m since it was made, the oldest first
abbrev pub looks_of : List Configuration → List Event → ℕ → ℕ → List Look
looks_of configs [] m k = []
looks_of configs (event ∷ past) m k =
    if is_some (making_by configs past m k event.action) then [] else looks_of configs past m k ++ look_by configs past m k event.at event.action
