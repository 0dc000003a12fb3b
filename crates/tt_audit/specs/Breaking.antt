-- The first event of a run that breaks the assumptions.
use Rattle.std.specs.Prelude.{◌≡◌, List, reverse, take, slice_get, Option, Some, None}
use Rattle.tt_daemon.specs.Config.{Configuration}
use Rattle.tt_world.specs.declared.events.Event.{Event}
use Rattle.tt_world.specs.Assumptions.{breach_of, NoBreach}
use Rattle.tt_audit.specs.declared.reports.Broken.{Broken}

-- an event breaks an assumption, and no event before it breaks one; or none of all the events does
abbrev pub IsFirstBreach : List Configuration → List Event → Option Broken → Type 0
IsFirstBreach configs events None = NoBreach configs (reverse events)
IsFirstBreach configs events (Some broken) =
    (event : Event) × (slice_get events broken.event ≡ Some event)
    × NoBreach configs (reverse (take broken.event events))
    × (breach_of configs (reverse (take broken.event events)) event ≡ Some broken.breach)
