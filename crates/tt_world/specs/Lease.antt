-- The lease of each machine, searched back. Each list has the newest event first, and only events that were not bad.
use Rattle.std.specs.Prelude.{ℕ, List, [], ◌∷◌, Option, Some, None, unwrap_or, ◌==◌, if◌then◌else◌}
use Rattle.tt_span.specs.Interval.{Interval, whole}
use Rattle.tt_world.specs.declared.events.Event.{Event}
use Rattle.tt_world.specs.declared.events.Action.{Action}
use Rattle.tt_world.specs.declared.events.Action.TheVariants.{Lease}

-- the lease that an action grants machine m, if it does
abbrev pub leased_by : ℕ → Action → Option Interval
leased_by m (Lease machine lease) = if machine == m then Some lease else None
leased_by m _ = None

-- the lease of machine m, in whatever life; the whole of time before the first that it is granted
abbrev pub lease_of : List Event → ℕ → Interval
lease_of [] m = whole
lease_of (event ∷ past) m = unwrap_or (leased_by m event.action) (lease_of past m)
