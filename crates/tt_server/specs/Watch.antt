-- What is known of the host.
use Rattle.std.specs.Prelude.{ℕ, Bool, false, Option, Some, None, if◌then◌else◌}
use Rattle.tt_shared.specs.declared.slots.SharedSpan.{SharedSpan}
use Rattle.tt_sharing.specs.Slewed.{with_slewed}
use Rattle.tt_host.specs.declared.slews.SlewLook.{SlewLook}
use Rattle.tt_host.specs.declared.slews.SlewNews.{SlewNews}
use Rattle.tt_host.specs.declared.slews.SlewNews.TheVariants.{Nothing, Begun, Over}
use Rattle.tt_host.specs.declared.slews.Slewing.{Slewing}
use Rattle.tt_status.specs.declared.digits.Difference.{Difference}
use Rattle.tt_status.specs.declared.lines.LogEvent.{LogEvent}
use Rattle.tt_status.specs.declared.lines.LogEvent.TheVariants.{SlewTooFast, SlewInBounds}
use Rattle.tt_telemetry.specs.Status.{gain_in}

-- the look by which readers may go by CLOCK_MONOTONIC, if that clock is not too fast
abbrev pub base_by : SlewLook → Bool → Option SlewLook
base_by look is_too_fast = if is_too_fast then None else Some look

-- what is shared of a publication: with a second base by this look, or as it is
abbrev pub shared_by : SharedSpan → Option SlewLook → ℕ → ℕ → SharedSpan
shared_by span None slew most = span
shared_by span (Some look) slew most = with_slewed span look slew most

-- the rate that is logged where none is known
abbrev pub gain_or_none : Option Difference → Difference
gain_or_none None = record { below = false; size = 0 }
gain_or_none (Some gain) = gain

-- what is logged of a look at the slewed clock
abbrev pub event_of_slewing : SlewNews → Slewing → ℕ → Option LogEvent
event_of_slewing Nothing slewing slew = None
event_of_slewing Begun slewing slew = Some (SlewTooFast (gain_or_none (gain_in slewing.rate)) slew)
event_of_slewing Over slewing slew = Some SlewInBounds
