-- How far the clock of the boot, which goes on while the host sleeps, leads the monotonic one, which does not.
use Rattle.std.specs.Prelude.{◌≤◌, ◌<◌, ◌+◌, ◌-◌, ◌&&◌, ℕ, max, min, nat_le, nat_lt, if◌then◌else◌, Bool, Option, Some, None}
use Rattle.tt_host.specs.declared.sleeps.Lead.{Lead}
use Rattle.tt_host.specs.declared.sleeps.Look.{Look}

-- a lead whose bounds are farther apart than this is wide
abbrev pub wide_lead : ℕ
wide_lead = 400000

-- at the moment of a look the monotonic clock may have shown this; the clock of the boot is never behind it
pub record IsAtLook (look : Look) (monotonic : ℕ) : Type 0 where
  pub since : look.before ≤ monotonic
  pub until : monotonic ≤ look.after
  pub ahead : monotonic ≤ look.boot

-- a lead lies within its bounds
pub record Leads (lead : Lead) (ahead : ℕ) : Type 0 where
  pub least : lead.least ≤ ahead
  pub most : ahead ≤ lead.most

-- the bounds of a lead at a look, if some reading fits it
abbrev pub lead_of : Look → Option Lead
lead_of look =
    if nat_le look.before look.after && nat_le look.before look.boot
    then Some (record { least = look.boot - look.after; most = look.boot - look.before })
    else None

-- what the lead surely grew by from the one look to the other
abbrev pub slept_between : Lead → Lead → ℕ
slept_between earlier later = later.least - earlier.most

-- what the bounds of two leads have in common
abbrev pub common_of : Lead → Lead → Lead
common_of earlier later = record { least = max earlier.least later.least; most = min earlier.most later.most }

-- the bounds that two leads have in common, or those of the later one
abbrev pub narrowed : Lead → Lead → Lead
narrowed earlier later = if nat_le (common_of earlier later).least (common_of earlier later).most then common_of earlier later else later

-- the bounds are far apart
abbrev pub is_wide : Lead → Bool
is_wide lead = nat_lt wide_lead (lead.most - lead.least)
