-- Changes of the real-time clock, as looks at it beside another clock show them.
use Rattle.std.specs.Prelude.{◌≤◌, ℕ, ◌+◌, ◌-◌, min, max, nat_le, Bool, true, false, if◌then◌else◌, List, [], ◌∷◌, map}
use Rattle.tt_span.specs.Time.{max_time}
use Rattle.tt_span.specs.Interval.{Interval, Holds}
use Rattle.tt_span.specs.Drift.{widening, distance, Moment, KeepsDrift}

-- what is allowed of the time that a watch asks about: how far it may be from what the real-time clock shows, and by how many
-- parts per million it may go faster or slower than the other clock
pub record Allowance : Type 0 where
  pub slack : ℕ
  pub rate : ℕ

-- a look at the real-time clock: what it showed, when the other clock had shown the one reading and then showed the other
pub record Look : Type 0 where
  pub before : ℕ
  pub real : ℕ
  pub after : ℕ

-- the readings of the other clock are in order, and none is above the greatest time
pub record IsLook (look : Look) : Type 0 where
  pub ordered : look.before ≤ look.after
  pub in_time : look.after ≤ max_time
  pub real_in : look.real ≤ max_time

-- how far the real-time clock may have been ahead of the other one at the look; the greatest time is added, so that it is never below 0
abbrev pub shown_at : Look → Interval
shown_at look = record { lo = look.real + max_time - look.after; hi = look.real + max_time - look.before }

-- how far the time may have been ahead of the other clock at the look
abbrev pub ahead_at : Allowance → Look → Interval
ahead_at a look = record { lo = (shown_at look).lo - a.slack; hi = (shown_at look).hi + a.slack }

-- by how much this may have changed since the last look: by the rate over the time since it began, and 2 nanoseconds
abbrev pub changed : Allowance → Look → Look → ℕ
changed a last look = widening a.rate (look.after - last.before) + 2

-- the same since the first look, with these between it and the newest, the newest first
abbrev pub changed_over : Allowance → Look → List Look → Look → ℕ
changed_over a look [] first = changed a first look
changed_over a look (last ∷ between) first = changed a last look + changed_over a last between first

-- between the last look and this one the time came from the one distance to the other by what is allowed
abbrev pub IsReached : Allowance → List Look → Look → ℕ → ℕ → Type 0
IsReached a [] look c d = Unit {0}
IsReached a (last ∷ looks) look c d = distance c d ≤ changed a last look

-- in these looks, the newest first, the time may have come to this distance by what is allowed: it was within what each look
-- allows, and changed no more between them
abbrev pub IsExplained : Allowance → List Look → ℕ → Type 0
IsExplained a [] d = Unit {0}
IsExplained a (look ∷ looks) d = Holds (ahead_at a look) d × ((c : ℕ) × IsExplained a looks c × IsReached a looks look c d)

-- what a watch knows: what is allowed, whether it saw more than that; else how far ahead the time may have been at the last
-- look, and what the other clock showed before it
pub record WatchState : Type 0 where
  pub allowed : Allowance
  pub broken : Bool
  pub ahead : Interval
  pub since : ℕ

-- a watch before the first look, which may find the time at any distance
abbrev pub no_look : Allowance → WatchState
no_look a = record { allowed = a; broken = false; ahead = record { lo = 0; hi = 8000000000000000000 + a.slack }; since = 0 }

-- how far ahead the time may be at this look by what is allowed since the last one
abbrev pub ahead_after : Allowance → Look → Interval → ℕ → Interval
ahead_after a look ahead change = record { lo = max (ahead_at a look).lo (ahead.lo - change); hi = min (ahead_at a look).hi (ahead.hi + change) }

-- what a watch knows where the time may be so far ahead at this look: more than is allowed was seen where it may be nowhere
abbrev pub watch_at : Look → Interval → WatchState → WatchState
watch_at look ahead watch = if nat_le ahead.lo ahead.hi then record watch { broken = false; ahead = ahead; since = look.before } else record watch { broken = true }

-- a watch after one more look; one that saw more than is allowed stays as it is
abbrev pub looked : Look → WatchState → WatchState
looked look watch = if watch.broken then watch
    else watch_at look (ahead_after watch.allowed look watch.ahead (widening watch.allowed.rate (look.after - watch.since) + 2)) watch

-- a watch after these looks, the newest first
abbrev pub watched : Allowance → List Look → WatchState
watched a [] = no_look a
watched a (look ∷ looks) = looked look (watched a looks)

-- what is allowed of the real-time clock itself beside a clock that is slewed alike: 500 parts per million
abbrev pub no_step : Allowance
no_step = record { slack = 0; rate = 500 }

-- a look, with what the other clock showed at the very moment at which the real-time clock was read, and the time at that moment
pub record Sight : Type 0 where
  pub look : Look
  pub moment : ℕ
  pub time : ℕ

-- the moment lies between the two readings of the look, and the time is no further than the slack from what the real-time clock showed
pub record IsSight (a : Allowance) (sight : Sight) : Type 0 where
  pub look_in : IsLook sight.look
  pub from : sight.look.before ≤ sight.moment
  pub to : sight.moment ≤ sight.look.after
  pub near : distance sight.time sight.look.real ≤ a.slack

-- how far the time was ahead of the other clock at that moment; the greatest time is added, so that it is never below 0
abbrev pub ahead_in : Sight → ℕ
ahead_in sight = sight.time + max_time - sight.moment

-- between the last sight and this one the time went by no more than the rate faster or slower than the other clock
abbrev pub IsSteadyAfter : Allowance → List Sight → Sight → Type 0
IsSteadyAfter a [] sight = Unit {0}
IsSteadyAfter a (last ∷ sights) sight = distance (ahead_in last) (ahead_in sight) ≤ widening a.rate (sight.moment - last.moment) + 2

-- in these sights, the newest first, nothing happened that is not allowed
abbrev pub IsSteady : Allowance → List Sight → Type 0
IsSteady a [] = Unit {0}
IsSteady a (sight ∷ sights) = IsSight a sight × IsSteadyAfter a sights sight × IsSteady a sights

-- the looks of these sights
abbrev pub looks_in : List Sight → List Look
looks_in [] = []
looks_in (sight ∷ sights) = sight.look ∷ looks_in sights

-- what the other clock showed at the true time of a sight
abbrev pub moment_of : Sight → Moment
moment_of sight = record { clock = sight.moment; time = sight.time }

-- neither the other clock nor the time fell after the sights before
abbrev pub IsLaterThan : List Sight → Sight → Type 0
IsLaterThan [] sight = Unit {0}
IsLaterThan (last ∷ sights) sight = (last.moment ≤ sight.moment) × (last.time ≤ sight.time)

-- at each of these sights, the newest first, the real-time clock was within the slack of the true time, and nothing went back
abbrev pub AreTold : Allowance → List Sight → Type 0
AreTold a [] = Unit {0}
AreTold a (sight ∷ sights) = IsSight a sight × IsLaterThan sights sight × AreTold a sights

-- what was stated is true in these sights: the real-time clock was within the slack of the true time at each, and the other
-- clock kept the rate as its drift
pub record IsTrueIn (a : Allowance) (sights : List Sight) : Type 0 where
  pub told : AreTold a sights
  pub drift : KeepsDrift a.rate (map moment_of sights)
