-- When what troubles a machine begins, and when it is over. And a machine that stood still.
use Rattle.std.specs.Prelude.{ℕ, ◌+◌, ◌-◌, ◌*◌, ◌^◌, ◌&&◌, not, min, nat_lt, if◌then◌else◌, Bool, true, false, List, [], Option, Some, None}
use Rattle.tt_daemon.specs.declared.faults.DaemonFault.TheVariants as daemon
use Rattle.tt_status.specs.declared.lines.LogEvent.{LogEvent}
use Rattle.tt_status.specs.declared.lines.LogEvent.TheVariants.{FusionPublished, RoundsResumed, SleepSeen, SleepUnseen, SourcesFresh, SourcesStale, WidthAbove, WidthInBounds, StoodStill}
use Rattle.tt_telemetry.specs.Records.{numbers_where, suspects_in}
use Rattle.tt_telemetry.specs.Status.{is_among}
use Rattle.tt_telemetry.specs.declared.records.Outcome.{Outcome}
use Rattle.tt_telemetry.specs.declared.records.Outcome.TheVariants.{Published, Refused, Failed, Nothing}
use Rattle.tt_telemetry.specs.declared.records.Shown.{Shown}

-- the last fusion was refused, after a round that came to this; a round without a fusion leaves that as it was
abbrev pub is_refused_after : Bool → Outcome → Bool
is_refused_after was_refused (Published width) = false
is_refused_after was_refused (Refused daemon.NoPoint) = true
is_refused_after was_refused (Refused daemon.Unknown) = true
is_refused_after was_refused outcome = was_refused

-- a round that publishes is logged if the last fusion before it was refused
abbrev pub fusion_event : Bool → Outcome → Option LogEvent
fusion_event true (Published width) = Some FusionPublished
fusion_event was_refused outcome = None

-- the last round ended with a fault, after one that came to this; where there was none, that is as it was
abbrev pub has_failed_after : Bool → Outcome → Bool
has_failed_after had_failed (Failed fault) = true
has_failed_after had_failed (Refused daemon.ClockBack) = true
has_failed_after had_failed Nothing = had_failed
has_failed_after had_failed outcome = false

-- a round that ends without one is logged if the one before ended with one
abbrev pub resumed_event : Bool → Outcome → Option LogEvent
resumed_event had_failed outcome = if had_failed && not (has_failed_after had_failed outcome) then Some RoundsResumed else None

-- that too few sources have answered is logged after each round that it is so, and the first time after that that it is not
abbrev pub stale_event : Bool → Bool → ℕ → ℕ → Option LogEvent
stale_event was_stale true answered needed = Some (SourcesStale answered needed)
stale_event true false answered needed = Some SourcesFresh
stale_event false false answered needed = None

-- that sleep is not seen is logged when it begins and when it is over
abbrev pub sleep_event : Bool → Bool → Option LogEvent
sleep_event false true = Some SleepUnseen
sleep_event true false = Some SleepSeen
sleep_event was_unseen is_unseen = None

-- a source was among the suspects before, and is not among these
abbrev pub agrees_again : List ℕ → List ℕ → ℕ → Bool
agrees_again before suspects k = is_among k before && not (is_among k suspects)

-- the suspects of the last publication that are none of this one, if there is one
abbrev pub agreeing : Option Shown → Option Shown → List ℕ
agreeing last None = []
agreeing last (Some shown) = numbers_where (agrees_again (suspects_in last) shown.suspects.items) 16

-- a reading is wider than the limit
abbrev pub is_wide : Option ℕ → ℕ → Bool
is_wide None limit = false
is_wide (Some width) limit = nat_lt limit width

-- that this is over is logged where it was so
abbrev pub width_end : Bool → Option LogEvent
width_end true = Some WidthInBounds
width_end false = None

-- a reading before a round is logged each time that it is too wide, and the first time after that that it is not
abbrev pub width_event : Bool → Option ℕ → ℕ → Option LogEvent
width_event was_wide None limit = width_end was_wide
width_event was_wide (Some width) limit = if nat_lt limit width then Some (WidthAbove width limit) else width_end was_wide

-- a number that stays below 2^64
abbrev pub cut_at_most : ℕ → ℕ
cut_at_most n = min n (2 ^ 64 - 1)

-- how long there is between the ends of two rounds at most: a pause before a new socket, ten periods and a second
abbrev pub most_between : ℕ → ℕ → ℕ
most_between pause period = cut_at_most (cut_at_most (cut_at_most (period * 10) + 1000000000) + pause)

-- a round that ends later than that after the one before is logged, with how long it took
abbrev pub stood_still : Option ℕ → ℕ → ℕ → ℕ → Option LogEvent
stood_still None now pause period = None
stood_still (Some before) now pause period = if nat_lt (most_between pause period) (now - before) then Some (StoodStill (now - before)) else None
