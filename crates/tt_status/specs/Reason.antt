-- Why a life knew that an assumption is broken.
use Rattle.std.specs.Prelude.{codes, ℕ, nat_eq, if◌then◌else◌, List, Option, Some, None}
use Rattle.tt_status.specs.declared.breaks.BreakReason.{BreakReason}
use Rattle.tt_status.specs.declared.breaks.BreakReason.TheVariants.{Unmet, Slept, Disrupted}
use Rattle.tt_status.specs.declared.lines.LogEvent.{LogEvent}
use Rattle.tt_status.specs.declared.lines.LogEvent.TheVariants.{HostSlept, GuestDisrupted}

-- the reason that an event tells of
abbrev pub reason_told : LogEvent → BreakReason
reason_told (HostSlept slept) = Slept
reason_told GuestDisrupted = Disrupted
reason_told _ = Unmet

-- the number of each reason in a record
abbrev pub number_of : BreakReason → ℕ
number_of Unmet = 1
number_of Slept = 2
number_of Disrupted = 3

-- the reason of a number, where it has one
abbrev pub reason_of : ℕ → Option BreakReason
reason_of n = if nat_eq n 1 then Some Unmet else (if nat_eq n 2 then Some Slept else (if nat_eq n 3 then Some Disrupted else None))

-- the name of the event of each reason
abbrev pub reason_word : BreakReason → List ℕ
reason_word Unmet = codes "assumption_broken"
reason_word Slept = codes "host_slept"
reason_word Disrupted = codes "guest_disrupted"
