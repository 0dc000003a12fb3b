-- What is shared with the other processes of the machine.
use Rattle.std.specs.Prelude.{ℕ, ◌≡◌, ◌⊎◌, ◌<◌, Result, Ok, Err, ◌+◌, ◌-◌, ◌*◌, ◌/◌, ◌^◌, min, max, nat_eq, nat_le, nat_lt, not, ◌&&◌, if◌then◌else◌, Bool, true, false, Option, Some, None}
use Rattle.tt_span.specs.Time.{max_time}
use Rattle.tt_span.specs.Interval.{Interval, whole}
use Rattle.tt_daemon.specs.Publication.{Publication}
use Rattle.tt_publish.specs.Reading.{fused_span_of}
use Rattle.tt_settings.specs.declared.plans.Pauses.{Pauses}
use Rattle.tt_stream.specs.Counts.{HasFailed}
use Rattle.tt_shared.specs.declared.slots.SharedSpan.{SharedSpan}
use Rattle.tt_shared.specs.declared.faults.WriteFault.{WriteFault}
use Rattle.tt_shared.specs.Fault.{write_number_of}
use Rattle.tt_shared.specs.Slot.{no_base}
use Rattle.tt_shared.specs.Writing.{Write, TellerState, Publishes, StopsShort}
use Rattle.tt_status.specs.declared.lines.LogEvent.{LogEvent}
use Rattle.tt_status.specs.declared.lines.LogEvent.TheVariants.{SharingEnded, SharingResumed}
use Rattle.tt_sharing.specs.declared.sharing.Break.{Break}
use Rattle.tt_sharing.specs.declared.sharing.Tried.{Tried}

-- how long it is from one publication to the next at most, where the round between them waits as long as it may
abbrev pub period_of : Pauses → ℕ
period_of p = min (p.poll + p.wait) max_time

-- until when what was fused at this clock reading is fresh: for three periods
abbrev pub fresh_until : ℕ → ℕ → ℕ
fresh_until clock period = min (clock + 3 * period) (2 ^ 64 - 1)

-- for how long the ends of a span grow by at most this much, where a clock is wrong by so many parts per million
abbrev pub growing_time : ℕ → ℕ → ℕ
growing_time room ppm = if nat_eq ppm 0 then 2 ^ 64 - 1 else min (room * 1000000) (2 ^ 64 - 1) / ppm

-- the last clock reading at which a reading of a span that was fused at a clock reading is at most so wide; before that clock reading where the span is wider itself
abbrev pub usable_until : ℕ → Interval → ℕ → ℕ → ℕ
usable_until clock span ppm most =
    if nat_eq most (2 ^ 64 - 1) then 2 ^ 64 - 1
    else (if nat_lt most (span.hi - span.lo) then clock - 1 else min (clock + growing_time ((most - (span.hi - span.lo)) / 2) ppm) (2 ^ 64 - 1))

-- a publication as other processes read it: it is fresh for three periods after the oldest answer that it needed, and has no second base yet
abbrev pub shared_of : Publication → ℕ → ℕ → ℕ → Pauses → ℕ → ℕ → SharedSpan
shared_of p epoch number needed pauses drift most = record {
  fused = fused_span_of p;
  valid_until = fresh_until needed (period_of pauses);
  epoch = epoch;
  number = number;
  drift = drift;
  usable_until = usable_until p.clock p.span drift most;
  slewed = no_base;
}

-- the same without its second base
abbrev pub without_slewed : SharedSpan → SharedSpan
without_slewed p = record p { slewed = no_base }

-- a publication after its machine ended in order at this clock reading: by neither base it is fresh any more
abbrev pub ended_at : SharedSpan → ℕ → SharedSpan
ended_at p now = record p { valid_until = now; slewed = record p.slewed { valid_until = 0 } }

-- what is shared once an assumption is broken: nothing is published
abbrev pub withdrawn : ℕ → ℕ → ℕ → SharedSpan
withdrawn epoch number drift =
    record { fused = record { clock = 0; span = whole }; valid_until = 0; epoch = epoch; number = number; drift = drift; usable_until = 0; slewed = no_base }

-- the pause before the file is tried again: a round's at first, then twice the last one, and at most thirty seconds
abbrev pub retry_after : ℕ → ℕ → ℕ
retry_after last poll = min (max (2 * last) poll) 30000000000

-- the file is written unless it failed, and tried again once the pause after that is over
abbrev pub is_due : Option Break → ℕ → Bool
is_due (Some broken) now = nat_le broken.again now
is_due None now = true

-- the break after a try that failed with the pause before it
abbrev pub break_with : ℕ → ℕ → Break
break_with pause now = record { pause = pause; again = min (now + pause) (2 ^ 64 - 1) }

-- the break after a try that failed
abbrev pub break_after : Option Break → ℕ → ℕ → Break
break_after (Some broken) poll now = break_with (retry_after broken.pause poll) now
break_after None poll now = break_with (retry_after 0 poll) now

-- the break after a try: none where it did not fail
abbrev pub broken_after : Option Break → Option ℕ → ℕ → ℕ → Option Break
broken_after broken (Some number) poll now = Some (break_after broken poll now)
broken_after broken None poll now = None

-- the number of the fault of a try, if it failed
abbrev pub number_in : Result (Unit {0}) WriteFault → Option ℕ
number_in (Ok done) = None
number_in (Err fault) = Some (write_number_of fault)

-- that it ended is logged once, and that it goes on again once
abbrev pub told_of : Bool → Option ℕ → Option LogEvent
told_of true (Some number) = None
told_of false (Some number) = Some (SharingEnded number)
told_of true None = Some SharingResumed
told_of false None = None

-- the try that began at this clock reading, 0 for none, has lasted longer than a second
abbrev pub hangs : ℕ → ℕ → Bool
hangs since now = not (nat_eq since 0) && nat_lt 1000000000 (now - since)

-- where the log says that a try hangs, it says that the sharing is resumed once it was written
abbrev pub event_of_over : Tried → Bool → Option LogEvent
event_of_over tried was_told = if was_told && tried.written then Some SharingResumed else tried.event

-- a writer wrote this publication into its place: by the two writes of it, and nothing else
pub record Writes {P : Type 0} (does : P → Write → Bool → P → Type 0) (span : SharedSpan) (old new : TellerState P) : Type 0 where
  pub published : Publishes does old.count span old.place new.place
  pub counted : new.count ≡ old.count + 1
  pub usable : new.broken ≡ false

-- a writer can't write this publication: an earlier write failed, no count is left, its clock is above the greatest time, or a write of it failed
abbrev pub CannotWrite : {P : Type 0} → (P → Write → Bool → P → Type 0) → (P → ℕ) → SharedSpan → TellerState P → Type 0
CannotWrite {P} does failed span old =
    (old.broken ≡ true)
    ⊎ ((old.count + 1 ≡ 2 ^ 64)
    ⊎ ((max_time < span.fused.clock)
    ⊎ ((after : P) × StopsShort does old.count span old.place after × HasFailed (failed old.place) (failed after))))

-- a writer that is open, or else one that may be opened
abbrev pub IsOpen : {P : Type 0} → (TellerState P → Type 0) → Option (TellerState P) → TellerState P → Type 0
IsOpen opens (Some held) teller = teller ≡ held
IsOpen opens None teller = opens teller
