-- What a read and a write that may end before anything came do to the bytes.
use Rattle.std.specs.Prelude.{◌≡◌, ◌<◌, ℕ, List, length, take, Option, Some, None, Result, Ok, Err}
use Rattle.std.specs.Io.KnownBytes.{Keeps, Appends, Consumes, IsAtEnd}
use Rattle.tt_session.specs.declared.timed.Timed.{Timed}

-- a read consumed the bytes that it gave, none only at the end or with no room; where nothing came or it failed, none was consumed
abbrev pub TimedConsumes : {E : Type 0} → Option (List ℕ) → Option (List ℕ) → Result (Option ℕ) E → List ℕ → Type 0
TimedConsumes old new (Ok (Some n)) buffer = Consumes old new (take n buffer) × (n ≡ 0 → 0 < length buffer → IsAtEnd new)
TimedConsumes old new (Ok None) buffer = Keeps old new
TimedConsumes old new (Err _) buffer = Keeps old new

-- a write appended the bytes that it took; where it ended before or failed, none
abbrev pub TimedAppends : {E : Type 0} → Option (List ℕ) → Option (List ℕ) → Result (Option ℕ) E → List ℕ → Type 0
TimedAppends old new (Ok (Some n)) bytes = Appends old new (take n bytes)
TimedAppends old new (Ok None) bytes = Keeps old new
TimedAppends old new (Err _) bytes = Keeps old new

-- the device of the standard library
abbrev pub timed_device : {D : Type 0} → Timed D → D
timed_device timed = timed.device

-- its failures so far
abbrev pub timed_failures : {D : Type 0} → Timed D → ℕ
timed_failures timed = timed.failures
