-- What clauses see of a `Counted` device.
use Rattle.std.specs.Prelude.{ℕ, Bool}
use Rattle.tt_stream.specs.declared.counted.Counted.{Counted}

-- The device of the standard library.
abbrev pub counted_device : {D : Type 0} → Counted D → D
counted_device c = c.device

-- Its failures so far.
abbrev pub counted_failures : {D : Type 0} → Counted D → ℕ
counted_failures c = c.failures

-- The reads that it was asked for so far.
abbrev pub counted_reads : {D : Type 0} → Counted D → ℕ
counted_reads c = c.reads

-- Whether nothing was written to it since the last flush.
abbrev pub counted_flushed : {D : Type 0} → Counted D → Bool
counted_flushed c = c.flushed
