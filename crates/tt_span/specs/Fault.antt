-- The numbers of the refusals.
use Rattle.std.specs.Prelude.{ℕ}
use Rattle.tt_span.specs.declared.spans.SpanFault.{SpanFault}
use Rattle.tt_span.specs.declared.spans.SpanFault.TheVariants.{Backwards, PastMax}

-- the number of each refusal
abbrev pub number_of : SpanFault → ℕ
number_of Backwards = 101
number_of PastMax = 102
