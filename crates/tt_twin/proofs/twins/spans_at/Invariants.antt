use Rattle.std.proofs.Common.{◌≡◌, map, take}
use Rattle.std.specs.Prelude.{slice_index_or}
use Rattle.tt_span.specs.Interval.{whole}
use Rattle.tt_twin.proofs.twins.spans_at.Given as goal

abbrev pub invariant-loop-source : goal.invariant-loop-source
invariant-loop-source l = l.chosen.items ≡ map (λ i. slice_index_or l.spans i whole) (take l.source-index l.sources)
