use Rattle.std.proofs.Common.{◌≡◌, map}
use Rattle.std.specs.List.{range_with_len}
use Rattle.tt_top.specs.View.{source_of}
use Rattle.tt_top.proofs.reading.Texts.sources.Given as goal

abbrev pub invariant-loop-number : goal.invariant-loop-number
invariant-loop-number l = l.sources.items ≡ map (source_of l.self.status.now l.self.evidence.now l.self.machine l.fused) (range_with_len 0 l.number)
