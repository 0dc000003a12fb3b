use Rattle.std.proofs.Common.{◌≡◌, ◌≤◌, take}
use Rattle.std.specs.Prelude.{All}
use Rattle.tt_cert.proofs.reading.sources_of.Given as goal

abbrev pub invariant-loop-number : goal.invariant-loop-number
invariant-loop-number l = (l.sources.items ≡ take l.number-index l.numbers) × All (λ i. i ≤ 255) (take l.number-index l.numbers)
