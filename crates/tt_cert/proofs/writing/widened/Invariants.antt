use Rattle.std.proofs.Common.{◌≡◌, ◌≤◌, take}
use Rattle.std.specs.Prelude.{All}
use Rattle.tt_cert.proofs.writing.widened.Given as goal

abbrev pub invariant-loop-source : goal.invariant-loop-source
invariant-loop-source l = (l.numbers.items ≡ take l.source-index l.sources) × All (λ source. source ≤ 255) (take l.source-index l.sources)
