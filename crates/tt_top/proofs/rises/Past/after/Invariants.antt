use Rattle.std.proofs.Common.{◌≡◌, map, take}
use Rattle.tt_top.specs.Rise.{source_next, rises_at}
use Rattle.tt_top.proofs.rises.Past.after.Given as goal

abbrev pub invariant-loop-source : goal.invariant-loop-source
invariant-loop-source l = l.next.items ≡ map (λ source. source_next (rises_at l.self.sources.items source.number) source l.self.looked) (take l.source-index l.sources)
