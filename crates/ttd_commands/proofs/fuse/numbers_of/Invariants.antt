use Rattle.std.proofs.Common.{◌≡◌, take}
use Rattle.ttd_commands.proofs.fuse.numbers_of.Given as goal

abbrev pub invariant-loop-source : goal.invariant-loop-source
invariant-loop-source l = l.numbers.items ≡ take l.source-index l.sources
