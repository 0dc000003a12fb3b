use Rattle.std.proofs.Common.{◌≡◌, ◌++◌, take, map, replicate}
use Rattle.tt_fuse.specs.Stated.{low_of_source}
use Rattle.tt_fuse.proofs.scaled.lows_of.Given as goal

-- the ends so far
abbrev pub invariant-loop-source : goal.invariant-loop-source
invariant-loop-source l = l.ends.items ≡ replicate l.unknown 0 ++ map (low_of_source l.spans) (take l.source-index l.sources)
