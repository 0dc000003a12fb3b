use Rattle.std.proofs.Common.{◌≡◌, ◌++◌, take, map, replicate}
use Rattle.tt_span.specs.Time.{max_time}
use Rattle.tt_fuse.specs.Stated.{high_of_source}
use Rattle.tt_fuse.proofs.scaled.highs_of.Given as goal

-- the ends so far
abbrev pub invariant-loop-source : goal.invariant-loop-source
invariant-loop-source l = l.ends.items ≡ map (high_of_source l.spans) (take l.source-index l.sources)

-- the greatest times so far
abbrev pub invariant-loop : goal.invariant-loop
invariant-loop l = l.ends.items ≡ map (high_of_source l.fn.spans) l.sources ++ replicate l.counter max_time
