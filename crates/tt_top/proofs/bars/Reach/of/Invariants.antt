use Rattle.std.proofs.Common.{◌≡◌, ◌≤◌, take}
use Rattle.tt_span.specs.Time.{max_time}
use Rattle.tt_top.specs.Bar.{reach_of}
use Rattle.tt_top.proofs.bars.Reach.of.Given as goal

abbrev pub invariant-loop-source : goal.invariant-loop-source
invariant-loop-source l = (l.reach ≡ reach_of l.fused (take l.source-index l.sources)) × (l.reach.hi ≤ max_time)
