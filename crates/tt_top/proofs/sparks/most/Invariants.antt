use Rattle.std.proofs.Common.{◌≡◌, take}
use Rattle.tt_top.specs.Spark.{most_of}
use Rattle.tt_top.proofs.sparks.most.Given as goal

abbrev pub invariant-loop-width : goal.invariant-loop-width
invariant-loop-width l = l.most ≡ most_of (take l.width-index l.widths)
