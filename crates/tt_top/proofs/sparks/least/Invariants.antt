use Rattle.std.proofs.Common.{◌≡◌, take}
use Rattle.tt_top.specs.Spark.{least_of}
use Rattle.tt_top.proofs.sparks.least.Given as goal

abbrev pub invariant-loop-width : goal.invariant-loop-width
invariant-loop-width l = l.least ≡ least_of (take l.width-index l.widths)
