use Rattle.std.proofs.Common.{arith}
use Rattle.tt_fuse.proofs.EndLists.{length-lows_of}
use Rattle.tt_daemon.proofs.fusions.Fused.of.Goals as goal

pub fused-requires : goal.fused-requires
fused-requires g c = omega (arith, c.requires.can.enough, length-lows_of c.args.spans.now c.args.ends.now c.requires.ends)
