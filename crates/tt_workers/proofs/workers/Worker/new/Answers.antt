use Rattle.std.proofs.Common.{refl}
use Rattle.tt_workers.proofs.Working.{nothing-yet}
use Rattle.tt_workers.proofs.workers.Worker.new.Goals as goal

pub invariant_of-result : goal.invariant_of-result
invariant_of-result g c = record {
  is_there = refl;
  worked = nothing-yet c.of-first.result.value c.args.post c.new.result c.of-first.ensures c.new.ensures.empty;
}
