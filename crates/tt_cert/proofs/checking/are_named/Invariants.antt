use Rattle.std.proofs.Common.{take}
use Rattle.std.specs.Prelude.{IsTrue, ◌↔◌}
use Rattle.tt_cert.specs.Valid.{AreShallow, NameDepths}
use Rattle.tt_cert.proofs.checking.are_named.Given as goal

-- what the stretches so far are
abbrev pub invariant-loop-stretch : goal.invariant-loop-stretch
invariant-loop-stretch l = record {
  shallow : AreShallow l.spans l.need (take l.stretch-index l.stretches);
  exact : IsTrue l.named ↔ NameDepths l.spans (take l.stretch-index l.stretches);
}
