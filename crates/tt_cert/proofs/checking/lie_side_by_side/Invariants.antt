use Rattle.std.proofs.Common.{drop}
use Rattle.std.specs.Prelude.{◌↔◌}
use Rattle.tt_cert.specs.Valid.{AreSideBySide}
use Rattle.tt_cert.proofs.checking.lie_side_by_side.Given as goal

abbrev pub invariant-loop-stretch : goal.invariant-loop-stretch
invariant-loop-stretch l = AreSideBySide (drop l.stretch-index l.stretches) l.next l.stop ↔ AreSideBySide l.stretches l.start l.stop
