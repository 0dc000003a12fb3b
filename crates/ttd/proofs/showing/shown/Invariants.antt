-- What is shown of the bytes so far, and that of the rest.
use Rattle.std.proofs.Common.{◌≡◌, ◌++◌, drop}
use Rattle.ttd.specs.Shown.{shown}
use Rattle.ttd.proofs.showing.shown.Given as goal

abbrev pub invariant-loop-byte : goal.invariant-loop-byte
invariant-loop-byte l = l.text.items ++ shown (drop l.byte-index l.bytes) ≡ shown l.bytes
