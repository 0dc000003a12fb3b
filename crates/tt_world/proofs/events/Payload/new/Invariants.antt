use Rattle.std.proofs.Common.{◌≡◌, take}
use Rattle.tt_world.proofs.events.Payload.new.Given as goal

-- the bytes so far are kept
abbrev pub invariant-loop-byte : goal.invariant-loop-byte
invariant-loop-byte l = l.kept.items ≡ take l.byte-index l.bytes
