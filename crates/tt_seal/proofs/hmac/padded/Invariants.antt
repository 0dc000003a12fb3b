use Rattle.std.proofs.Common.{◌≡◌, map, take, length, bit_xor}
use Rattle.tt_seal.proofs.hmac.padded.Given as goal

abbrev pub invariant-bytes : goal.invariant-bytes
invariant-bytes l = (length l.pad ≡ 64) × (take l.i l.pad ≡ map (bit_xor l.byte) (take l.i l.block))
