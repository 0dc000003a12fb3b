use Rattle.std.proofs.Common.{◌≡◌, drop}
use Rattle.tt_seal.specs.Sealing.{key_with as key_among}
use Rattle.tt_seal.proofs.sealing.key_with.Given as goal

abbrev pub invariant-keys : goal.invariant-keys
invariant-keys l = key_among l.keys l.number ≡ key_among (drop l.key-index l.keys) l.number
