-- The numbers so far are those of the keys so far.
use Rattle.std.proofs.Common.{◌≡◌, map, take}
use Rattle.ttd_masters.proofs.standing.numbers_of.Given as goal

abbrev pub invariant-keys : goal.invariant-keys
invariant-keys l = l.numbers.items ≡ map (λ key. key.number) (take l.key-index l.keys)
