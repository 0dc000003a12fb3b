-- The answers so far are those under the keys so far.
use Rattle.std.proofs.Common.{◌≡◌, take}
use Rattle.ttd_masters.specs.Standing.{answers_of}
use Rattle.ttd_masters.proofs.standing.answers_of.Given as goal

abbrev pub invariant-numbers : goal.invariant-numbers
invariant-numbers g l = l.all.items ≡ answers_of l.link.counts.items (take l.number-index l.numbers)
