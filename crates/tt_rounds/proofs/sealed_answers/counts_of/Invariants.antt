-- The counts of the keys before this one were made.
use Rattle.std.proofs.Common.{◌≡◌, take}
use Rattle.tt_rounds.specs.Answering.{counts_for}
use Rattle.tt_rounds.proofs.sealed_answers.counts_of.Given as goal

abbrev pub invariant-keys : goal.invariant-keys
invariant-keys l = l.made.items ≡ counts_for l.counts (take l.key-index l.keys)
