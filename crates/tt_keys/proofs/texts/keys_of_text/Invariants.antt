use Rattle.std.proofs.Common.{◌+◌, ◌≤◌, length}
use Rattle.tt_keys.proofs.Adding.{IsReadTo}
use Rattle.tt_keys.proofs.texts.keys_of_text.Given as goal

abbrev pub invariant-lines : goal.invariant-lines
invariant-lines l = (l.number + length l.rest ≤ length l.text + 1) × IsReadTo l.text l.rest l.number l.keys.items

abbrev pub decreases-lines : goal.decreases-lines
decreases-lines l = length l.rest
