use Rattle.std.proofs.Common.{◌≡◌, length}
use Rattle.tt_top.specs.Field.{front}
use Rattle.tt_top.proofs.fields.number_front.Given as goal

abbrev pub invariant-loop-first : goal.invariant-loop-first
invariant-loop-first l = front l.stop 0 l.fn.text ≡ front l.stop l.number l.rest

abbrev pub decreases-loop-first : goal.decreases-loop-first
decreases-loop-first l = length l.rest
