use Rattle.std.proofs.Common.{◌≡◌, length}
use Rattle.tt_top.specs.Field.{behind_first}
use Rattle.tt_top.proofs.fields.behind.Given as goal

abbrev pub invariant-loop-first : goal.invariant-loop-first
invariant-loop-first l = behind_first l.words l.fn.fresh l.fn.text ≡ behind_first l.words l.begins l.rest

abbrev pub decreases-loop-first : goal.decreases-loop-first
decreases-loop-first l = length l.rest
