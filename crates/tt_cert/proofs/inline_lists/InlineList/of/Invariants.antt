use Rattle.std.proofs.Common.{◌≡◌, take}
use Rattle.tt_cert.proofs.inline_lists.InlineList.of.Given as goal

-- the values so far
abbrev pub invariant-loop-item : goal.invariant-loop-item
invariant-loop-item g l = l.list ≡ take l.item-index l.items
