use Rattle.std.proofs.Common.{◌≡◌, ◌++◌, take}
use Rattle.tt_history.proofs.histories.History.add_behind.Given as goal

-- the items so far were added
abbrev pub invariant-loop-item : goal.invariant-loop-item
invariant-loop-item g l = l.self ≡ record l.fn.self { items = l.fn.self.items ++ take l.item-index l.new }
