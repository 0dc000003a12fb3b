use Rattle.std.proofs.Common.{◌≡◌, take}
use Rattle.tt_audit.specs.Ordering.{highest_after}
use Rattle.tt_audit.proofs.ordering.highest.Given as goal

abbrev pub invariant-loop-receipt : goal.invariant-loop-receipt
invariant-loop-receipt l = l.so_far ≡ highest_after l.fn.before (take l.receipt-index l.receipts)
