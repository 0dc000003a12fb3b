use Rattle.std.proofs.Common.{◌≡◌, ◌++◌, take}
use Rattle.std.specs.Prelude.{string_bytes, codes}
use Rattle.std.specs.List.{flat_map}
use Rattle.tt_trace.specs.Reply.{receipt_text}
use Rattle.tt_trace.proofs.replies.push_released.Given as goal

abbrev pub invariant-loop-receipt : goal.invariant-loop-receipt
invariant-loop-receipt l = string_bytes l.text ≡ (string_bytes l.fn.text ++ codes "Released") ++ flat_map receipt_text (take l.receipt-index l.receipts)
