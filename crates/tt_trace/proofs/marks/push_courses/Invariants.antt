use Rattle.std.proofs.Common.{◌≡◌, ◌++◌, take}
use Rattle.std.specs.List.{flat_map, zip}
use Rattle.tt_trace.specs.Marks.{course_marks}
use Rattle.tt_trace.proofs.marks.push_courses.Given as goal

abbrev pub invariant-loop-receipt : goal.invariant-loop-receipt
invariant-loop-receipt l = l.marks.items ≡ l.fn.marks.items ++ flat_map (course_marks (zip l.events l.replies) l.machine l.at) (take l.receipt-index l.receipts)
