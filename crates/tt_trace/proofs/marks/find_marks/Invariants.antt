use Rattle.std.proofs.Common.{◌≡◌}
use Rattle.std.specs.List.{flat_map, range_with_len}
use Rattle.tt_trace.specs.Marks.{marks_at}
use Rattle.tt_trace.proofs.marks.find_marks.Given as goal

abbrev pub invariant-loop-number : goal.invariant-loop-number
invariant-loop-number l = l.marks.items ≡ flat_map (marks_at l.events l.replies) (range_with_len 0 l.number)
