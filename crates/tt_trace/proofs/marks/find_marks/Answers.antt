use Rattle.std.proofs.Common.{[], arith}
use Rattle.tt_trace.specs.Marks.{marks_at}
use Rattle.tt_trace.proofs.Ranging.{piece_more}
use Rattle.tt_trace.proofs.Seeking.{marks_there}
use Rattle.tt_trace.proofs.marks.find_marks.Goals as goal

pub loop-number-preserved : goal.loop-number-preserved
loop-number-preserved c =
    piece_more (marks_at c.args.events.now c.args.replies.now) [] c.loop-number.marks.items c.push_marks.new.marks.items _ c.loop-number.number
    c.in_ok-push_marks.ensures c.loop-number.invariant (marks_there c.args.events.now c.args.replies.now c.loop-number.number _ _ (omega arith) c.requires.long c.index-events-number.is c.index-replies-number.is)
