use Rattle.std.specs.Prelude.{string_bytes}
use Rattle.tt_trace.specs.Drawing.{course_title, course_shapes}
use Rattle.tt_trace.proofs.Appending.{titled_pieces}
use Rattle.tt_trace.proofs.drawing.push_course.Goals as goal

pub returns : goal.returns
returns c =
    titled_pieces c.push_closing.result (string_bytes c.args.text.now) _ _ _ _ _ _ (course_title c.args.course.now) (course_shapes c.args.sheet.now c.args.course.now)
    c.in_ok-push_opening.ensures c.in_ok-push_course_title.ensures c.in_ok-push_bar.ensures c.push_closing.ensures
