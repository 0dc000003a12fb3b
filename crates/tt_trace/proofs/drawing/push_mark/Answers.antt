use Rattle.std.proofs.Common.{◌≡◌, ◌++◌, sym, subst}
use Rattle.std.specs.Prelude.{OnOk, string_bytes}
use Rattle.tt_trace.specs.declared.marks.Mark.{Mark}
use Rattle.tt_trace.specs.Tree.{branch_text}
use Rattle.tt_trace.specs.Drawing.{group_of}
use Rattle.tt_trace.proofs.drawing.push_mark.Goals as goal

pub returns-in-Commit : goal.returns-in-Commit
returns-in-Commit c =
    subst (λ (mark : Mark). OnOk c.push_course.result (string_bytes c.push_course.new.text ≡ string_bytes c.args.text.now ++ branch_text (group_of c.args.sheet.now mark)))
    (sym c.in-Commit.is) c.push_course.ensures
