use Rattle.std.proofs.Common.{◌∙◌, ap, length, []}
use Rattle.std.specs.Prelude.{string_bytes}
use Rattle.tt_trace.proofs.Whole.{drawn_whole, replied_long}
use Rattle.tt_trace.proofs.pictures.picture_in.Goals as goal

pub find_marks-requires : goal.find_marks-requires
find_marks-requires c = record { long = ap (λ r. length r) (c.replies-replies.ensures ∙ c.requires.replies) ∙ replied_long c.args.configs.now [] c.args.events.now }

pub returns : goal.returns
returns c =
    drawn_whole c.args.configs.now c.args.events.now c.args.trace.now c.replies-replies.result.now c.as_slice-drawn.result.now c.of-sheet.result (string_bytes c.new-text.result) (string_bytes c.push_sheet.new.text)
    c.replies-replies.ensures (c.as_slice-drawn.ensures.value ∙ c.in_ok-marks.ensures) c.of-sheet.ensures c.new-text.ensures.bytes c.in_ok-push_sheet.ensures
