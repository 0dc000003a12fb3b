use Rattle.std.specs.Prelude.{string_bytes, ◌++◌}
use Rattle.tt_status.specs.Event.{priority_text, head_text, fields_of, left_out_text, end_text}
use Rattle.tt_status.specs.Told.{words_text, place_text}
use Rattle.tt_status.proofs.Appending.{then, then_on_ok}
use Rattle.tt_status.proofs.lines.push_dated.Goals as goal

pub returns : goal.returns
returns c =
    let old = string_bytes c.args.text.now in
    let form = c.args.style.format in
    let said = c.args.line in
    let priority = priority_text c.args.style.is_journal said.event in
    let head = head_text form c.args.date said.time said.event in
    let fields = fields_of form said.event in
    let words = words_text form c.args.words.now in
    let place = place_text form c.args.address.now in
    let left_out = left_out_text form said.left_out in
    let to_head = then old _ _ priority head c.in_ok-push_priority.ensures c.in_ok-push_head.ensures in
    let to_fields = then old _ _ (priority ++ head) fields to_head c.in_ok-push_fields.ensures in
    let to_words = then old _ _ (priority ++ head ++ fields) words to_fields c.in_ok-push_words.ensures in
    let to_place = then old _ _ (priority ++ head ++ fields ++ words) place to_words c.in_ok-push_place.ensures in
    let to_count = then old _ _ (priority ++ head ++ fields ++ words ++ place) left_out to_place c.in_ok-push_left_out.ensures in
    then_on_ok c.push_end.result old _ _ (priority ++ head ++ fields ++ words ++ place ++ left_out) (end_text form) to_count c.push_end.ensures
