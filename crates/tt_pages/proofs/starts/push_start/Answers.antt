use Rattle.std.specs.Prelude.{option_map, string_bytes}
use Rattle.tt_status.proofs.Appending.{then_on_ok}
use Rattle.tt_pages.specs.Start.{age_text, drawing_text, end_text, head_text, start_text, state_text}
use Rattle.tt_pages.proofs.starts.push_start.Goals as goal

pub returns : goal.returns
unfolding start_text
returns c =
    let one = string_bytes c.push_word.new.text in
    let two = string_bytes c.push_state.new.text in
    let three = string_bytes c.push_age.new.text in
    let r = c.push_word-2.result in
    then_on_ok r (string_bytes c.args.text.now) one _ head_text _ c.in_ok-push_word.ensures
    (then_on_ok r one two _ (state_text c.args.health.now) _ c.in_ok-push_state.ensures
    (then_on_ok r two three _ (age_text c.args.age) _ c.in_ok-push_age.ensures
    (then_on_ok r three _ _ (drawing_text (option_map string_bytes c.args.drawing.now)) end_text c.in_ok-push_drawing.ensures c.push_word-2.ensures)))
