use Rattle.std.specs.Prelude.{string_bytes}
use Rattle.tt_status.proofs.Appending.{then, then_on_ok}
use Rattle.tt_pages.specs.Answer.{reply_text}
use Rattle.tt_pages.proofs.answers.push_reply.Goals as goal

pub returns : goal.returns
unfolding reply_text
returns c =
    let old = string_bytes c.args.text.now in
    then_on_ok c.push_shown.result old _ _ _ _
    (then old _ _ _ _ (then old _ _ _ _ (then old _ _ _ _ c.in_ok-push_words.ensures c.in_ok-push_type.ensures) c.in_ok-push_length.ensures) c.in_ok-push_end.ensures)
    c.push_shown.ensures
