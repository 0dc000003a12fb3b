use Rattle.std.specs.Prelude.{codes, string_bytes}
use Rattle.tt_status.proofs.Appending.{then_on_ok}
use Rattle.tt_pages.specs.Health.{reasons_text}
use Rattle.tt_pages.specs.Start.{wrong_text}
use Rattle.tt_pages.proofs.starts.push_wrong.Goals as goal

pub returns : goal.returns
unfolding wrong_text
returns c =
    let one = string_bytes c.push_word.new.text in
    let r = c.push_word-2.result in
    then_on_ok r (string_bytes c.args.text.now) one _ (codes "<pre class=\"wrong\">") _ c.in_ok-push_word.ensures
    (then_on_ok r one _ _ (reasons_text c.args.health.now) (codes "</pre>\n") c.in_ok-push_reasons.ensures c.push_word-2.ensures)
