use Rattle.std.specs.Prelude.{string_bytes}
use Rattle.tt_status.proofs.Appending.{then, then_on_ok}
use Rattle.tt_pages.specs.Master.{reasons_text}
use Rattle.tt_pages.proofs.masters.push_reasons.Goals as goal

pub returns : goal.returns
unfolding reasons_text
returns c =
    let old = string_bytes c.args.text.now in
    then_on_ok c.push_if-2.result old _ _ _ _
    (then old _ _ _ _ c.in_ok-push_if.ensures c.in_ok-push_silence.ensures)
    c.push_if-2.ensures
