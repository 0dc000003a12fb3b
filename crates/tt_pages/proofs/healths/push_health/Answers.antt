use Rattle.std.specs.Prelude.{string_bytes}
use Rattle.tt_status.proofs.Appending.{then_on_ok}
use Rattle.tt_pages.specs.Health.{broke_text, judged_text, told_text}
use Rattle.tt_pages.proofs.healths.push_health.Goals as goal

pub returns : goal.returns
unfolding told_text
returns c =
    then_on_ok c.push_broke.result (string_bytes c.args.text.now) _ _ (judged_text c.args.health.now) (broke_text c.args.last c.args.time) c.in_ok-push_judged.ensures c.push_broke.ensures
