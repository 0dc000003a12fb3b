use Rattle.std.specs.Prelude.{string_bytes}
use Rattle.tt_status.proofs.Appending.{then_on_ok}
use Rattle.tt_pages.specs.Health.{ago_text, reason_text}
use Rattle.tt_pages.proofs.healths.push_broke_line.Goals as goal

pub returns : goal.returns
returns c =
    then_on_ok c.push_reason.result (string_bytes c.args.text.now) _ _ (ago_text c.args.ago) (reason_text c.args.reason) c.in_ok-push_ago.ensures c.push_reason.ensures
