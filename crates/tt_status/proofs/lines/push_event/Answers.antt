use Rattle.std.proofs.lemmas.Result.{on_ok_weaker}
use Rattle.tt_status.proofs.lines.push_event.Goals as goal

pub returns : goal.returns
returns c = record { written = on_ok_weaker c.push_dated.result (λ is. (c.date_of.result, c.date_of.ensures.value, is)) c.push_dated.ensures }
