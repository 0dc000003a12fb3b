use Rattle.tt_history.proofs.Adding.{kept_first}
use Rattle.tt_history.proofs.histories.History.open_shown.Goals as goal

pub open-seen-requires : goal.open-seen-requires
open-seen-requires g c = (kept_first, (λ log. tt), c.alone.ensures.1)
