use Rattle.tt_top.specs.History.{steps_path}
use Rattle.tt_top.proofs.histories.push_path.Goals as goal

pub returns : goal.returns
unfolding steps_path
returns c = rw c.last.ensures.value at c.push_shown.ensures
