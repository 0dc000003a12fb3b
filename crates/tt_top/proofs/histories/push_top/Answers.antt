use Rattle.tt_top.proofs.histories.push_top.Goals as goal

pub returns : goal.returns
returns c = rw c.saturating_sub.ensures at c.push_pieces.ensures
