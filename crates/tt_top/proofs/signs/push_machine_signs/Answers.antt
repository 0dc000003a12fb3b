use Rattle.tt_top.proofs.signs.push_machine_signs.Goals as goal

pub returns : goal.returns
returns c = rw c.machine-rises.ensures at c.push_signs.ensures
