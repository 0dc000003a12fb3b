use Rattle.tt_top.proofs.drawings.push_last_cells.Goals as goal

pub returns : goal.returns
returns c = rw (c.ends.ensures, c.state.ensures) at c.push_pieces.ensures
