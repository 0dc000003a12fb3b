use Rattle.tt_top.proofs.drawings.push_first_cells.Goals as goal

pub returns : goal.returns
returns c = rw (c.state.ensures, c.offset.ensures) at c.push_pieces.ensures
