use Rattle.std.proofs.Common.{rules, append_assoc}
use Rattle.tt_top.specs.Piece.{in_unit}
use Rattle.tt_top.proofs.pieces.push_in_unit.Goals as goal

pub returns : goal.returns
unfolding in_unit
returns c = search (rules, append_assoc)
