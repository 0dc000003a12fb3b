use Rattle.std.proofs.Common.{refl, arith}
use Rattle.tt_stamp.proofs.Ascending.{GoesTo-end, GoesTo-parted}
use Rattle.tt_stamp.proofs.standings.place_for.Goals as goal

pub returns-then-is_above : goal.returns-then-is_above
returns-then-is_above c = GoesTo-end c.args.sessions.now c.args.session _ (omega arith) (c.if-is_above.ensures refl)

pub returns : goal.returns
returns c = GoesTo-parted c.args.sessions.now c.args.session c.count_below.result c.count_below.ensures.within c.count_below.ensures.divided
