use Rattle.std.proofs.Common.{◌-◌, length, arith}
use Rattle.std.proofs.lemmas.Bool.{ltb-true}
use Rattle.tt_stamp.proofs.Ascending.{all_below}
use Rattle.tt_stamp.proofs.standings.is_above.Goals as goal

pub returns-else-end-eq0 : goal.returns-else-end-eq0
returns-else-end-eq0 g c = λ above.
    all_below c.args.entries.now c.args.key (length c.args.entries.now - 1) c.index-entries-end.result c.requires (omega (arith, c.if-end-eq0.false)) (ltb-true _ _ above)
