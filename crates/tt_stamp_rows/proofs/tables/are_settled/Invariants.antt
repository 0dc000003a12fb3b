use Rattle.tt_stamp_rows.proofs.Table.{SettledUpTo}
use Rattle.tt_stamp_rows.proofs.tables.are_settled.Given as goal

abbrev pub invariant-loop-stamp : goal.invariant-loop-stamp
invariant-loop-stamp l = SettledUpTo l.given l.ended l.t l.stamp-index
