use Rattle.std.proofs.Common.{◌≡◌, ◌⊎◌, ◌≤◌}
use Rattle.tt_stamp_rows.specs.Table.{IsPending}
use Rattle.tt_stamp_rows.proofs.Table.{SettledBelow}
use Rattle.tt_stamp_rows.proofs.tables.bound_of.Given as goal

abbrev pub invariant-loop-stamp : goal.invariant-loop-stamp
invariant-loop-stamp l =
    (l.bound ≤ l.earliest)
    × SettledBelow l.given l.ended l.bound l.stamp-index
    × ((l.bound ≡ l.earliest) ⊎ IsPending (record { given = l.given; ended = l.ended }) l.bound)
