use Rattle.std.proofs.Common.{◌+◌, ◌*◌, vec_len}
use Rattle.tt_tests.proofs.races.+fn-race-join+arg2+fn-race-join+arg3+race.Given as goal

abbrev pub decreases-join+arg2 : goal.decreases-join+arg2
decreases-join+arg2 g l = 2 * vec_len l.seats + 1

abbrev pub decreases-join+arg3 : goal.decreases-join+arg3
decreases-join+arg3 g l = 2 * vec_len l.others + 1

abbrev pub decreases-race : goal.decreases-race
decreases-race g l = 2 * vec_len l.seats
