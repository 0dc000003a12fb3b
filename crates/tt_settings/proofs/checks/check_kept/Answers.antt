use Rattle.std.proofs.Common.{rules}
use Rattle.tt_settings.specs.Check.{evidence_is_free, is_free}
use Rattle.tt_settings.proofs.checks.check_kept.Goals as goal

pub returns-in_err-check_beside : goal.returns-in_err-check_beside
unfolding evidence_is_free is_free
returns-in_err-check_beside c = rw (c.in_ok-check_free.ensures) (search rules)

pub returns : goal.returns
unfolding evidence_is_free
returns c = rw (c.in_ok-check_free.ensures, c.in_ok-check_beside.ensures) (search rules)
