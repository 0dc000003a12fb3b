-- None so far shares a key.
use Rattle.std.proofs.Common.{◌≡◌, drop}
use Rattle.std.specs.List.{list_any}
use Rattle.tt_settings.specs.Check.{shares_key}
use Rattle.tt_settings.proofs.checks.shares_with_any.Given as goal

abbrev pub invariant-loop-other : goal.invariant-loop-other
invariant-loop-other l = list_any (λ other. shares_key l.one other) (drop l.other-index l.others) ≡ list_any (λ other. shares_key l.one other) l.others
