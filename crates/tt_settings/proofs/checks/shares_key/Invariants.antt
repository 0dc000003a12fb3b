-- No number so far is one of the other's.
use Rattle.std.proofs.Common.{◌≡◌, drop}
use Rattle.std.specs.List.{list_any}
use Rattle.tt_settings.specs.Master.{has_number}
use Rattle.tt_settings.proofs.checks.shares_key.Given as goal

abbrev pub invariant-loop-number : goal.invariant-loop-number
invariant-loop-number l =
    list_any (λ n. has_number n l.other.keys) (drop l.number-index l.one.keys) ≡ list_any (λ n. has_number n l.other.keys) l.one.keys
