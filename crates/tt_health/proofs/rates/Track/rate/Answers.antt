-- The rate holds for the time between the first sample and the last.
use Rattle.std.proofs.Common.{◌≡◌, ◌∙◌, Some, sym, arith}
use Rattle.tt_health.specs.declared.rates.Sample.{Sample}
use Rattle.tt_health.proofs.Rating.{samples_hold}
use Rattle.tt_health.proofs.rates.Track.rate.Goals as goal

same : (a b : Sample) → Some a ≡ Some b → a ≡ b
same a b is = cc is

pub returns-clause-holds : goal.returns-clause-holds
returns-clause-holds c = λ first last from to is_first is_last in_first in_last.
    samples_hold c.in_ok-first.first c.in_ok-last.last first last c.saturating_sub-length.result from to c.rate_between.result
    (same c.in_ok-first.first first (sym c.in_ok-first.was ∙ is_first)) (same c.in_ok-last.last last (sym c.in_ok-last.was ∙ is_last)) c.saturating_sub-length.ensures c.rate_between.ensures
    (omega (arith, c.if-length-lt-SHORTEST.false)) in_first in_last
