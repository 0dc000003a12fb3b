-- What a status shows of the slewed clock.
use Rattle.std.specs.Prelude.{codes, List, [], ◌∷◌}
use Rattle.tt_status.specs.Metric.{Metric, single}
use Rattle.tt_status.specs.declared.metrics.Kind.TheVariants.{Gauge, Counter}
use Rattle.tt_status.specs.declared.metrics.Value.TheVariants.{Whole, Flag, Signed}
use Rattle.tt_status.specs.declared.slewings.Slewing.{Slewing}

-- how the slewed clock goes, and whether readers by it are told something
abbrev pub slewing_metrics : Slewing → List Metric
slewing_metrics s =
    single (codes "truetime_slewed_clock_rate_ratio") (codes "What CLOCK_MONOTONIC gained against CLOCK_MONOTONIC_RAW in the last round, as a part of the latter; NaN where they were not compared.") Gauge (Signed s.rate) ∷
    single (codes "truetime_slewed_base_withdrawn") (codes "1 as long as readers of the shared file by CLOCK_MONOTONIC are told nothing, since it is slewed too fast, else 0.") Gauge (Flag s.is_withdrawn) ∷
    single (codes "truetime_slewed_base_withdrawals_total") (codes "How often that began.") Counter (Whole s.withdrawals) ∷
    []
