use Rattle.std.proofs.Common.{◌≡◌, take}
use Rattle.std.specs.Prelude.{All}
use Rattle.tt_span.specs.Interval.{IsInterval}
use Rattle.tt_daemon.proofs.fusions.in_front.Given as goal

-- the spans so far, all of them intervals
abbrev pub invariant-loop-place : goal.invariant-loop-place
invariant-loop-place l = record { same : take l.place l.kept ≡ take l.place l.spans; valid : All IsInterval (take l.place l.spans) }
