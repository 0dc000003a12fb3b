use Rattle.std.proofs.Common.{◌≡◌, take}
use Rattle.std.specs.Prelude.{All}
use Rattle.tt_span.specs.Interval.{IsInterval}
use Rattle.tt_daemon.specs.Daemon.{spans_of}
use Rattle.tt_daemon.proofs.daemons.Daemon.spans_at.Given as goal

-- the spans so far, all of them intervals
abbrev pub invariant-loop-source : goal.invariant-loop-source
invariant-loop-source l = record { made : take l.source l.spans ≡ take l.source (spans_of l.self l.clock); valid : All IsInterval l.spans }
