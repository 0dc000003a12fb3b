use Rattle.std.proofs.Common.{◌≡◌, ◌≤◌, length, take}
use Rattle.tt_cert.specs.Canonical.{sources_at}
use Rattle.tt_cert.proofs.certifying.name_least_sources.Given as goal

abbrev pub invariant-loop-source : goal.invariant-loop-source
invariant-loop-source l = (length l.found ≤ l.source) × (l.found ≡ take l.need (sources_at (take l.source l.spans) l.time))
