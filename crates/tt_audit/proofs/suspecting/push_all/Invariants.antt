use Rattle.std.proofs.Common.{◌≡◌, ◌++◌, take, map}
use Rattle.tt_audit.proofs.suspecting.push_all.Given as goal

abbrev pub invariant-loop-source : goal.invariant-loop-source
invariant-loop-source l = l.found.items ≡ l.fn.found.items ++ map (λ source. record { machine = l.machine; publication = l.publication; source = source }) (take l.source-index l.sources)
