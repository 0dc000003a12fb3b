use Rattle.std.proofs.Common.{◌≡◌, ◌++◌, take}
use Rattle.std.specs.Prelude.{string_bytes}
use Rattle.std.specs.List.{flat_map}
use Rattle.tt_status.specs.Metric.{sample_text}
use Rattle.tt_status.specs.Status.{sample_of}
use Rattle.tt_status.proofs.statuses.push_source.Given as goal

abbrev pub invariant-loop-aspect : goal.invariant-loop-aspect
invariant-loop-aspect l = string_bytes l.text ≡ string_bytes l.fn.text ++ flat_map (λ aspect. sample_text l.name l.machine (sample_of l.number l.source aspect)) (take l.aspect-index l.aspects)
