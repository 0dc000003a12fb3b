use Rattle.std.proofs.Common.{◌≡◌, ◌++◌, take}
use Rattle.std.specs.Prelude.{string_bytes}
use Rattle.std.specs.List.{flat_map}
use Rattle.tt_top.specs.Chart.{source_chart}
use Rattle.tt_top.proofs.charts.push_sources.Given as goal

abbrev pub invariant-loop-source : goal.invariant-loop-source
invariant-loop-source l = string_bytes l.text ≡ string_bytes l.fn.text ++ flat_map (source_chart l.form l.ruler l.fused) (take l.source-index l.sources)
