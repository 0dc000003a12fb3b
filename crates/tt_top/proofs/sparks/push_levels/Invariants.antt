use Rattle.std.proofs.Common.{◌≡◌, ◌++◌, take}
use Rattle.std.specs.Prelude.{string_bytes}
use Rattle.std.specs.List.{flat_map}
use Rattle.tt_top.specs.Spark.{level_of, level_word}
use Rattle.tt_top.proofs.sparks.push_levels.Given as goal

abbrev pub invariant-loop-width : goal.invariant-loop-width
invariant-loop-width l = string_bytes l.text ≡ string_bytes l.fn.text ++ flat_map (λ width. level_word l.ascii (level_of l.least l.most width)) (take l.width-index l.widths)
