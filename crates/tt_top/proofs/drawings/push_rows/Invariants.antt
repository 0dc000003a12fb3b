use Rattle.std.proofs.Common.{◌≡◌, ◌++◌, take}
use Rattle.std.specs.Prelude.{string_bytes}
use Rattle.std.specs.List.{flat_map}
use Rattle.tt_top.specs.Drawing.{cells_text}
use Rattle.tt_top.proofs.drawings.push_rows.Given as goal

abbrev pub invariant-loop-source : goal.invariant-loop-source
invariant-loop-source l = string_bytes l.text ≡ string_bytes l.fn.text ++ flat_map (cells_text l.form l.fused) (take l.source-index l.sources)
