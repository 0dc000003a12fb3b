use Rattle.std.proofs.Common.{◌≡◌, ◌≤◌, ◌++◌, take}
use Rattle.std.specs.Prelude.{All, string_bytes}
use Rattle.std.specs.List.{flat_map}
use Rattle.tt_cert.specs.Text.{stretch_line}
use Rattle.tt_cert.proofs.writing.push_stretches.Given as goal

abbrev pub invariant-loop-stretch : goal.invariant-loop-stretch
invariant-loop-stretch l = (string_bytes l.text ≡ string_bytes l.fn.text ++ flat_map (stretch_line l.word) (take l.stretch-index l.stretches)) × All (λ s. s.depth ≤ 255) (take l.stretch-index l.stretches)
