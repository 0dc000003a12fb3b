use Rattle.std.proofs.Common.{◌≡◌, ◌++◌}
use Rattle.std.specs.Prelude.{string_bytes}
use Rattle.std.specs.List.{flat_map}
use Rattle.tt_status.specs.Info.{escaped_char}
use Rattle.tt_status.proofs.infos.push_escaped.Given as goal

abbrev pub invariant-loop-letter : goal.invariant-loop-letter
invariant-loop-letter l = string_bytes l.text ≡ string_bytes l.fn.text ++ flat_map escaped_char l.yielded
