use Rattle.std.proofs.Common.{◌≡◌, ◌++◌, take}
use Rattle.std.specs.Prelude.{string_bytes}
use Rattle.std.specs.List.{flat_map}
use Rattle.tt_audit.specs.Text.{suspect_line}
use Rattle.tt_audit.proofs.writing.push_suspects.Given as goal

abbrev pub invariant-loop-suspect : goal.invariant-loop-suspect
invariant-loop-suspect l = string_bytes l.text ≡ string_bytes l.fn.text ++ flat_map suspect_line (take l.suspect-index l.suspects)
