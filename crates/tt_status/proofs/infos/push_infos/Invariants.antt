use Rattle.std.proofs.Common.{◌≡◌, ◌++◌, map, take}
use Rattle.std.specs.Prelude.{string_bytes}
use Rattle.tt_status.specs.Info.{infos_text}
use Rattle.tt_status.proofs.infos.push_infos.Given as goal

abbrev pub invariant-loop-source : goal.invariant-loop-source
invariant-loop-source l = string_bytes l.text ≡ string_bytes l.fn.text ++ infos_text l.machine (map string_bytes (take l.source l.addresses))
