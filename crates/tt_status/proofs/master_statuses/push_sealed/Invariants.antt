use Rattle.std.proofs.Common.{◌≡◌, ◌++◌, take}
use Rattle.std.specs.Prelude.{string_bytes}
use Rattle.std.specs.List.{flat_map}
use Rattle.tt_status.specs.Master.{master_sample_text, sealed_sample}
use Rattle.tt_status.proofs.master_statuses.push_sealed.Given as goal

abbrev pub invariant-loop-one : goal.invariant-loop-one
invariant-loop-one l = string_bytes l.text ≡ string_bytes l.fn.text ++ flat_map (λ one. master_sample_text l.name l.source (sealed_sample one)) (take l.one-index l.sealed)
