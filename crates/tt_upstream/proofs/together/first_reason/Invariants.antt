use Rattle.std.proofs.Common.{◌≡◌, drop}
use Rattle.tt_upstream.specs.Fused.{first_reason}
use Rattle.tt_upstream.proofs.together.first_reason.Given as goal

-- what the servers behind have for a first silence is that of all
abbrev pub invariant-loop-one : goal.invariant-loop-one
invariant-loop-one l = first_reason (drop l.one-index l.said) ≡ first_reason l.said
