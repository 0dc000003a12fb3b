use Rattle.std.proofs.Common.{◌≡◌, take, map}
use Rattle.tt_upstream.specs.Fused.{span_for}
use Rattle.tt_upstream.proofs.together.spans_for.Given as goal

-- the spans so far
abbrev pub invariant-loop-place : goal.invariant-loop-place
invariant-loop-place l = take l.place l.spans ≡ take l.place (map span_for l.said)
