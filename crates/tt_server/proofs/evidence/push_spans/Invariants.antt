-- The lines of the spans so far.
use Rattle.std.proofs.Common.{◌≡◌, ◌++◌, take}
use Rattle.std.specs.Prelude.{string_bytes}
use Rattle.std.specs.List.{flat_map}
use Rattle.tt_server.specs.Evidence.{span_line}
use Rattle.tt_server.proofs.evidence.push_spans.Given as goal

abbrev pub invariant-loop-span : goal.invariant-loop-span
invariant-loop-span l = string_bytes l.text ≡ string_bytes l.fn.text ++ flat_map span_line (take l.span-index l.spans)
