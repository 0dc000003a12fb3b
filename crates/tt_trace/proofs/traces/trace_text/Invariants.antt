use Rattle.std.proofs.Common.{◌≡◌, ◌++◌, drop}
use Rattle.std.specs.Prelude.{string_bytes}
use Rattle.tt_trace.specs.Trace.{lines_from, trace_text_of}
use Rattle.tt_trace.proofs.traces.trace_text.Given as goal

-- the lines so far, and those of what is left
abbrev pub invariant-loop-number : goal.invariant-loop-number
invariant-loop-number l = string_bytes l.text ++ lines_from l.number (drop l.number l.events) (drop l.number l.replies) ≡ trace_text_of l.events l.replies
