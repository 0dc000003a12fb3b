use Rattle.std.proofs.Common.{◌≡◌, ◌++◌, drop, ap, ◌∙◌}
use Rattle.std.specs.Prelude.{string_bytes}
use Rattle.tt_trace.specs.Trace.{lines_from, trace_line, trace_text_of}
use Rattle.tt_trace.proofs.Lines.{lines_more, lines_without}
use Rattle.tt_trace.proofs.traces.trace_text.Goals as goal
use Rattle.tt_trace.proofs.traces.trace_text.Goals.{in-Some+in_ok-push_trace_line, in_default}

pub loop-number-preserved : goal.loop-number-preserved
loop-number-preserved c =
    let events = c.args.events.now in
    let replies = c.args.replies.now in
    let i = c.loop-number.number in
    let event = c.index-events-number.result in
    let all = trace_text_of events replies in
    let old = string_bytes c.loop-number.text in
    let new = string_bytes c.match-get.text in
    elim c.match-get.branch [
      | in-Some+in_ok-push_trace_line w ↦
          let made : new ≡ old ++ trace_line i event w.in-Some.reply.now = ap string_bytes w.text-is ∙ w.in_ok-push_trace_line.ensures in
          lines_more events replies i event w.in-Some.reply.now old new all c.loop-number-test.true c.index-events-number.is w.in-Some.ensures.lookup.3.0 w.in-Some.ensures.lookup.1 made c.loop-number.invariant
      | in_default w ↦
          let same : new ≡ old = ap string_bytes w.text-is in
          lines_without events replies i new all w.in_default.ensures.lookup.3 (ap (λ l. l ++ lines_from i (drop i events) (drop i replies)) same ∙ c.loop-number.invariant)
    ]
