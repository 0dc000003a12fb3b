use Rattle.std.proofs.Common.{◌∙◌, ap, inl}
use Rattle.std.specs.Prelude.{◌++◌, string_bytes, Option}
use Rattle.tt_audit.specs.Report.{RunReport}
use Rattle.tt_audit.specs.Text.{verdict_line}
use Rattle.tt_audit.specs.declared.reports.Broken.{Broken}
use Rattle.tt_trace.specs.Trace.{trace_text_of}
use Rattle.ttd_commands.proofs.Traced.{trace_told}
use Rattle.ttd_commands.proofs.tracing.traced.Goals as goal

pub returns-clause-value : goal.returns-clause-value
returns-clause-value c =
    let written = c.in-Ok.ensures
    ∙ ap (λ (b : Option Broken). trace_text_of c.to_events-3.result.now c.replies.result.now ++ verdict_line b) (ap (λ (r : RunReport). r.broken) c.report.view_is) in
    inl (trace_told c.args.script.now _ _ _ _ _ c.in_ok-trace.trace _ c.in_ok-report.report.broken (string_bytes c.in-Ok.text)
    c.configs.ensures.value c.to_events.ensures.value c.configs-2.ensures.value c.to_events-2.ensures.value c.to_events-3.ensures.value c.replies.ensures
    c.in_ok-trace.ensures.trace c.in_ok-report.ensures.report.broken written)
