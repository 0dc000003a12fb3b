-- What is told of the trace of a run.
use Rattle.std.proofs.Common.{◌≡◌, ◌∙◌, ap, ℕ, List, Ok}
use Rattle.std.specs.Prelude.{◌++◌, Option}
use Rattle.tt_audit.specs.Breaking.{IsFirstBreach}
use Rattle.tt_audit.specs.Text.{verdict_line}
use Rattle.tt_audit.specs.declared.reports.Broken.{Broken}
use Rattle.tt_daemon.specs.Config.{Configuration}
use Rattle.tt_script.specs.Script.{Scenario}
use Rattle.tt_trace.specs.Trace.{trace_text_of}
use Rattle.tt_world.specs.declared.events.Event.{Event}
use Rattle.tt_world.specs.declared.events.Reply.{Reply}
use Rattle.tt_world.specs.Trace.{IsTraceOf, RunTrace}
use Rattle.ttd_commands.specs.Answer.{fine}
use Rattle.ttd_commands.specs.Tracing.{TellsTrace}

-- the lines of a run's trace, and behind them its verdict
pub trace_told : (script : Scenario) (configs configs2 : List Configuration) (events events2 events3 : List Event) (trace : RunTrace) (replies : List Reply) (broken : Option Broken) (text : List ℕ)
    → configs ≡ script.configs → events ≡ script.events → configs2 ≡ script.configs → events2 ≡ script.events → events3 ≡ script.events → replies ≡ trace.replies
    → IsTraceOf configs events trace → IsFirstBreach configs2 events2 broken → text ≡ trace_text_of events3 replies ++ verdict_line broken
    → TellsTrace script (Ok (fine text))
trace_told script configs configs2 events events2 events3 trace replies broken text c e c2 e2 e3 r ran first written = record {
  trace = trace;
  broken = broken;
  ran = rw (c, e) at ran;
  first = rw (c2, e2) at first;
  is = ap (λ t. Ok (fine t)) (written ∙ ap (λ l. l ++ verdict_line broken) (ap (λ (l : List Event). trace_text_of l replies) e3 ∙ ap (λ (l : List Reply). trace_text_of script.events l) r));
}
