-- What `trace` answers to its input.
use Rattle.std.specs.Prelude.{◌≡◌, ℕ, List, ◌++◌, Option, Result, Ok}
use Rattle.tt_audit.specs.declared.reports.Broken.{Broken}
use Rattle.tt_audit.specs.Breaking.{IsFirstBreach}
use Rattle.tt_audit.specs.Text.{verdict_line}
use Rattle.tt_script.specs.Script.{Scenario}
use Rattle.tt_trace.specs.Trace.{trace_text_of}
use Rattle.tt_world.specs.Trace.{IsTraceOf, RunTrace}
use Rattle.ttd_commands.specs.Answer.{Answer, fine}
use Rattle.ttd_commands.specs.Scripted.{IsScriptReply}
use Rattle.ttd_commands.specs.declared.faults.Fault.{Fault}

-- The reply to a script is the text of the trace of its run, a line for each event, and then the line that says whether the assumptions were kept, or
-- which event breaks them first. The program ends as fine in either case.
pub record TellsTrace (script : Scenario) (reply : Result Answer Fault) : Type 0 where
  pub trace : RunTrace
  pub broken : Option Broken
  pub ran : IsTraceOf script.configs script.events trace
  pub first : IsFirstBreach script.configs script.events broken
  pub is : reply ≡ Ok (fine (trace_text_of script.events trace.replies ++ verdict_line broken))

-- What `trace` answers to an input.
abbrev pub IsTraceReply : List ℕ → Result Answer Fault → Type 0
IsTraceReply = IsScriptReply TellsTrace
