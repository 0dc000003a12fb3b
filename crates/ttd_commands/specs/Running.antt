-- What `run` answers to its input.
use Rattle.std.specs.Prelude.{◌≡◌, ℕ, List, Option, Some, None, Result, Ok}
use Rattle.tt_audit.specs.declared.faults.AuditFault.{AuditFault}
use Rattle.tt_audit.specs.declared.faults.AuditFault.TheVariants.{Memory as NoMemoryToAudit}
use Rattle.tt_audit.specs.declared.reports.Broken.{Broken as Breaking}
use Rattle.tt_audit.specs.Report.{IsReportOf, RunReport}
use Rattle.tt_audit.specs.Text.{report_text_of}
use Rattle.tt_script.specs.Script.{Scenario}
use Rattle.tt_world.specs.declared.faults.WorldFault.{WorldFault}
use Rattle.tt_world.specs.declared.faults.WorldFault.TheVariants.{Memory as NoMemoryToRun}
use Rattle.tt_world.specs.Trace.{IsTraceOf, RunTrace}
use Rattle.ttd_commands.specs.Answer.{Answer}
use Rattle.ttd_commands.specs.Scripted.{IsScriptReply}
use Rattle.ttd_words.specs.declared.ending.Status.{Status}
use Rattle.ttd_words.specs.declared.ending.Status.TheVariants.{Fine, Broken}
use Rattle.ttd_commands.specs.declared.faults.Fault.{Fault}
use Rattle.ttd_commands.specs.declared.faults.Fault.TheVariants.{Memory, World}

-- What the program says of a refused run.
abbrev pub world_fault_of : WorldFault → Fault
world_fault_of NoMemoryToRun = Memory
world_fault_of fault = World fault

-- What the program says of a refused audit.
abbrev pub audit_fault_of : AuditFault → Fault
audit_fault_of NoMemoryToAudit = Memory

-- How the program ends after a report: as fine where no event broke the assumptions.
abbrev pub status_after : Option Breaking → Status
status_after None = Fine
status_after (Some broken) = Broken

-- The reply to a script is the text of the report on its run, and the status by whether the assumptions were kept.
pub record TellsRun (script : Scenario) (reply : Result Answer Fault) : Type 0 where
  pub trace : RunTrace
  pub report : RunReport
  pub ran : IsTraceOf script.configs script.events trace
  pub exact : IsReportOf script.configs script.events trace report
  pub is : reply ≡ Ok (record { text = report_text_of report; status = status_after report.broken })

-- What `run` answers to an input.
abbrev pub IsRunReply : List ℕ → Result Answer Fault → Type 0
IsRunReply = IsScriptReply TellsRun
