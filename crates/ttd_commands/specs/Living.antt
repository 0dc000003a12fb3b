-- What `live` answers to its input.
use Rattle.std.specs.Prelude.{◌≡◌, ◌⊎◌, ℕ, nat_eq, if◌then◌else◌, List, [], ◌∷◌, ◌++◌, codes, decimal, Option, Some, None, Result, Ok, Err}
use Rattle.tt_audit.specs.declared.live.LiveReport.{LiveReport}
use Rattle.tt_live.specs.Plan.{refusal_of}
use Rattle.tt_live.specs.declared.faults.LiveFault.{LiveFault}
use Rattle.tt_live.specs.declared.faults.LiveFault.TheVariants.{Node}
use Rattle.tt_rounds.specs.declared.faults.NodeFault.{NodeFault}
use Rattle.tt_script.specs.Script.{Scenario}
use Rattle.ttd_commands.specs.Answer.{Answer}
use Rattle.ttd_commands.specs.Scripted.{IsScriptReply}
use Rattle.ttd_words.specs.declared.ending.Status.{Status}
use Rattle.ttd_words.specs.declared.ending.Status.TheVariants.{Fine, Broken}
use Rattle.ttd_commands.specs.declared.faults.Fault.{Fault}
use Rattle.ttd_commands.specs.declared.faults.Fault.TheVariants.{Live}

-- How the program ends after a report: as fine where no reading was wrong.
abbrev pub status_after : ℕ → Status
status_after wrong = if nat_eq wrong 0 then Fine else Broken

-- The answer that tells how many readings there were, and how many of them were wrong.
abbrev pub report_answer : LiveReport → Answer
report_answer report = record {
  text = codes "readings " ++ (decimal report.readings ++ (codes "\nwrong " ++ (decimal report.wrong ++ 10 ∷ [])));
  status = status_after report.wrong;
}

-- The reply to a script for which there is this reason not to run it: the reason; or, where there is none, the report on its run, or why the run
-- ended.
abbrev pub TellsRunBy : Option LiveFault → Result Answer Fault → Type 0
TellsRunBy (Some fault) reply = reply ≡ Err (Live fault)
TellsRunBy None reply =
    ((report : LiveReport) × (reply ≡ Ok (report_answer report))) ⊎ ((node : NodeFault) × (reply ≡ Err (Live (Node node))))

-- The reply to a script.
abbrev pub TellsLive : Scenario → Result Answer Fault → Type 0
TellsLive script = TellsRunBy (refusal_of script.configs script.live)

-- What `live` answers to an input.
abbrev pub IsLiveReply : List ℕ → Result Answer Fault → Type 0
IsLiveReply = IsScriptReply TellsLive
