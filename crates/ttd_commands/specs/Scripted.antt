-- What is answered to an input that has to be a script.
use Rattle.std.specs.Prelude.{◌≡◌, ◌⊎◌, List, ℕ, Result, Ok, Err, IsUtf8}
use Rattle.tt_script.specs.declared.faults.ScriptFault.{ScriptFault}
use Rattle.tt_script.specs.declared.faults.ScriptFault.TheVariants.{Memory as NoMemoryToRead}
use Rattle.tt_script.specs.Fault.{IsTold}
use Rattle.tt_script.specs.Script.{Scenario, script_in}
use Rattle.ttd_commands.specs.Answer.{Answer}
use Rattle.ttd_commands.specs.declared.faults.Fault.{Fault}
use Rattle.ttd_commands.specs.declared.faults.Fault.TheVariants.{BadInput, Memory, Script}

-- What the program says of a refused script.
abbrev pub script_fault_of : ScriptFault → Fault
script_fault_of NoMemoryToRead = Memory
script_fault_of fault = Script fault

-- The reply to what a text says: the first refusal of its script, or what is told of the script.
abbrev pub TellsScript : (Scenario → Result Answer Fault → Type 0) → Result Scenario ScriptFault → Result Answer Fault → Type 0
TellsScript Tells (Err fault) reply = (told : ScriptFault) × IsTold fault told × (reply ≡ Err (script_fault_of told))
TellsScript Tells (Ok script) reply = Tells script reply

-- What a command that tells of a script answers to an input: that it is no text, or what the text says.
pub record IsScriptReply (Tells : Scenario → Result Answer Fault → Type 0) (input : List ℕ) (reply : Result Answer Fault) : Type 0 where
  pub bad : ¬ (IsUtf8 input) → reply ≡ Err BadInput
  pub read : IsUtf8 input → TellsScript Tells (script_in input) reply

-- The input is the text of this script.
pub record IsScriptText (input : List ℕ) (script : Scenario) : Type 0 where
  pub utf8 : IsUtf8 input
  pub is : script_in input ≡ Ok script

-- Why an input gives no script: it is no text; or its text is refused; or memory ran out.
abbrev pub IsScriptFault : List ℕ → Fault → Type 0
IsScriptFault input fault = (¬ (IsUtf8 input) × (fault ≡ BadInput))
    ⊎ ((IsUtf8 input × ((refused told : ScriptFault) × (script_in input ≡ Err refused) × IsTold refused told × (fault ≡ script_fault_of told)))
    ⊎ (fault ≡ Memory))
