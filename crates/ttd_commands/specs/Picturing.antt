-- What `picture` answers to its input.
use Rattle.std.specs.Prelude.{◌≡◌, ℕ, List, Result, Ok}
use Rattle.tt_trace.specs.declared.faults.PictureFault.{PictureFault}
use Rattle.tt_trace.specs.declared.faults.PictureFault.TheVariants.{Memory as NoMemoryToDraw}
use Rattle.tt_trace.specs.Picture.{picture_text_of}
use Rattle.tt_script.specs.Script.{Scenario}
use Rattle.tt_world.specs.Trace.{IsTraceOf, RunTrace}
use Rattle.ttd_commands.specs.Answer.{Answer, fine}
use Rattle.ttd_commands.specs.declared.faults.Fault.{Fault}
use Rattle.ttd_commands.specs.declared.faults.Fault.TheVariants.{Memory}
use Rattle.ttd_commands.specs.Scripted.{IsScriptReply}

-- What the program says where there is no picture.
abbrev pub picture_fault_of : PictureFault → Fault
picture_fault_of NoMemoryToDraw = Memory

-- The reply to a script is the picture of its run, after which the program ends as fine, also where the run breaks the assumptions.
pub record ShowsRun (script : Scenario) (reply : Result Answer Fault) : Type 0 where
  pub trace : RunTrace
  pub ran : IsTraceOf script.configs script.events trace
  pub is : reply ≡ Ok (fine (picture_text_of script.configs script.events trace))

-- What `picture` answers to an input.
abbrev pub IsPictureReply : List ℕ → Result Answer Fault → Type 0
IsPictureReply = IsScriptReply ShowsRun
