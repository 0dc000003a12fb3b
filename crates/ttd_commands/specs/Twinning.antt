-- What `twin` answers to its words and its input.
use Rattle.std.specs.Prelude.{◌≡◌, ℕ, List, [], ◌∷◌, ◌++◌, codes, decimal, reverse, slice_get, Result, Ok, Err, Some}
use Rattle.std.specs.List.{flat_map}
use Rattle.tt_span.specs.Interval.{Interval}
use Rattle.tt_script.specs.Script.{Scenario}
use Rattle.tt_trace.specs.Event.{event_line}
use Rattle.tt_twin.specs.declared.twins.Side.{Side as TwinSide}
use Rattle.tt_twin.specs.declared.twins.Side.TheVariants as end
use Rattle.tt_twin.specs.declared.twin_faults.TwinFault.{TwinFault}
use Rattle.tt_twin.specs.declared.twin_faults.TwinFault.TheVariants.{Memory as NoMemoryForTwin}
use Rattle.tt_twin.specs.Twin.{twin_of}
use Rattle.tt_world.specs.declared.events.Event.{Event}
use Rattle.tt_world.specs.declared.events.Reply.TheVariants as replies
use Rattle.tt_world.specs.Past.{time_of}
use Rattle.tt_world.specs.Reply.{replies_from}
use Rattle.ttd_words.specs.declared.requests.Side.{Side}
use Rattle.ttd_words.specs.declared.requests.Side.TheVariants.{Low, High}
use Rattle.ttd_commands.specs.Answer.{Answer, fine}
use Rattle.ttd_commands.specs.Scripted.{IsScriptReply}
use Rattle.ttd_commands.specs.declared.faults.Fault.{Fault}
use Rattle.ttd_commands.specs.declared.faults.Fault.TheVariants.{Memory, Twin}

-- The side that a word names, as the twin is asked for.
abbrev pub twin_side : Side → TwinSide
twin_side Low = end.Low
twin_side High = end.High

-- What the program says where there is no twin.
abbrev pub twin_fault_of : TwinFault → Fault
twin_fault_of NoMemoryForTwin = Memory
twin_fault_of fault = Twin fault

-- The line of a reading, and of the true time at it.
abbrev pub truth_line : Interval → ℕ → List ℕ
truth_line reading truth = codes "reading " ++ (decimal reading.lo ++ (codes " " ++ (decimal reading.hi ++ (codes " truth " ++ (decimal truth ++ 10 ∷ [])))))

-- The text of a twin: its events, the reading whose twin it is, and the true time at its last event.
abbrev pub twin_text : List Event → Interval → List ℕ
twin_text twin reading = flat_map event_line twin ++ truth_line reading (time_of (reverse twin))

-- The reply tells the twin and the reading of event k in the run of the script.
pub record TellsTwin (script : Scenario) (k : ℕ) (twin : List Event) (reply : Result Answer Fault) : Type 0 where
  pub reading : Interval
  pub replied : slice_get (replies_from script.configs [] script.events) k ≡ Some (replies.Read reading)
  pub is : reply ≡ Ok (fine (twin_text twin reading))

-- The reply to a twin that is asked for: why there is none, or it.
abbrev pub TellsFound : Scenario → ℕ → Result (List Event) TwinFault → Result Answer Fault → Type 0
TellsFound script k (Err fault) reply = reply ≡ Err (twin_fault_of fault)
TellsFound script k (Ok twin) reply = TellsTwin script k twin reply

-- The reply to a script: the twin of the reading of event k in its run, or why there is none.
abbrev pub TellsTwinOf : ℕ → Side → Scenario → Result Answer Fault → Type 0
TellsTwinOf k side script reply = TellsFound script k (twin_of script.configs script.events k (twin_side side)) reply

-- What `twin` answers to an input.
abbrev pub IsTwinReply : ℕ → Side → List ℕ → Result Answer Fault → Type 0
IsTwinReply k side = IsScriptReply (TellsTwinOf k side)
