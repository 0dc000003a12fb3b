-- A whole script.
use Rattle.std.specs.Prelude.{ℕ, ◌<◌, ◌≤◌, List, length, Option, ok_or, Result, Ok}
use Rattle.toml.specs.Data.{Members}
use Rattle.toml.specs.Parse.{parse_document}
use Rattle.tt_daemon.specs.Config.{Configuration}
use Rattle.tt_world.specs.declared.events.Event.{Event}
use Rattle.tt_script.specs.declared.faults.ScriptFault.{ScriptFault}
use Rattle.tt_script.specs.Fault.{not_toml, ◌>>=◌}
use Rattle.tt_script.specs.Machines.{machines_in}
use Rattle.tt_script.specs.Events.{events_in}
use Rattle.tt_script.specs.Lives.{LiveRun, live_at}

-- the machines of a run, what happens to them, and the part for a run in threads
pub record Scenario : Type 0 where
  pub configs : List Configuration
  pub events : List Event
  pub live : Option LiveRun

-- a script has from one to eight machines, and at most 4,096 events
pub record IsScenario (s : Scenario) : Type 0 where
  pub some_machine : 0 < length s.configs
  pub few_machines : length s.configs ≤ 8
  pub few_events : length s.events ≤ 4096

-- the script of a document
abbrev pub script_of : Members → Result Scenario ScriptFault
script_of t = do
  configs ← machines_in t
  events ← events_in t
  live ← live_at t
  Ok (record { configs = configs; events = events; live = live })

-- the document that a text is
abbrev pub document_in : List ℕ → Result Members ScriptFault
document_in text = ok_or (parse_document text) not_toml

-- the script that a text says, or the first refusal
abbrev pub script_in : List ℕ → Result Scenario ScriptFault
script_in text = do
  t ← document_in text
  script_of t
