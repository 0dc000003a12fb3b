-- The machines of a script.
use Rattle.std.specs.Prelude.{ℕ, ◌+◌, ◌*◌, ◌&&◌, nat_le, nat_lt, if◌then◌else◌, List, Result, Ok, Err}
use Rattle.toml.specs.Data.{Data, Items, no_items, item, Members, as_array}
use Rattle.tt_daemon.specs.Config.{Configuration}
use Rattle.tt_script.specs.declared.keys.Key.TheVariants as key
use Rattle.tt_script.specs.declared.faults.Part.{Part}
use Rattle.tt_script.specs.declared.faults.Part.TheVariants as part
use Rattle.tt_script.specs.declared.faults.ScriptFault.{ScriptFault}
use Rattle.tt_script.specs.Fault.{missing, wrong, ◌>>=◌}
use Rattle.tt_script.specs.Lookup.{value_at, number_at, has_few, are_tables, each, of_table, typed_value}

-- a set-up that a machine can have: its sources are enough, and it has from 1 to 32 workers
abbrev pub configuration_if : Part → Configuration → Result Configuration ScriptFault
configuration_if p c =
    if (nat_lt 0 c.sources && nat_le c.sources 16) && nat_le (2 * c.faulty + 1) c.sources then
    (if nat_lt 0 c.workers && nat_le c.workers 32 then Ok c else Err (wrong p key.Workers))
    else Err (wrong p key.Sources)

-- the set-up of a machine, by its table
abbrev pub configuration_in : Part → Members → Result Configuration ScriptFault
configuration_in p t = do
  sources ← number_at p key.Sources t
  faulty ← number_at p key.Faulty t
  workers ← number_at p key.Workers t
  drift ← number_at p key.Drift t
  configuration_if p (record { sources = sources; faulty = faulty; drift = drift; workers = workers })

-- the set-up of the machine with a number
abbrev pub machine_in : ℕ → Data → Result Configuration ScriptFault
machine_in n d = of_table (part.Machine n) key.Machines (configuration_in (part.Machine n)) d

-- one machine at least, each by a table, and eight at most
abbrev pub machines_if : Items → Result Items ScriptFault
machines_if no_items = Err (missing part.Document key.Machines)
machines_if (item d rest) = if are_tables (item d rest) && has_few key.Machines (item d rest) then Ok (item d rest) else Err (wrong part.Document key.Machines)

-- the tables of the machines
abbrev pub machine_items_in : Members → Result Items ScriptFault
machine_items_in t = do
  d ← value_at part.Document key.Machines t
  items ← typed_value part.Document key.Machines (as_array d)
  machines_if items

-- the machines of a document
abbrev pub machines_in : Members → Result (List Configuration) ScriptFault
machines_in t = do
  items ← machine_items_in t
  each machine_in 0 items
