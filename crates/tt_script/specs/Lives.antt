-- The part of a script for a run in threads.
use Rattle.std.specs.Prelude.{ℕ, if◌then◌else◌, List, Option, Some, None, Result, Ok, Err}
use Rattle.toml.specs.Data.{Data, Items, Members, as_str, as_array}
use Rattle.tt_span.specs.Interval.{Interval}
use Rattle.tt_master.specs.declared.acts.Act.{Act}
use Rattle.tt_script.specs.declared.keys.Key.TheVariants as key
use Rattle.tt_script.specs.declared.faults.Part.{Part}
use Rattle.tt_script.specs.declared.faults.Part.TheVariants as part
use Rattle.tt_script.specs.declared.faults.ScriptFault.{ScriptFault}
use Rattle.tt_script.specs.Fault.{wrong, ◌>>=◌}
use Rattle.tt_script.specs.Lookup.{found_at, value_at, number_at, are_tables, each, of_table, typed_value}
use Rattle.tt_script.specs.Events.{span_in}
use Rattle.tt_script.specs.Acts.{acts_in}

-- a master: its uncertainty, and what it does with one request after the other
pub record MasterPlan : Type 0 where
  pub uncertainty : ℕ
  pub acts : List Act

-- a run in threads: the time at which it begins, its rounds and the turns of each, its masters by source, the lines of
-- its sessions by worker, and its lease
pub record LiveRun : Type 0 where
  pub base : ℕ
  pub rounds : ℕ
  pub turns : ℕ
  pub masters : List MasterPlan
  pub sessions : List (List (List ℕ))
  pub lease : Interval

-- a master, by its table
abbrev pub master_in : Part → Members → Result MasterPlan ScriptFault
master_in p t = do
  uncertainty ← number_at p key.Uncertainty t
  d ← value_at p key.Acts t
  acts ← acts_in p d
  Ok (record { uncertainty = uncertainty; acts = acts })

-- the master with a number
abbrev pub master_of : ℕ → Data → Result MasterPlan ScriptFault
master_of n d = of_table (part.Master n) key.Masters (master_in (part.Master n)) d

-- items that are tables
abbrev pub tables_if : Items → Result Items ScriptFault
tables_if items = if are_tables items then Ok items else Err (wrong part.Live key.Masters)

-- the masters
abbrev pub masters_in : Members → Result (List MasterPlan) ScriptFault
masters_in t = do
  d ← value_at part.Live key.Masters t
  items ← typed_value part.Live key.Masters (as_array d)
  tables ← tables_if items
  each master_of 0 tables

-- a line of a session
abbrev pub line_in : Part → Data → Result (List ℕ) ScriptFault
line_in p d = typed_value p key.Sessions (as_str d)

-- a line of a session, whatever its number is
abbrev pub line_at : Part → ℕ → Data → Result (List ℕ) ScriptFault
line_at p n d = line_in p d

-- the lines of the session with a number
abbrev pub session_in : ℕ → Data → Result (List (List ℕ)) ScriptFault
session_in n d = do
  items ← typed_value (part.Session n) key.Sessions (as_array d)
  each (line_at (part.Session n)) 0 items

-- the sessions
abbrev pub sessions_in : Members → Result (List (List (List ℕ))) ScriptFault
sessions_in t = do
  d ← value_at part.Live key.Sessions t
  items ← typed_value part.Live key.Sessions (as_array d)
  each session_in 0 items

-- the part for a run in threads, by its table; its lease is the whole of time where neither end is given
abbrev pub live_in : Members → Result LiveRun ScriptFault
live_in t = do
  base ← number_at part.Live key.Base t
  rounds ← number_at part.Live key.Rounds t
  turns ← number_at part.Live key.Turns t
  masters ← masters_in t
  sessions ← sessions_in t
  lease ← span_in part.Live key.LeaseLo key.LeaseHi t
  Ok (record { base = base; rounds = rounds; turns = turns; masters = masters; sessions = sessions; lease = lease })

-- what the value at `live` gives, where it is there
abbrev pub live_of : Option Data → Result (Option LiveRun) ScriptFault
live_of None = Ok None
live_of (Some d) = do
  live ← of_table part.Document key.Live live_in d
  Ok (Some live)

-- that part of a document, if it has one
abbrev pub live_at : Members → Result (Option LiveRun) ScriptFault
live_at t = live_of (found_at key.Live t)
