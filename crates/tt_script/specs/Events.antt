-- The events of a script.
use Rattle.std.specs.Prelude.{ℕ, nat_le, if◌then◌else◌, List, [], length, Option, Some, None, ok_or, Result, Ok, Err}
use Rattle.toml.specs.Data.{Data, Items, Members, as_array}
use Rattle.hex.specs.Hex.{decode_of}
use Rattle.hex.specs.declared.error.FromHexError.{FromHexError}
use Rattle.tt_world.specs.declared.events.Event.{Event}
use Rattle.tt_world.specs.declared.events.Action.{Action}
use Rattle.tt_world.specs.declared.events.Action.TheVariants.{Send, Answer, Forge, Deliver, Fuse, Arrive, Read, Stamp, Queue, Release, Lease, Restart}
use Rattle.tt_script.specs.declared.words.Word.{Word}
use Rattle.tt_script.specs.declared.words.Word.TheVariants as word
use Rattle.tt_script.specs.declared.keys.Key.{Key}
use Rattle.tt_script.specs.declared.keys.Key.TheVariants as key
use Rattle.tt_script.specs.declared.faults.Part.{Part}
use Rattle.tt_script.specs.declared.faults.Part.TheVariants as part
use Rattle.tt_script.specs.declared.faults.ScriptFault.{ScriptFault}
use Rattle.tt_script.specs.declared.faults.ScriptFault.TheVariants.{UnknownStep, TooManyEvents}
use Rattle.tt_span.specs.Interval.{Interval}
use Rattle.tt_script.specs.Fault.{wrong, ◌>>=◌}
use Rattle.tt_script.specs.Lookup.{found_at, number_at, text_at, has_few, are_tables, each, of_table, typed_value}
use Rattle.tt_script.specs.Words.{word_of}

-- the span of two ends, in order; the key is that of the last
abbrev pub span_if : Part → Key → ℕ → ℕ → Result Interval ScriptFault
span_if p key lo hi = if nat_le lo hi then Ok (record { lo = lo; hi = hi }) else Err (wrong p key)

-- the span between two keys
abbrev pub span_in : Part → Key → Key → Members → Result Interval ScriptFault
span_in p first last t = do
  lo ← number_at p first t
  hi ← number_at p last t
  span_if p last lo hi

-- at most 64 bytes, that hex text spells
abbrev pub payload_if : Part → Result (List ℕ) FromHexError → Result (List ℕ) ScriptFault
payload_if p (Ok bytes) = if nat_le (length bytes) 64 then Ok bytes else Err (wrong p key.Bytes)
payload_if p (Err _) = Err (wrong p key.Bytes)

-- the keys of `send`, in their order
abbrev pub send_in : Part → Members → Result Action ScriptFault
send_in p t = do
  machine ← number_at p key.Machine t
  source ← number_at p key.Source t
  clock ← number_at p key.Clock t
  Ok (Send machine source clock)

-- the keys of `answer`
abbrev pub answer_in : Part → Members → Result Action ScriptFault
answer_in p t = do
  packet ← number_at p key.Packet t
  span ← span_in p key.Lo key.Hi t
  Ok (Answer packet span)

-- the keys of `forge`
abbrev pub forge_in : Part → Members → Result Action ScriptFault
forge_in p t = do
  machine ← number_at p key.Machine t
  source ← number_at p key.Source t
  text ← text_at p key.Bytes t
  payload ← payload_if p (decode_of text)
  Ok (Forge machine source payload)

-- the keys of `deliver`
abbrev pub deliver_in : Part → Members → Result Action ScriptFault
deliver_in p t = do
  packet ← number_at p key.Packet t
  clock ← number_at p key.Clock t
  Ok (Deliver packet clock)

-- the keys of a word that names a clock reading alone
abbrev pub clock_in : (ℕ → ℕ → Action) → Part → Members → Result Action ScriptFault
clock_in action p t = do
  machine ← number_at p key.Machine t
  clock ← number_at p key.Clock t
  Ok (action machine clock)

-- the keys of `arrive`
abbrev pub arrive_in : Part → Members → Result Action ScriptFault
arrive_in p t = do
  machine ← number_at p key.Machine t
  worker ← number_at p key.Worker t
  session ← number_at p key.Session t
  number ← number_at p key.Number t
  floor ← number_at p key.Floor t
  Ok (Arrive machine worker (record { session = session; number = number }) floor)

-- the keys of `read`
abbrev pub read_in : Part → Members → Result Action ScriptFault
read_in p t = do
  machine ← number_at p key.Machine t
  worker ← number_at p key.Worker t
  clock ← number_at p key.Clock t
  publication ← number_at p key.Publication t
  Ok (Read machine worker clock publication)

-- the keys of a word that names a worker alone
abbrev pub worker_in : (ℕ → ℕ → Action) → Part → Members → Result Action ScriptFault
worker_in action p t = do
  machine ← number_at p key.Machine t
  worker ← number_at p key.Worker t
  Ok (action machine worker)

-- the keys of `lease`
abbrev pub lease_in : Part → Members → Result Action ScriptFault
lease_in p t = do
  machine ← number_at p key.Machine t
  lease ← span_in p key.Lo key.Hi t
  Ok (Lease machine lease)

-- what happens, by its word
abbrev pub action_in : Word → Part → Members → Result Action ScriptFault
action_in word.Send p t = send_in p t
action_in word.Answer p t = answer_in p t
action_in word.Forge p t = forge_in p t
action_in word.Deliver p t = deliver_in p t
action_in word.Fuse p t = clock_in Fuse p t
action_in word.Arrive p t = arrive_in p t
action_in word.Read p t = read_in p t
action_in word.Stamp p t = worker_in Stamp p t
action_in word.Queue p t = worker_in Queue p t
action_in word.Release p t = worker_in Release p t
action_in word.Lease p t = lease_in p t
action_in word.Restart p t = clock_in Restart p t

-- the event with a number, by its table
abbrev pub event_in : ℕ → Members → Result Event ScriptFault
event_in n t = do
  text ← text_at (part.Event n) key.Do t
  word ← ok_or (word_of text) (UnknownStep n)
  time ← number_at (part.Action n word) key.At t
  action ← action_in word (part.Action n word) t
  Ok (record { at = time; action = action })

-- the event with a number
abbrev pub event_of : ℕ → Data → Result Event ScriptFault
event_of n d = of_table (part.Event n) key.Events (event_in n) d

-- tables, at most 4,096
abbrev pub events_if : Items → Result Items ScriptFault
events_if items = if are_tables items then (if has_few key.Events items then Ok items else Err TooManyEvents) else Err (wrong part.Document key.Events)

-- the tables of the events
abbrev pub event_items_in : Data → Result Items ScriptFault
event_items_in d = do
  items ← typed_value part.Document key.Events (as_array d)
  events_if items

-- the events that the value at `event` gives, where it is there
abbrev pub events_of : Option Data → Result (List Event) ScriptFault
events_of None = Ok []
events_of (Some d) = do
  items ← event_items_in d
  each event_of 0 items

-- the events of a document
abbrev pub events_in : Members → Result (List Event) ScriptFault
events_in t = events_of (found_at key.Events t)
