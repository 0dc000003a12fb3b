-- The settings that are paths.
use Rattle.std.specs.Prelude.{ℕ, List, Option, Result, Ok}
use Rattle.toml.specs.Data.{Data, Members, get_member, as_str}
use Rattle.tt_settings.specs.declared.keys.Key.{Key}
use Rattle.tt_settings.specs.declared.keys.Key.TheVariants.{State, Socket, Shared, Status, Evidence, Vmclock, Keys}
use Rattle.tt_settings.specs.declared.faults.SettingsFault.{SettingsFault}
use Rattle.tt_settings.specs.declared.texts.Paths.{Paths}
use Rattle.tt_settings.specs.Fault.{◌>>=◌}
use Rattle.tt_settings.specs.Key.{text_of}
use Rattle.tt_settings.specs.Lookup.{value_at, typed_value, optional}

-- the text that the value of a key is
abbrev pub text_in : Key → Data → Result (List ℕ) SettingsFault
text_in key d = typed_value key (as_str d)

-- the text at a key that has to be there
abbrev pub text_at : Key → Members → Result (List ℕ) SettingsFault
text_at key t = do
  d ← value_at key t
  text_in key d

-- the text at a key that may be absent
abbrev pub optional_text : Key → Members → Result (Option (List ℕ)) SettingsFault
optional_text key t = optional (text_in key) (get_member (text_of key) t)

-- the paths of a document
unfoldable pub paths_in : Members → Result Paths SettingsFault
paths_in t = do
  state ← text_at State t
  socket ← optional_text Socket t
  shared ← optional_text Shared t
  status ← optional_text Status t
  evidence ← optional_text Evidence t
  vmclock ← optional_text Vmclock t
  keys ← optional_text Keys t
  Ok (record { state = state; socket = socket; shared = shared; status = status; evidence = evidence; vmclock = vmclock; keys = keys })
