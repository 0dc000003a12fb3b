-- The settings that are one of a few words.
use Rattle.std.specs.Prelude.{ℕ, nat_eq, if◌then◌else◌, List, codes, Option, Some, None, option_map, ok_or, Result, Ok}
use Rattle.std.specs.Cmp.Lexicographic.{pointwise}
use Rattle.toml.specs.Data.{Data, Members, get_member, as_str}
use Rattle.tt_host.specs.declared.clocks.HostClock.{HostClock}
use Rattle.tt_host.specs.declared.clocks.HostClock.TheVariants.{Raw, Monotonic}
use Rattle.tt_status.specs.declared.lines.LogFormat.{LogFormat}
use Rattle.tt_status.specs.declared.lines.LogFormat.TheVariants.{Text, Json}
use Rattle.tt_settings.specs.declared.forms.Choice.{Choice}
use Rattle.tt_settings.specs.declared.forms.Choice.TheVariants.{First, Second}
use Rattle.tt_settings.specs.declared.forms.OnBreak.{OnBreak as Act}
use Rattle.tt_settings.specs.declared.forms.Conduct.{Conduct}
use Rattle.tt_settings.specs.declared.forms.OnBreak.TheVariants.{End, Warn, Stay}
use Rattle.tt_settings.specs.declared.keys.Key.{Key}
use Rattle.tt_settings.specs.declared.keys.Key.TheVariants.{Clock, Log, OnBreak, MaxWidth}
use Rattle.tt_settings.specs.declared.keys.ValueKind.{ValueKind}
use Rattle.tt_settings.specs.declared.keys.ValueKind.TheVariants as kind
use Rattle.tt_settings.specs.declared.faults.SettingsFault.{SettingsFault}
use Rattle.tt_settings.specs.declared.faults.SettingsFault.TheVariants.{WrongValue}
use Rattle.tt_settings.specs.Fault.{◌>>=◌}
use Rattle.tt_settings.specs.Key.{text_of, kind_of}
use Rattle.tt_settings.specs.Lookup.{typed_value, value_or, optional_amount}

-- which of the words of a value of this kind a text is
abbrev pub choice_of : ValueKind → List ℕ → Option Choice
choice_of (kind.Form words) text =
    if pointwise nat_eq text words.0 then Some First
    else if pointwise nat_eq text words.1 then Some Second
    else None
choice_of _ text = None

-- which of the words of a key its value is
abbrev pub choice_in : Key → Data → Result Choice SettingsFault
choice_in key d = do
  text ← typed_value key (as_str d)
  ok_or (choice_of (kind_of key) text) (WrongValue key)

-- which of its words stands at a key: the first, where the key is absent
abbrev pub choice_at : Key → Members → Result Choice SettingsFault
choice_at key t = value_or First (choice_in key) (get_member (text_of key) t)

-- the form of a log that each word is
abbrev pub log_format : Choice → LogFormat
log_format First = Text
log_format Second = Json

-- the form that a text names
abbrev pub log_format_of : List ℕ → Option LogFormat
log_format_of text = option_map log_format (choice_of (kind_of Log) text)

-- the form of the log, which is text where the key is absent
abbrev pub log_at : Members → Result LogFormat SettingsFault
log_at t = do
  choice ← choice_at Log t
  Ok (log_format choice)

-- the clock that each word is
abbrev pub clock_named : Choice → HostClock
clock_named First = Raw
clock_named Second = Monotonic

-- the clock by which a machine measures, which is the raw one where the key is absent
abbrev pub clock_at : Members → Result HostClock SettingsFault
clock_at t = do
  choice ← choice_at Clock t
  Ok (clock_named choice)

-- what each word has a machine do
abbrev pub act_of : List ℕ → Option Act
act_of text =
    if pointwise nat_eq text (codes "end") then Some End
    else if pointwise nat_eq text (codes "warn") then Some Warn
    else if pointwise nat_eq text (codes "stay") then Some Stay
    else None

-- what a value has a machine do
abbrev pub act_in : Data → Result Act SettingsFault
act_in d = do
  text ← typed_value OnBreak (as_str d)
  ok_or (act_of text) (WrongValue OnBreak)

-- what a machine does when it knows that an assumption is broken, which is to end itself where the key is absent
abbrev pub on_break_at : Members → Result Act SettingsFault
on_break_at t = value_or End act_in (get_member (text_of OnBreak) t)

-- how a machine writes its log, and what it does when it is not sure enough of the time
unfoldable pub conduct_in : Members → Result Conduct SettingsFault
conduct_in t = do
  log ← log_at t
  on_break ← on_break_at t
  max_width ← optional_amount MaxWidth t
  Ok (record { log = log; on_break = on_break; max_width = max_width })
