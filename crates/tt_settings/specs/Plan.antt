-- The settings that are numbers.
use Rattle.std.specs.Prelude.{ℕ, ◌*◌, ◌-◌, ◌/◌, nat_lt, nat_le, if◌then◌else◌, Option, Result, Ok, Err}
use Rattle.toml.specs.Data.{Data, Items, no_items, item, Members, get_member, as_array}
use Rattle.tt_span.specs.Time.{max_time}
use Rattle.tt_span.specs.Interval.{Interval}
use Rattle.tt_daemon.specs.Config.{Configuration, max_workers, default_drift}
use Rattle.tt_settings.specs.declared.keys.Key.{Key}
use Rattle.tt_settings.specs.declared.keys.Key.TheVariants.{Faulty, Workers, Drift, Slew, Poll, Wait, FloorAhead, Idle, LeaseLo, LeaseHi, Stampers}
use Rattle.tt_settings.specs.declared.faults.SettingsFault.{SettingsFault}
use Rattle.tt_settings.specs.declared.faults.SettingsFault.TheVariants.{WrongValue, TooManyFaulty}
use Rattle.tt_settings.specs.declared.plans.Clocking.{Clocking}
use Rattle.tt_settings.specs.declared.plans.Pauses.{Pauses}
use Rattle.tt_settings.specs.Fault.{◌>>=◌}
use Rattle.tt_settings.specs.Key.{millisecond, second, text_of}
use Rattle.tt_settings.specs.Form.{clock_at}
use Rattle.tt_settings.specs.Lookup.{typed_value, whole_in, within, amount_or, optional}

-- how many of so many masters may be faulty at most
abbrev pub most_faulty : ℕ → ℕ
most_faulty masters = (masters - 1) / 2

-- a set-up in which no more masters may be faulty than their number allows
abbrev pub configuration_if : ℕ → ℕ → ℕ → ℕ → Result Configuration SettingsFault
configuration_if masters faulty workers drift =
    if nat_lt (most_faulty masters) faulty then Err (TooManyFaulty masters faulty (most_faulty masters))
    else Ok (record { sources = masters; faulty = faulty; drift = drift; workers = workers })

-- the set-up of a machine with so many masters
unfoldable pub configuration_in : ℕ → Members → Result Configuration SettingsFault
configuration_in masters t = do
  faulty ← amount_or Faulty (most_faulty masters) t
  workers ← amount_or Workers max_workers t
  drift ← amount_or Drift default_drift t
  configuration_if masters faulty workers drift

-- how much faster or slower the slewed clock may go where nothing else is given, in parts per million
abbrev pub default_slew : ℕ
default_slew = 1000

-- by which clock a machine measures, and how far it trusts the slewed one
unfoldable pub clocking_in : Members → Result Clocking SettingsFault
clocking_in t = do
  clock ← clock_at t
  slew ← amount_or Slew default_slew t
  Ok (record { clock = clock; slew = slew })

-- the pause between two rounds of polls where no other is given, in nanoseconds
abbrev pub default_poll : ℕ
default_poll = 250 * millisecond

-- how long a round waits for answers where nothing else is given, in nanoseconds
abbrev pub default_wait : ℕ
default_wait = 250 * millisecond

-- how far a floor may lie ahead where nothing else is given, in nanoseconds
abbrev pub default_floor_ahead : ℕ
default_floor_ahead = second

-- after how long a silent client's connection is closed where nothing else is given, in nanoseconds
abbrev pub default_idle : ℕ
default_idle = 60 * second

-- how long the parts of a machine wait, in nanoseconds
unfoldable pub pauses_in : Members → Result Pauses SettingsFault
pauses_in t = do
  poll ← amount_or Poll default_poll t
  wait ← amount_or Wait default_wait t
  floor_ahead ← amount_or FloorAhead default_floor_ahead t
  idle ← amount_or Idle default_idle t
  Ok (record { poll = poll; wait = wait; floor_ahead = floor_ahead; idle = idle })

-- the interval of two ends, where the first is at most the second
abbrev pub span_if : Key → ℕ → ℕ → Result Interval SettingsFault
span_if key lo hi = if nat_le lo hi then Ok (record { lo = lo; hi = hi }) else Err (WrongValue key)

-- the lease, which is the whole of time where neither end is given
unfoldable pub lease_in : Members → Result Interval SettingsFault
lease_in t = do
  lo ← amount_or LeaseLo 0 t
  hi ← amount_or LeaseHi max_time t
  span_if LeaseHi lo hi

-- the time that a value is, in nanoseconds
abbrev pub time_in : Key → Data → Result ℕ SettingsFault
time_in key d = within key 0 max_time (whole_in d)

-- the interval whose ends are these items: two times, the first at most the second
abbrev pub span_of : Key → Items → Result Interval SettingsFault
span_of key (item first (item second no_items)) = do
  lo ← time_in key first
  hi ← time_in key second
  span_if key lo hi
span_of key _ = Err (WrongValue key)

-- the interval whose ends a value lists
abbrev pub span_in : Key → Data → Result Interval SettingsFault
span_in key d = do
  items ← typed_value key (as_array d)
  span_of key items

-- the interval that is left to stampers in other processes, where one is given
abbrev pub stampers_in : Members → Result (Option Interval) SettingsFault
stampers_in t = optional (span_in Stampers) (get_member (text_of Stampers) t)
