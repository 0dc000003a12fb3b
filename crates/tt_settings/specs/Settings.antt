-- What a configuration file means.
use Rattle.std.specs.Prelude.{ℕ, List, Option, Some, None, Result, Ok, Err}
use Rattle.std.specs.declared.net.socket_addr.SocketAddr.{SocketAddr}
use Rattle.toml.specs.Data.{Members}
use Rattle.toml.specs.Parse.{parse_document}
use Rattle.tt_span.specs.Interval.{Interval}
use Rattle.tt_daemon.specs.Config.{Configuration}
use Rattle.tt_host.specs.declared.clocks.HostClock.{HostClock}
use Rattle.tt_status.specs.declared.lines.LogFormat.{LogFormat}
use Rattle.tt_settings.specs.declared.forms.Conduct.{Conduct}
use Rattle.tt_settings.specs.declared.forms.OnBreak.{OnBreak}
use Rattle.tt_settings.specs.declared.keys.Key.TheVariants.{Machine}
use Rattle.tt_settings.specs.declared.addresses.Ports.{Ports}
use Rattle.tt_settings.specs.declared.faults.SettingsFault.{SettingsFault}
use Rattle.tt_settings.specs.declared.faults.SettingsFault.TheVariants.{NotToml}
use Rattle.tt_settings.specs.declared.plans.Clocking.{Clocking}
use Rattle.tt_settings.specs.declared.plans.Pauses.{Pauses}
use Rattle.tt_settings.specs.declared.texts.Paths.{Paths}
use Rattle.tt_settings.specs.Fault.{◌>>=◌}
use Rattle.tt_settings.specs.Key.{first_unknown}
use Rattle.tt_settings.specs.Lookup.{amount_at, count_of}
use Rattle.tt_settings.specs.Address.{ports_in}
use Rattle.tt_settings.specs.Master.{Master, keys_if, listed_in, masters_of}
use Rattle.tt_settings.specs.Plan.{configuration_in, clocking_in, pauses_in, lease_in, stampers_in}
use Rattle.tt_settings.specs.Form.{conduct_in}
use Rattle.tt_settings.specs.Text.{paths_in}
use Rattle.tt_settings.specs.Check.{all_fit}

-- what a machine is set up with; its own address is a port of this host
pub record Meaning : Type 0 where
  pub machine : ℕ
  pub config : Configuration
  pub clock : HostClock
  pub slew : ℕ
  pub pauses : Pauses
  pub lease : Interval
  pub stampers : Option Interval
  pub listen : ℕ
  pub http : Option SocketAddr
  pub log : LogFormat
  pub on_break : OnBreak
  pub max_width : Option ℕ
  pub masters : List Master
  pub state : List ℕ
  pub socket : Option (List ℕ)
  pub shared : Option (List ℕ)
  pub status : Option (List ℕ)
  pub evidence : Option (List ℕ)
  pub vmclock : Option (List ℕ)
  pub keys : Option (List ℕ)

-- what the parts of a document mean
abbrev pub meaning_of : ℕ → Configuration → Clocking → Pauses → Interval → Option Interval → Ports → Conduct → List Master → Paths → Meaning
meaning_of machine config clocking pauses lease stampers ports conduct masters paths = record {
  machine = machine;
  config = config;
  clock = clocking.clock;
  slew = clocking.slew;
  pauses = pauses;
  lease = lease;
  stampers = stampers;
  listen = ports.listen;
  http = ports.http;
  log = conduct.log;
  on_break = conduct.on_break;
  max_width = conduct.max_width;
  masters = masters;
  state = paths.state;
  socket = paths.socket;
  shared = paths.shared;
  status = paths.status;
  evidence = paths.evidence;
  vmclock = paths.vmclock;
  keys = paths.keys;
}

-- what the keys of a document mean, each by itself
unfoldable pub keys_of : Members → Result Meaning SettingsFault
keys_of t = do
  all_known ← keys_if (first_unknown t)
  machine ← amount_at Machine t
  listed ← listed_in t
  config ← configuration_in (count_of listed.1) t
  clocking ← clocking_in t
  pauses ← pauses_in t
  lease ← lease_in t
  stampers ← stampers_in t
  ports ← ports_in t
  conduct ← conduct_in t
  masters ← masters_of listed
  paths ← paths_in t
  Ok (meaning_of machine config clocking pauses lease stampers ports conduct masters paths)

-- the paths of a machine
abbrev pub paths_of : Meaning → Paths
paths_of s = record {
  state = s.state;
  socket = s.socket;
  shared = s.shared;
  status = s.status;
  evidence = s.evidence;
  vmclock = s.vmclock;
  keys = s.keys;
}

-- what a document means
abbrev pub settings_of : Members → Result Meaning SettingsFault
settings_of t = do
  s ← keys_of t
  fits ← all_fit s.masters s.config.workers (paths_of s)
  Ok s

-- a text that is no document is refused first
abbrev pub settings_if : Option Members → Result Meaning SettingsFault
settings_if None = Err NotToml
settings_if (Some t) = settings_of t

-- what a text means, or the first refusal
abbrev pub settings_in : List ℕ → Result Meaning SettingsFault
settings_in text = settings_if (parse_document text)
