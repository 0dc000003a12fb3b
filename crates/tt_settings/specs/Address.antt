-- Addresses of this host.
use Rattle.std.specs.Prelude.{codes, ℕ, nat_eq, if◌then◌else◌, List, ◌++◌, length, drop, Option, None, ok_or, Result, Ok, Err}
use Rattle.std.specs.Cmp.Lexicographic.{pointwise}
use Rattle.std.specs.declared.net.socket_addr.SocketAddr.{SocketAddr}
use Rattle.std.specs.Net.Socket.{socket_port}
use Rattle.toml.specs.Data.{Data, Members, get_member, as_str}
use Rattle.tt_settings.specs.declared.keys.Key.{Key}
use Rattle.tt_settings.specs.declared.keys.Key.TheVariants.{Listen, Http}
use Rattle.tt_settings.specs.declared.addresses.Ports.{Ports}
use Rattle.tt_settings.specs.declared.faults.SettingsFault.{SettingsFault}
use Rattle.tt_settings.specs.declared.faults.SettingsFault.TheVariants.{WrongValue, NotLocal}
use Rattle.tt_settings.specs.Fault.{◌>>=◌}
use Rattle.tt_settings.specs.Numeral.{number_of}
use Rattle.tt_settings.specs.Key.{text_of}
use Rattle.tt_settings.specs.Socket.{address_of}
use Rattle.tt_settings.specs.Lookup.{value_at, typed_value, optional}

-- the port of the address that a text writes
abbrev pub port_of : List ℕ → Option ℕ
port_of text =
    let digits = drop (length (codes "127.0.0.1:")) text in
    if pointwise nat_eq text (codes "127.0.0.1:" ++ digits) then number_of 65535 digits else None

-- the port of the address that a value is
abbrev pub address_in : Key → Data → Result ℕ SettingsFault
address_in key d = do
  text ← typed_value key (as_str d)
  ok_or (port_of text) (NotLocal key)

-- the port of the address at a key
abbrev pub address_at : Key → Members → Result ℕ SettingsFault
address_at key t = do
  d ← value_at key t
  address_in key d

-- an address at which others connect: no one could know which port 0 became
abbrev pub fixed_at : Key → SocketAddr → Result SocketAddr SettingsFault
fixed_at key address = if nat_eq (socket_port address) 0 then Err (WrongValue key) else Ok address

-- the address that a value is
abbrev pub open_in : Key → Data → Result SocketAddr SettingsFault
open_in key d = do
  text ← typed_value key (as_str d)
  address ← ok_or (address_of text) (NotLocal key)
  fixed_at key address

-- the address for pages over HTTP, where one is given
abbrev pub http_in : Members → Result (Option SocketAddr) SettingsFault
http_in t = optional (open_in Http) (get_member (text_of Http) t)

-- where a machine answers: its own port, and the address of its pages
unfoldable pub ports_in : Members → Result Ports SettingsFault
ports_in t = do
  listen ← address_at Listen t
  http ← http_in t
  Ok (record { listen = listen; http = http })
