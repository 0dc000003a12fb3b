-- The masters of a machine: where they answer, and which keys are shared with them.
use Rattle.std.specs.Prelude.{ℕ, Bool, false, ◌&&◌, ◌||◌, nat_eq, nat_lt, nat_le, if◌then◌else◌, List, [], ◌∷◌, Option, Some, None, Result, Ok, Err}
use Rattle.std.specs.List.{list_any}
use Rattle.std.specs.Option.{is_some}
use Rattle.std.specs.declared.net.socket_addr.SocketAddr.{SocketAddr}
use Rattle.toml.specs.Data.{Data, Items, Members, get_member, as_str, as_array, as_table}
use Rattle.tt_span.specs.Sources.{max_sources}
use Rattle.tt_settings.specs.declared.keys.Key.{Key}
use Rattle.tt_settings.specs.declared.keys.Key.TheVariants.{Masters, Master as MasterTables, MasterAddress, MasterKey}
use Rattle.tt_settings.specs.declared.faults.SettingsFault.{SettingsFault}
use Rattle.tt_settings.specs.declared.faults.SettingsFault.TheVariants.{MissingKey, WrongValue, NotLocal, UnknownKey, BothForms}
use Rattle.tt_settings.specs.Fault.{◌>>=◌}
use Rattle.tt_settings.specs.Key.{text_of, master_keys, unknown_among}
use Rattle.tt_settings.specs.Lookup.{value_at, typed_value, value_or, whole_in, within, count_of, each}
use Rattle.tt_settings.specs.Socket.{address_of, host_of, is_usable, is_loopback}

-- a master: where it answers, and the numbers of the keys that are shared with it
pub record Master : Type 0 where
  pub address : List ℕ
  pub keys : List ℕ

-- whether there is an address that can be asked, or else whether the text is a name with a port
abbrev pub asked_at : List ℕ → Option SocketAddr → Bool
asked_at text (Some a) = is_usable a
asked_at text None = is_some (host_of text)

-- a text names a place that can be asked: an address, or a name with a port
unfoldable pub can_be_asked : List ℕ → Bool
can_be_asked text = asked_at text (address_of text)

-- whether there is an address of this host
abbrev pub local_at : Option SocketAddr → Bool
local_at (Some a) = is_loopback a
local_at None = false

-- a text is an address of this host
unfoldable pub is_local : List ℕ → Bool
is_local text = local_at (address_of text)

-- the address of a master with a key
abbrev pub any_place : List ℕ → Result (List ℕ) SettingsFault
any_place text = if can_be_asked text then Ok text else Err (WrongValue MasterAddress)

-- the address of a master without a key, which has to be one of this host
abbrev pub local_if : Key → List ℕ → Option SocketAddr → Result (List ℕ) SettingsFault
local_if key text None = Err (NotLocal key)
local_if key text (Some a) = if is_usable a then (if is_loopback a then Ok text else Err (NotLocal key)) else Err (WrongValue key)

unfoldable pub local_place : Key → List ℕ → Result (List ℕ) SettingsFault
local_place key text = local_if key text (address_of text)

-- the address of a master with these keys
abbrev pub place_for : List ℕ → List ℕ → Result (List ℕ) SettingsFault
place_for [] text = local_place MasterAddress text
place_for (number ∷ rest) text = any_place text

-- a number is among these
abbrev pub has_number : ℕ → List ℕ → Bool
has_number n ns = list_any (λ other. nat_eq other n) ns

-- a number is among these twice
abbrev pub has_twice : List ℕ → Bool
has_twice [] = false
has_twice (n ∷ rest) = has_number n rest || has_twice rest

-- the greatest number of a key, and the most keys that are shared with one master
abbrev pub max_number : ℕ
max_number = 4294967295

abbrev pub max_keys : ℕ
max_keys = 4

-- the number of a key
abbrev pub number_in : Data → Result ℕ SettingsFault
number_in d = within MasterKey 0 max_number (whole_in d)

-- different numbers
abbrev pub different : List ℕ → Result (List ℕ) SettingsFault
different ns = if has_twice ns then Err (WrongValue MasterKey) else Ok ns

-- as many items as there may be keys
abbrev pub few_if : Items → Result Items SettingsFault
few_if items = if nat_lt 0 (count_of items) && nat_le (count_of items) max_keys then Ok items else Err (WrongValue MasterKey)

-- the numbers that these items list
abbrev pub numbers_of : Items → Result (List ℕ) SettingsFault
numbers_of items = do
  few ← few_if items
  ns ← each number_in few
  different ns

-- the numbers that a value lists, or the one that it is
abbrev pub numbers_if : Option Items → Data → Result (List ℕ) SettingsFault
numbers_if (Some items) d = numbers_of items
numbers_if None d = do
  n ← number_in d
  Ok (n ∷ [])

abbrev pub numbers_in : Data → Result (List ℕ) SettingsFault
numbers_in d = numbers_if (as_array d) d

-- the numbers of the keys that a table names: none, where it has no key
abbrev pub numbers_at : Members → Result (List ℕ) SettingsFault
numbers_at t = value_or [] numbers_in (get_member (text_of MasterKey) t)

-- a table without a name that is no key
abbrev pub keys_if : Option (List ℕ) → Result (Unit {0}) SettingsFault
keys_if None = Ok tt
keys_if (Some name) = Err UnknownKey

-- the text of the address that a table names
abbrev pub address_text : Members → Result (List ℕ) SettingsFault
address_text t = do
  d ← value_at MasterAddress t
  typed_value MasterAddress (as_str d)

-- the master that a table describes
unfoldable pub master_of : Members → Result Master SettingsFault
master_of t = do
  all_known ← keys_if (unknown_among master_keys t)
  text ← address_text t
  numbers ← numbers_at t
  place ← place_for numbers text
  Ok (record { address = place; keys = numbers })

-- a master of the long form: a table
abbrev pub table_in : Data → Result Master SettingsFault
table_in d = do
  t ← typed_value MasterTables (as_table d)
  master_of t

-- a master of the short form: an address of this host
unfoldable pub local_in : Data → Result Master SettingsFault
local_in d = do
  text ← typed_value Masters (as_str d)
  place ← local_place Masters text
  Ok (record { address = place; keys = [] })

-- the value that lists the masters, and its key: that of the short form, or that of the long one
abbrev pub listed_if : Option Data → Option Data → Result (Key × Data) SettingsFault
listed_if (Some short) (Some long) = Err BothForms
listed_if (Some short) None = Ok (Masters, short)
listed_if None (Some long) = Ok (MasterTables, long)
listed_if None None = Err (MissingKey Masters)

-- from 1 to the most sources of a machine
abbrev pub masters_if : Key → Items → Result (Key × Items) SettingsFault
masters_if key items = if nat_lt 0 (count_of items) && nat_le (count_of items) max_sources then Ok (key, items) else Err (WrongValue key)

-- the items of the masters, and their key
unfoldable pub listed_in : Members → Result (Key × Items) SettingsFault
listed_in t = do
  found ← listed_if (get_member (text_of Masters) t) (get_member (text_of MasterTables) t)
  items ← typed_value found.0 (as_array found.1)
  masters_if found.0 items

-- a master of the form that a key lists
abbrev pub member_in : Key → Data → Result Master SettingsFault
member_in Masters d = local_in d
member_in key d = table_in d

-- the masters that these items are
abbrev pub masters_of : Key × Items → Result (List Master) SettingsFault
masters_of (key, items) = each (member_in key) items
