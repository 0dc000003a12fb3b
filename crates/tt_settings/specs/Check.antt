-- What is refused of settings that can be read.
use Rattle.std.specs.Prelude.{codes, ℕ, Bool, true, false, ◌||◌, nat_eq, nat_lt, List, [], ◌∷◌, ◌++◌, length, Option, Some, None, Result, Ok, Err}
use Rattle.std.specs.Cmp.Lexicographic.{pointwise}
use Rattle.std.specs.List.{list_any}
use Rattle.tt_settings.specs.declared.keys.Key.{Key}
use Rattle.tt_settings.specs.declared.keys.Key.TheVariants.{State, Socket, Shared, Status, Evidence, Vmclock, Keys}
use Rattle.tt_settings.specs.declared.texts.Paths.{Paths}
use Rattle.tt_settings.specs.declared.faults.SettingsFault.{SettingsFault}
use Rattle.tt_settings.specs.declared.faults.SettingsFault.TheVariants.{MissingKey, WrongValue, SameMaster, SameKey, TooFewWorkers, SamePath}
use Rattle.tt_settings.specs.Fault.{◌>>=◌}
use Rattle.tt_settings.specs.Master.{Master, has_number}
use Rattle.tt_settings.specs.Path.{meets_state, meets_some}

-- a refusal, where something holds
abbrev pub refuse_if : Bool → SettingsFault → Result (Unit {0}) SettingsFault
refuse_if true fault = Err fault
refuse_if false fault = Ok tt

-- a master with this address is among these
abbrev pub has_address : List ℕ → List Master → Bool
has_address address masters = list_any (λ other. pointwise nat_eq other.address address) masters

-- two of these masters have one address
abbrev pub has_same_address : List Master → Bool
has_same_address [] = false
has_same_address (m ∷ rest) = has_address m.address rest || has_same_address rest

-- two masters share the number of a key
abbrev pub shares_key : Master → Master → Bool
shares_key one other = list_any (λ n. has_number n other.keys) one.keys

-- two of these masters share the number of a key
abbrev pub has_same_key : List Master → Bool
has_same_key [] = false
has_same_key (m ∷ rest) = list_any (λ other. shares_key m other) rest || has_same_key rest

-- some of these masters have a key
abbrev pub has_keys : List Master → Bool
has_keys masters = list_any (λ m. nat_lt 0 (length m.keys)) masters

-- the file of the keys is given, where some master has one
abbrev pub file_fits : List Master → Option (List ℕ) → Result (Unit {0}) SettingsFault
file_fits masters None = refuse_if (has_keys masters) (MissingKey Keys)
file_fits masters (Some path) = Ok tt

-- each master is there once, none has a key of another, and the file of the keys is given where one is needed
abbrev pub masters_fit : List Master → Option (List ℕ) → Result (Unit {0}) SettingsFault
masters_fit masters keys = do
  each_once ← refuse_if (has_same_address masters) SameMaster
  own_keys ← refuse_if (has_same_key masters) SameKey
  file_fits masters keys

-- a Unix socket has a worker of its own, and so has the address
abbrev pub workers_fit : ℕ → Option (List ℕ) → Result (Unit {0}) SettingsFault
workers_fit workers None = Ok tt
workers_fit workers (Some socket) = refuse_if (nat_eq workers 1) TooFewWorkers

-- a path has a name
abbrev pub is_given : Key → List ℕ → Result (Unit {0}) SettingsFault
is_given key path = refuse_if (nat_eq (length path) 0) (WrongValue key)

-- a path has a file in common with the state, or with one of four paths that may be absent
abbrev pub meets_any : List ℕ → List ℕ → Option (List ℕ) → Option (List ℕ) → Option (List ℕ) → Option (List ℕ) → Bool
meets_any path state first second third fourth =
    meets_state path state || (meets_some path first || (meets_some path second || (meets_some path third || meets_some path fourth)))

-- a path is given, and has no file in common with the state and with four paths before it
unfoldable pub is_free : Key → List ℕ → Option (List ℕ) → Option (List ℕ) → Option (List ℕ) → Option (List ℕ) → List ℕ → Result (Unit {0}) SettingsFault
is_free key state first second third fourth path = do
  given ← is_given key path
  refuse_if (meets_any path state first second third fourth) (SamePath key)

-- the same of a path that may be absent, behind three
abbrev pub path_fits : Key → List ℕ → Option (List ℕ) → Option (List ℕ) → Option (List ℕ) → Option (List ℕ) → Result (Unit {0}) SettingsFault
path_fits key state first second third None = Ok tt
path_fits key state first second third (Some path) = is_free key state first second third None path

-- the path of the evidence is free, and so are those of the two files beside it that keep it from the last breaks
unfoldable pub evidence_is_free : List ℕ → Option (List ℕ) → Option (List ℕ) → Option (List ℕ) → Option (List ℕ) → List ℕ → Result (Unit {0}) SettingsFault
evidence_is_free state socket shared status keys path = do
  itself ← is_free Evidence state socket shared status keys path
  one ← is_free Evidence state socket shared status keys (path ++ codes ".break-1")
  is_free Evidence state socket shared status keys (path ++ codes ".break-2")

-- the same of evidence that may be absent
abbrev pub evidence_fits : List ℕ → Option (List ℕ) → Option (List ℕ) → Option (List ℕ) → Option (List ℕ) → Option (List ℕ) → Result (Unit {0}) SettingsFault
evidence_fits state socket shared status keys None = Ok tt
evidence_fits state socket shared status keys (Some path) = evidence_is_free state socket shared status keys path

-- the path of a Unix socket fits an address of the system, with the byte that ends it
abbrev pub socket_fits : Option (List ℕ) → Result (Unit {0}) SettingsFault
socket_fits None = Ok tt
socket_fits (Some path) = refuse_if (nat_lt 107 (length path)) (WrongValue Socket)

-- the path of a Unix socket is short enough, and free
unfoldable pub socket_path_fits : List ℕ → Option (List ℕ) → Result (Unit {0}) SettingsFault
socket_path_fits state path = do
  short ← socket_fits path
  path_fits Socket state None None None path

-- the path of a device has a name, where it is there
abbrev pub vmclock_fits : Option (List ℕ) → Result (Unit {0}) SettingsFault
vmclock_fits None = Ok tt
vmclock_fits (Some path) = is_given Vmclock path

-- each path that the machine writes has one purpose, and none is that of the file of the keys
abbrev pub paths_fit : Paths → Result (Unit {0}) SettingsFault
paths_fit p = do
  given ← is_given State p.state
  socket_path_can ← socket_path_fits p.state p.socket
  shared_fits ← path_fits Shared p.state p.socket None None p.shared
  status_fits ← path_fits Status p.state p.socket p.shared None p.status
  keys_fit ← path_fits Keys p.state p.socket p.shared p.status p.keys
  own_fits ← evidence_fits p.state p.socket p.shared p.status p.keys p.evidence
  vmclock_fits p.vmclock

-- the masters, the workers and the paths fit, or the first refusal
unfoldable pub all_fit : List Master → ℕ → Paths → Result (Unit {0}) SettingsFault
all_fit masters workers paths = do
  masters_can ← masters_fit masters paths.keys
  workers_can ← workers_fit workers paths.socket
  paths_fit paths
