-- The keys of a configuration file.
use Rattle.std.specs.Prelude.{codes, ℕ, ◌*◌, nat_eq, if◌then◌else◌, List, [], ◌∷◌, Option, Some, None}
use Rattle.std.specs.Cmp.Lexicographic.{pointwise}
use Rattle.toml.specs.Data.{Members, no_members, member}
use Rattle.tt_span.specs.Drift.{max_drift}
use Rattle.tt_span.specs.Time.{max_time}
use Rattle.tt_poll.specs.Message.{max_machine}
use Rattle.tt_daemon.specs.Config.{max_workers}
use Rattle.tt_settings.specs.declared.keys.Key.{Key}
use Rattle.tt_settings.specs.declared.keys.Key.TheVariants.{Machine, Masters, Faulty, Workers, Drift, Clock, Slew, Poll, Wait, FloorAhead, Idle, LeaseLo, LeaseHi, Stampers, Listen, Http, Log, OnBreak, MaxWidth, Socket, State, Shared, Status, Evidence, Vmclock, Keys, Master, MasterAddress, MasterKey}
use Rattle.tt_settings.specs.declared.keys.ValueKind.{ValueKind}
use Rattle.tt_settings.specs.declared.keys.ValueKind.TheVariants as kind

-- a millisecond and a second, in nanoseconds
abbrev pub millisecond : ℕ
millisecond = 1000000

abbrev pub second : ℕ
second = 1000000000

-- the most that the slewed clock may be told to go faster or slower by, in parts per million
abbrev pub max_slew : ℕ
max_slew = 90000

-- the key as the file writes it, and what its value has to be: the one description of a key
abbrev pub entry_of : Key → List ℕ × ValueKind
entry_of Machine = (codes "machine", kind.Number 0 max_machine)
entry_of Masters = (codes "masters", kind.Addresses)
entry_of Faulty = (codes "faulty", kind.Number 0 max_time)
entry_of Workers = (codes "workers", kind.Number 1 max_workers)
entry_of Drift = (codes "drift", kind.Number 0 max_drift)
entry_of Clock = (codes "clock", kind.Form (codes "raw", codes "monotonic"))
entry_of Slew = (codes "slew", kind.Number 0 max_slew)
entry_of Poll = (codes "poll", kind.Duration millisecond (3600 * second))
entry_of Wait = (codes "wait", kind.Duration millisecond (10 * second))
entry_of FloorAhead = (codes "floor_ahead", kind.Duration 0 (10 * second))
entry_of Idle = (codes "idle", kind.Duration second (86400 * second))
entry_of LeaseLo = (codes "lease_lo", kind.Number 0 max_time)
entry_of LeaseHi = (codes "lease_hi", kind.Number 0 max_time)
entry_of Stampers = (codes "stampers", kind.Ends)
entry_of Listen = (codes "listen", kind.Address)
entry_of Http = (codes "http", kind.Address)
entry_of Log = (codes "log", kind.Form (codes "text", codes "json"))
entry_of OnBreak = (codes "on_break", kind.Act)
entry_of MaxWidth = (codes "max_width", kind.Duration 0 (3600 * second))
entry_of Socket = (codes "socket", kind.Path)
entry_of State = (codes "state", kind.Path)
entry_of Shared = (codes "shared", kind.Path)
entry_of Status = (codes "status", kind.Path)
entry_of Evidence = (codes "evidence", kind.Path)
entry_of Vmclock = (codes "vmclock", kind.Path)
entry_of Keys = (codes "keys", kind.Path)
entry_of Master = (codes "master", kind.Tables)
entry_of MasterAddress = (codes "address", kind.Place)
entry_of MasterKey = (codes "key", kind.KeyNumbers)

abbrev pub text_of : Key → List ℕ
text_of key = (entry_of key).0

abbrev pub kind_of : Key → ValueKind
kind_of key = (entry_of key).1

-- all keys of a document
abbrev pub all_keys : List Key
all_keys =
    Machine ∷ Masters ∷ Faulty ∷ Workers ∷ Drift ∷ Clock ∷ Slew ∷ Poll ∷ Wait ∷ FloorAhead ∷ Idle ∷ LeaseLo ∷ LeaseHi ∷ Stampers ∷ Listen ∷ Http ∷ Log
    ∷ OnBreak ∷ MaxWidth ∷ Socket ∷ State ∷ Shared ∷ Status ∷ Evidence ∷ Vmclock ∷ Keys ∷ Master ∷ []

-- all keys of the table of a master
abbrev pub master_keys : List Key
master_keys = MasterAddress ∷ MasterKey ∷ []

-- the first of these keys that a text is
abbrev pub key_among : List ℕ → List Key → Option Key
key_among text [] = None
key_among text (key ∷ rest) = if pointwise nat_eq (text_of key) text then Some key else key_among text rest

-- this name, where it is no key, or else the other
abbrev pub unknown_or : Option Key → List ℕ → Option (List ℕ) → Option (List ℕ)
unknown_or (Some key) name other = other
unknown_or None name other = Some name

-- the first name of a table that is none of these keys
abbrev pub unknown_among : List Key → Members → Option (List ℕ)
unknown_among keys no_members = None
unknown_among keys (member name d rest) = unknown_or (key_among name keys) name (unknown_among keys rest)

-- the first name of a document that is no key
abbrev pub first_unknown : Members → Option (List ℕ)
first_unknown t = unknown_among all_keys t
