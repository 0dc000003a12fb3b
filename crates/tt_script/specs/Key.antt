-- The keys of a script: what each is called, and which numbers it takes, or how many items.
use Rattle.std.specs.Prelude.{codes, ℕ, ◌^◌, ◌-◌, ◌≤◌, List, Some, None}
use Rattle.tt_span.specs.Time.{max_time}
use Rattle.tt_span.specs.Drift.{max_drift}
use Rattle.tt_daemon.specs.Config.{default_drift}
use Rattle.tt_script.specs.declared.keys.Range.{Range}
use Rattle.tt_script.specs.declared.keys.Key.{Key}
use Rattle.tt_script.specs.declared.keys.Key.TheVariants as key

-- the name of a key, and its range
pub record Rule : Type 0 where
  pub name : List ℕ
  pub range : Range

-- a number that is from the least to the greatest
abbrev pub InRange : Range → ℕ → Type 0
InRange range n = (range.least ≤ n) × (n ≤ range.most)

-- the greatest number that a key can hold
abbrev any : ℕ
any = 2 ^ 64 - 1

-- a key that has to be there
abbrev required : List ℕ → ℕ → ℕ → Rule
required name least most = record { name = name; range = record { least = least; most = most; default = None } }

-- a key that may be absent
abbrev optional : List ℕ → ℕ → ℕ → Rule
optional name most default = record { name = name; range = record { least = 0; most = most; default = Some default } }

-- the rule of each key
abbrev pub rule_of : Key → Rule
rule_of key.Machines = required (codes "machine") 1 8
rule_of key.Events = required (codes "event") 0 4096
rule_of key.Live = required (codes "live") 0 any
rule_of key.Sources = required (codes "sources") 0 any
rule_of key.Faulty = required (codes "faulty") 0 any
rule_of key.Workers = required (codes "workers") 0 any
rule_of key.Drift = optional (codes "drift") max_drift default_drift
rule_of key.Do = required (codes "do") 0 any
rule_of key.At = required (codes "at") 0 max_time
rule_of key.Machine = required (codes "machine") 0 255
rule_of key.Source = required (codes "source") 0 255
rule_of key.Worker = required (codes "worker") 0 255
rule_of key.Packet = required (codes "packet") 0 any
rule_of key.Publication = required (codes "publication") 0 any
rule_of key.Clock = required (codes "clock") 0 max_time
rule_of key.Lo = required (codes "lo") 0 max_time
rule_of key.Hi = required (codes "hi") 0 max_time
rule_of key.Bytes = required (codes "bytes") 0 any
rule_of key.Session = required (codes "session") 0 (2 ^ 32 - 1)
rule_of key.Number = required (codes "number") 0 any
rule_of key.Floor = required (codes "floor") 0 any
rule_of key.Base = required (codes "base") 0 max_time
rule_of key.Rounds = required (codes "rounds") 1 1000
rule_of key.Turns = required (codes "turns") 1 1000
rule_of key.Masters = required (codes "masters") 0 any
rule_of key.Sessions = required (codes "sessions") 0 any
rule_of key.LeaseLo = optional (codes "lease_lo") max_time 0
rule_of key.LeaseHi = optional (codes "lease_hi") max_time max_time
rule_of key.Uncertainty = required (codes "uncertainty") 0 max_time
rule_of key.Acts = required (codes "acts") 1 64
