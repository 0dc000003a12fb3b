-- The names of sources: which have one, when it is looked up, and what is new of it.
use Rattle.std.specs.Prelude.{◌≡◌, ◌≢◌, ◌⊎◌, ℕ, ◌-◌, ◌+◌, ◌*◌, ◌^◌, ◌&&◌, ◌||◌, not, min, nat_le, nat_lt, if◌then◌else◌, string_bytes, Bool, true, false, List, [], ◌∷◌, ◌++◌, Option, Some, None}
use Rattle.std.specs.List.{list_any}
use Rattle.std.specs.Option.{is_some}
use Rattle.std.specs.declared.net.socket_addr.SocketAddr.{SocketAddr}
use Rattle.tt_settings.specs.Master.{Master}
use Rattle.tt_settings.specs.Socket.{host_of}
use Rattle.tt_settings.specs.declared.plans.Pauses.{Pauses}
use Rattle.tt_telemetry.specs.Records.{one_more}
use Rattle.tt_server.specs.declared.names.Lookups.{Lookups}
use Rattle.tt_server.specs.declared.names.NamedSource.{NamedSource}

-- a source with a name: its number, the name and the port
pub record Named : Type 0 where
  pub source : ℕ
  pub host : List ℕ
  pub port : ℕ

-- what a source with a name is
abbrev pub named_as : NamedSource → Named
named_as named = record { source = named.source; host = string_bytes named.host; port = named.port }

-- the source with this number, if it has a name
abbrev pub named_at : ℕ → Option (List ℕ × ℕ) → List Named
named_at source (Some host) = record { source = source; host = host.0; port = host.1 } ∷ []
named_at source None = []

-- those of these masters that have a name, where the first of them is the source with this number
abbrev pub named_from : ℕ → List Master → List Named
named_from source [] = []
named_from source (master ∷ others) = named_at source (host_of master.address) ++ named_from (source + 1) others

-- a master has a name in the settings
abbrev pub is_named : Master → Bool
is_named master = is_some (host_of master.address)

-- some master has one
abbrev pub has_names : List Master → Bool
has_names masters = list_any is_named masters

-- a minute
abbrev pub minute : ℕ
minute = 60000000000

-- a clock showed this a minute ago or earlier, or it never did
abbrev pub is_long_ago : Option ℕ → ℕ → Bool
is_long_ago (Some clock) now = nat_le minute (now - clock)
is_long_ago None now = true

-- a name is looked up: its last lookup was a minute ago, and its source has been silent for a minute
abbrev pub is_lookup_due : Option ℕ → Option ℕ → ℕ → Bool
is_lookup_due tried answered now = is_long_ago tried now && is_long_ago answered now

-- a clock showed this so long ago or earlier, or it never did
abbrev pub has_passed : Option ℕ → ℕ → ℕ → Bool
has_passed (Some clock) now length = nat_le length (now - clock)
has_passed None now length = true

-- the next address of a source is asked: there are two at least, and the one that is asked has been silent for long since it was taken
abbrev pub is_turn_due : ℕ → Option ℕ → Option ℕ → ℕ → ℕ → Bool
is_turn_due count turned answered now patience = nat_le 2 count && (has_passed turned now patience && has_passed answered now patience)

-- the place behind this one of so many, and the first behind the last
abbrev pub next_place : ℕ → ℕ → ℕ
next_place count place = if nat_lt (place + 1) count then place + 1 else 0

-- four rounds of a pause and a wait, at most what 64 bits hold
abbrev pub patience_of : Pauses → ℕ
patience_of pauses = min (min (pauses.poll + pauses.wait) (2 ^ 64 - 1) * 4) (2 ^ 64 - 1)

-- what is known after a lookup that found this address, or none; the one that was found before stays
abbrev pub lookups_after : Option SocketAddr → Lookups → Lookups
lookups_after (Some address) l = record l { address = Some address; is_missing = false }
lookups_after None l = record l { missed = one_more l.missed; is_missing = true }

-- what is known once this address is asked, which was found before
abbrev pub lookups_asking : Option SocketAddr → Lookups → Lookups
lookups_asking (Some address) l = record l { address = Some address }
lookups_asking None l = l

-- the address that is new
abbrev pub IsNews : Option SocketAddr → Option SocketAddr → Option SocketAddr → Type 0
IsNews before after None = (after ≡ None) ⊎ (after ≡ before)
IsNews before after (Some address) = (after ≡ Some address) × (before ≢ Some address)

-- a lookup since then found none
abbrev pub has_missed : Lookups → Lookups → Bool
has_missed before after = nat_lt before.missed after.missed

-- the last lookup found an address, and one before it, since then or just before, found none
abbrev pub is_found_again : Lookups → Lookups → Bool
is_found_again before after = not after.is_missing && (before.is_missing || has_missed before after)
