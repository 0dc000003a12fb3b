-- What a daemon's rounds publish.
use Rattle.std.specs.Prelude.{◌≡◌, ℕ, ◌-◌, ◌+◌, ◌++◌, Bool, false, nat_lt, if◌then◌else◌, List, length, map, All, Option, Some, None, Result, Ok, Err}
use Rattle.std.specs.List.{last_or}
use Rattle.tt_span.specs.Interval.{Interval}
use Rattle.tt_fuse.specs.Depth.{slow_fusion}
use Rattle.tt_source.specs.Table.{known_of, is_back}
use Rattle.tt_daemon.specs.Daemon.{DaemonState, spans_of}
use Rattle.tt_daemon.specs.Publication.{Publication, IsPublication}
use Rattle.tt_daemon.specs.declared.faults.DaemonFault.{DaemonFault}
use Rattle.tt_daemon.specs.declared.faults.DaemonFault.TheVariants as daemon

-- a publication without its certificate, which the rest of it determines
pub record Fusion : Type 0 where
  pub clock : ℕ
  pub span : Interval
  pub spans : List Interval
  pub faulty : ℕ

-- the fusion of a publication
abbrev pub fusion_in : Publication → Fusion
fusion_in p = record { clock = p.clock; span = p.span; spans = p.spans; faulty = p.faulty }

-- the fusions of what is published, in order
abbrev pub fusions_in : List Publication → List Fusion
fusions_in items = map fusion_in items

-- the fusion of these spans, if there is a possible time
abbrev pub fusion_found : ℕ → List Interval → ℕ → Option Interval → Result Fusion DaemonFault
fusion_found clock spans faulty None = Err daemon.NoPoint
fusion_found clock spans faulty (Some span) = Ok (record { clock = clock; span = span; spans = spans; faulty = faulty })

-- what a daemon fuses at a clock reading, or the first refusal that applies
abbrev pub fusion_at : DaemonState → ℕ → Result Fusion DaemonFault
fusion_at d clock =
    if is_back d.table clock then Err daemon.ClockBack
    else (if nat_lt (known_of d.table) (d.config.sources - d.config.faulty) then Err daemon.Unknown
    else fusion_found clock (spans_of d clock) d.config.faulty (slow_fusion (spans_of d clock) d.config.faulty))

-- a clock reading lies before that of the last fusion
abbrev pub is_before : ℕ → Option Fusion → Bool
is_before clock None = false
is_before clock (Some last) = nat_lt clock last.clock

-- a clock reading lies before that of the last of these fusions
abbrev pub goes_back : List Fusion → ℕ → Bool
goes_back items clock = is_before clock (last_or None items)

-- what is published grew, by publications that were counted from the one number to the other
pub record Grows (old new : List Publication) (counted counts : ℕ) : Type 0 where
  pub added : List Publication
  pub grew : new ≡ old ++ added
  pub each : All IsPublication added
  pub count : counts ≡ counted + length added
