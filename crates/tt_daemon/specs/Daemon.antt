-- What a daemon knows, and what it fuses.
use Rattle.std.specs.Prelude.{◌≡◌, ℕ, ◌-◌, ◌<◌, ◌≤◌, ◌⊎◌, List, length, map}
use Rattle.tt_span.specs.Time.{max_time}
use Rattle.tt_span.specs.Interval.{Interval}
use Rattle.tt_source.specs.Table.{TableState, IsTable, new_table, source_at, known_of, stated_at}
use Rattle.tt_fuse.specs.Stated.{Stated, IsStated, statement_of}
use Rattle.tt_daemon.specs.Config.{Configuration, IsConfiguration}

-- what a machine is set up with, and what it knows of its sources
pub record DaemonState : Type 0 where
  pub config : Configuration
  pub table : TableState

-- the set-up is one that a machine can have, and the table is of as many sources and of the same drift
pub record IsDaemon (d : DaemonState) : Type 0 where
  pub configuration : IsConfiguration d.config
  pub table : IsTable d.table
  pub each_source : length d.table.sources ≡ d.config.sources
  pub same_drift : d.table.drift ≡ d.config.drift

-- the ends are those of what the sources of the table stated last
pub record AreEndsOfTable (table : TableState) (ends : Stated) : Type 0 where
  pub stated : IsStated ends
  pub same_drift : ends.drift ≡ table.drift
  pub same_statements : (i : ℕ) → statement_of ends i ≡ (source_at table i).statement

-- the daemon of a machine before its first poll in the life with this epoch, where that poll has this nonce, which is not 0
abbrev pub resumed_daemon : ℕ → Configuration → ℕ → ℕ → DaemonState
resumed_daemon machine config first epoch = record { config = config; table = new_table machine config.sources config.drift (first - 1) epoch }

-- the daemon of a machine before its first poll in the life with this epoch, where that poll has the nonce 1
abbrev pub new_daemon : ℕ → Configuration → ℕ → DaemonState
new_daemon machine config epoch = record { config = config; table = new_table machine config.sources config.drift 0 epoch }

-- the clock reading lies before that of the last poll or take that was not refused, or past the greatest time
abbrev pub IsBack : DaemonState → ℕ → Type 0
IsBack d clock = (clock < d.table.clock) ⊎ (max_time < clock)

-- the clock reading lies neither before that of the last poll or take that was not refused, nor past the greatest time
pub record IsForward (d : DaemonState) (clock : ℕ) : Type 0 where
  pub not_back : d.table.clock ≤ clock
  pub in_time : clock ≤ max_time

-- all sources but those that may lie have made a statement, or more
abbrev pub KnowsEnough : DaemonState → Type 0
KnowsEnough d = d.config.sources - d.config.faulty ≤ known_of d.table

-- the spans of the sources at a clock reading, by their numbers: each one's statement, aged, or the whole of time where it has made none
abbrev pub spans_of : DaemonState → ℕ → List Interval
spans_of d clock = map (λ source. stated_at d.config.drift source.statement clock) d.table.sources
