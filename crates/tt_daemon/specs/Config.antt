-- What a machine is set up with.
use Rattle.std.specs.Prelude.{ℕ, ◌+◌, ◌*◌, ◌≤◌, ◌<◌}
use Rattle.tt_span.specs.Drift.{max_drift}
use Rattle.tt_span.specs.Sources.{max_sources}

-- the most workers that a machine has
abbrev pub max_workers : ℕ
max_workers = 32

-- the drift of a machine's clock where no other is given, in parts per million: 200 microseconds in a second, far more than a sound quartz clock gains or loses
abbrev pub default_drift : ℕ
default_drift = 200

-- one machine: how many sources it asks, how many of them may lie, the drift of its clock in parts per million, and its workers
pub record Configuration : Type 0 where
  pub sources : ℕ
  pub faulty : ℕ
  pub drift : ℕ
  pub workers : ℕ

-- a set-up that a machine can have
pub record IsConfiguration (c : Configuration) : Type 0 where
  pub some_source : 0 < c.sources
  pub not_too_many : c.sources ≤ max_sources
  pub enough : 2 * c.faulty + 1 ≤ c.sources
  pub drift_in : c.drift ≤ max_drift
  pub some_worker : 0 < c.workers
  pub workers_in : c.workers ≤ max_workers

-- no machine has this one
abbrev pub no_configuration : Configuration
no_configuration = record { sources = 0; faulty = 0; drift = 0; workers = 0 }
