-- What each machine is set up with.
use Rattle.std.specs.Prelude.{ℕ, List, slice_index_or}
use Rattle.tt_daemon.specs.Config.{Configuration, no_configuration}

-- the greatest number of machines
abbrev pub max_machines : ℕ
max_machines = 8

-- the set-up of machine m
abbrev pub config_at : List Configuration → ℕ → Configuration
config_at configs m = slice_index_or configs m no_configuration
