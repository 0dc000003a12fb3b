-- How many sources of the time a machine may ask.
use Rattle.std.specs.Prelude.{ℕ}

-- the greatest number of sources
abbrev pub max_sources : ℕ
max_sources = 16
