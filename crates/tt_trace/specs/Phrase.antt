-- Words with numbers behind them.
use Rattle.std.specs.Prelude.{ℕ, List, ◌++◌}
use Rattle.std.specs.List.{flat_map}
use Rattle.tt_text.specs.Line.{space_and_number}

-- a word, and numbers, each behind one space
abbrev pub phrase : List ℕ → List ℕ → List ℕ
phrase word numbers = word ++ flat_map space_and_number numbers
