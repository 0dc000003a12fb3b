-- The first lines of a text.
use Rattle.std.specs.Prelude.{ℕ, suc, ◌-◌, ◌==◌, nat_le, if◌then◌else◌, List, [], ◌∷◌}

-- how many bytes the first lines have, with the ends of all but the last one
abbrev pub lines_length : ℕ → List ℕ → ℕ
lines_length lines [] = 0
lines_length lines (byte ∷ rest) =
    if byte == 10 then (if nat_le lines 1 then 0 else suc (lines_length (lines - 1) rest)) else suc (lines_length lines rest)
