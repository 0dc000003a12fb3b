-- Which rates of a clock a drift covers. A drift bounds the error of a clock as a part of the clock's own distance.
use Rattle.std.specs.Prelude.{ℕ, ◌+◌, ◌-◌, ◌*◌, ◌/◌, ◌≤◌}

-- while the time e passed, the clock went on by d, and lost at most so many parts of a billion of that time
abbrev pub LosesAtMost : ℕ → ℕ → ℕ → Type 0
LosesAtMost part d e = e * 1000000000 ≤ d * 1000000000 + e * part

-- while the time e passed, the clock went on by d, and gained at most so many parts of a billion of that time
abbrev pub GainsAtMost : ℕ → ℕ → ℕ → Type 0
GainsAtMost part d e = d * 1000000000 ≤ e * 1000000000 + e * part

-- the most that a clock may lose by a drift p, in parts of a billion of true time: p / (1 + p), rounded down
abbrev pub loss_covered : ℕ → ℕ
loss_covered ppm = ppm * 1000000000 / (1000000 + ppm)

-- the most that a clock may gain: p / (1 - p), rounded down
abbrev pub gain_covered : ℕ → ℕ
gain_covered ppm = ppm * 1000000000 / (1000000 - ppm)
