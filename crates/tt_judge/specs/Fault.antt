-- The numbers of the refusals.
use Rattle.std.specs.Prelude.{ℕ}
use Rattle.tt_judge.specs.declared.faults.HistoryFault.{HistoryFault}
use Rattle.tt_judge.specs.declared.faults.HistoryFault.TheVariants.{BadLine, Memory}

-- the number of each refusal
abbrev pub number_of : HistoryFault → ℕ
number_of (BadLine line) = 1603
number_of Memory = 1
