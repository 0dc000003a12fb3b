-- The numbers of the refusals.
use Rattle.std.specs.Prelude.{ℕ}
use Rattle.tt_trace.specs.declared.faults.PictureFault.{PictureFault}
use Rattle.tt_trace.specs.declared.faults.PictureFault.TheVariants.{Memory}

-- the number of each refusal
abbrev pub number_of : PictureFault → ℕ
number_of Memory = 1
