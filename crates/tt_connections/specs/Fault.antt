-- The numbers of the refusals of a station.
use Rattle.std.specs.Prelude.{ℕ}
use Rattle.tt_connections.specs.declared.faults.StationFault.{StationFault}
use Rattle.tt_connections.specs.declared.faults.StationFault.TheVariants.{FloorAboveCap, ClientLeft, Broken, TooWide}

-- the number of each refusal
abbrev pub number_of : StationFault → ℕ
number_of FloorAboveCap = 1821
number_of ClientLeft = 1822
number_of Broken = 1823
number_of TooWide = 1824
