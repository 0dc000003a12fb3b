-- What those who show publications and those who look at them know of each other: that they speak of one source.
use Rattle.std.specs.Prelude.{ℕ, ◌≡◌, List, Option, Some, None}
use mathlib.Core.Option.{some}
use lib.ListN.{get_elem?}
use Rattle.tt_publish.specs.Known.{Known, Source}

-- what a seat has seen is of the source of what is shown; a seat may have seen nothing
abbrev pub IsOf : Option Known → Known → Type 0
IsOf None shown = Unit {0}
IsOf (Some seen) shown = seen.source ≡ shown.source

-- all that the seats have seen is of the source of what is shown
abbrev pub HasOneSource : Known → List (Option Known) → Type 0
HasOneSource shown views = (seat : ℕ) (view : Option Known) → get_elem? views seat ≡ some view → IsOf view shown

-- a seat looks at what is shown, or shows it
abbrev pub Sees : Option Known → Known → Known → Option Known → Type 0
Sees before was shown after = IsOf before shown × (after ≡ Some shown)

-- the source of what a seat has seen
abbrev pub source_of : Option Known → Option Source
source_of None = None
source_of (Some seen) = Some seen.source
