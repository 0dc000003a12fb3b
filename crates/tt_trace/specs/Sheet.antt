-- Where a time stands on the sheet. Lengths are in the units of the picture, times in nanoseconds.
use Rattle.std.specs.Prelude.{ℕ, ◌+◌, ◌-◌, ◌*◌, ◌/◌, min, max, List, fold}
use Rattle.tt_trace.specs.declared.marks.Mark.{Mark}
use Rattle.tt_trace.specs.declared.marks.Mark.TheVariants.{Fusion, Reading, Commit, Lie, Forgery}
use Rattle.tt_trace.specs.declared.sheets.Sheet.{Sheet}

-- the true time at which a mark begins
abbrev pub first_time : Mark → ℕ
first_time (Fusion band) = band.at
first_time (Reading band) = band.at
first_time (Commit course) = course.arrived
first_time (Lie band) = band.at
first_time (Forgery flag) = flag.at

-- the true time at which a mark ends
abbrev pub last_time : Mark → ℕ
last_time (Fusion band) = band.at
last_time (Reading band) = band.at
last_time (Commit course) = course.released
last_time (Lie band) = band.at
last_time (Forgery flag) = flag.at

-- how far the band of a mark goes from the true time; lies, which may go as far as they like, do not count
abbrev pub reach_of : Mark → ℕ
reach_of (Fusion band) = max (band.at - band.lo) (band.hi - band.at)
reach_of (Reading band) = max (band.at - band.lo) (band.hi - band.at)
reach_of _ = 0

-- the sheet with another mark on it
abbrev pub sheet_with : Sheet → Mark → Sheet
sheet_with sheet mark = record {
  start = min sheet.start (first_time mark);
  end = max sheet.end (last_time mark);
  reach = max sheet.reach (reach_of mark);
}

-- the sheet of no mark
abbrev pub empty_sheet : Sheet
empty_sheet = record { start = 18446744073709551615; end = 0; reach = 1 }

-- the sheet on which all these marks stand
abbrev pub sheet_of : List Mark → Sheet
sheet_of marks = fold sheet_with empty_sheet marks

-- the share of a length that a part is of a whole, the whole length at most
abbrev pub share_of : ℕ → ℕ → ℕ → ℕ
share_of part whole length = min (part * length / max whole 1) length

-- how far across a true time stands: from 170 at the start to 1100 at the end
abbrev pub across_of : Sheet → ℕ → ℕ
across_of sheet at = 170 + share_of (min at sheet.end - sheet.start) (sheet.end - sheet.start) 930

-- how far down the middle of a machine's lane stands
abbrev pub middle_of : ℕ → ℕ
middle_of machine = 132 + 190 * machine

-- how far down a time stands in the lane of a machine, at a true time: above the middle where it is later
abbrev pub upright_of : Sheet → ℕ → ℕ → ℕ → ℕ
upright_of sheet machine at time = (middle_of machine + share_of (at - time) sheet.reach 50) - share_of (time - at) sheet.reach 50

-- the true time of one of six ticks, the first at the start and the last at the end
abbrev pub tick_of : Sheet → ℕ → ℕ
tick_of sheet number =
    let first = min sheet.start sheet.end in
    first + share_of number 5 (sheet.end - first)
