-- What a stamper is asked.
use Rattle.std.specs.Prelude.{ℕ, nat_lt, if◌then◌else◌, List, [], ◌∷◌, ◌++◌}
use Rattle.tt_span.specs.Interval.{Interval}
use Rattle.tt_stamp_rows.specs.declared.lines.Asked.{Asked}
use Rattle.tt_stamp_rows.specs.declared.lines.Limited.{Limited}

-- the numbers of the line that asks it
abbrev pub numbers_of : Asked → List ℕ
numbers_of asked = asked.last ∷ asked.reading.lo ∷ asked.reading.hi ∷ asked.floor ∷ asked.lease_lo ∷ asked.lease_hi ∷ []

-- the stamps that were given, as far as they count: the last one, or none where it is 0
abbrev pub given_after : ℕ → List ℕ
given_after last = if nat_lt 0 last then last ∷ [] else []

-- the lease, if its ends are in order
abbrev pub lease_in : Asked → Interval
lease_in asked = record { lo = asked.lease_lo; hi = asked.lease_hi }

-- the numbers of the line that asks a stamper with limits
abbrev pub numbers_in : Limited → List ℕ
numbers_in limited = numbers_of limited.asked ++ limited.ahead ∷ limited.grid ∷ []
