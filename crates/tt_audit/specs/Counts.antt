-- What is counted over the replies of a run.
use Rattle.std.specs.Prelude.{ℕ, ◌&&◌, not, nat_le, Bool, true, false, length}
use Rattle.tt_world.specs.declared.events.Reply.{Reply}
use Rattle.tt_world.specs.declared.events.Reply.TheVariants.{Published, Read, Released, Refused}

-- whether a reply is a refusal
abbrev pub is_refusal : Reply → Bool
is_refusal (Refused number) = true
is_refusal _ = false

-- whether a reply tells of a publication
abbrev pub is_publication : Reply → Bool
is_publication (Published number span) = true
is_publication _ = false

-- whether a reply is a reading
abbrev pub is_reading : Reply → Bool
is_reading (Read reading) = true
is_reading _ = false

-- whether a reply is a reading that does not hold this true time
abbrev pub is_wrong : ℕ → Reply → Bool
is_wrong at (Read reading) = not (nat_le reading.lo at && nat_le at reading.hi)
is_wrong at _ = false

-- how many commits a reply releases
abbrev pub released_in : Reply → ℕ
released_in (Released receipts) = length receipts
released_in _ = 0
