-- What a read of a socket gives.
use Rattle.std.specs.Prelude.{ℕ, ℤ, pos, negsuc, ◌≤◌, ◌==◌, Bool, ◌||◌, if◌then◌else◌, Option, Some, None}
use Rattle.tt_rounds.specs.declared.datagrams.Arrival.{Arrival}
use Rattle.tt_rounds.specs.declared.datagrams.Arrival.TheVariants.{Came, Again, Nothing, Failed}

-- a packet that came has no more bytes than are received
abbrev pub FitsPacket : Arrival → Type 0
FitsPacket (Came _ length) = length ≤ 64
FitsPacket _ = Unit {0}

-- an error that says that no packet is there: it would block, or the wait ended
abbrev pub is_empty : ℕ → Bool
is_empty n = n == 11 || n == 110

-- an error of this one call: a signal (4), or what became of a packet that was sent before, which was not permitted (1, 13) or which the network refused
abbrev pub is_passing : ℕ → Bool
is_passing n = n == 1 || n == 4 || n == 13 || n == 64 || n == 71 || n == 90 || n == 92 || n == 95 || n == 100 || n == 101
    || n == 104 || n == 111 || n == 112 || n == 113

-- what a read that failed with this error gave
abbrev pub look_of : Option ℤ → Arrival
look_of (Some (pos n)) = if is_empty n then Nothing else if is_passing n then Again else Failed
look_of (Some (negsuc n)) = Failed
look_of None = Failed
