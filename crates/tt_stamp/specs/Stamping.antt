-- The stamps that the seats of one sequencer gave, newest first.
use Rattle.std.specs.Prelude.{ℕ, ◌≡◌, ◌<◌, ◌≤◌, ◌==◌, ◌||◌, Bool, true, false, List, [], ◌∷◌, ◌++◌, map, filter, Option, Some, None}
use Rattle.atomic_table.specs.Seated.{TableId}
use Rattle.tt_span.specs.Interval.{Interval}
use Rattle.tt_stamp.specs.Stamp.{IsLeastStamp, IsTooFar}
use Rattle.tt_stamp.specs.declared.stampings.Stamping.{Stamping}

-- the most seats of a sequencer
abbrev pub max_seats : ℕ
max_seats = 32

-- the stamps alone
abbrev pub stamps_of : List Stamping → List ℕ
stamps_of run = map (λ entry. entry.stamp) run

-- whether the number is among these
abbrev pub is_in : List ℕ → ℕ → Bool
is_in [] n = false
is_in (m ∷ numbers) n = (m == n) || is_in numbers n

-- the entries under these numbers
abbrev pub entries_of : List ℕ → List Stamping → List Stamping
entries_of numbers run = filter (λ entry. is_in numbers entry.number) run

-- after these, the entry's stamp is what the rule gives and lies in its lease, and its number is that of a seat
pub record MayAdd (seats : ℕ) (past : List Stamping) (entry : Stamping) : Type 0 where
  pub of_a_seat : entry.number < seats
  pub near : ¬ IsTooFar entry.latest entry.floor
  pub least : IsLeastStamp (stamps_of past) entry.latest entry.floor entry.lease entry.stamp
  pub in_lease : entry.stamp ≤ entry.lease.hi

-- each entry may follow those before it
abbrev pub IsLegalRun : ℕ → List Stamping → Type 0
IsLegalRun seats [] = Unit {0}
IsLegalRun seats (entry ∷ past) = MayAdd seats past entry × IsLegalRun seats past

-- new is old and zero or more entries after it
abbrev pub Continues : List Stamping → List Stamping → Type 0
Continues old new = (later : List Stamping) × (new ≡ later ++ old)

-- the last stamp, if there is one
abbrev pub last_of : List Stamping → Option ℕ
last_of [] = None
last_of (entry ∷ past) = Some entry.stamp

-- what contracts see of a seat: its sequencer, how many seats that has, its numbers, what it has seen, and its own entries in it
pub record SeatState : Type 0 where
  pub table : TableId
  pub seats : ℕ
  pub numbers : List ℕ
  pub seen : List Stamping
  pub own : List Stamping

-- the k-th seat of a new sequencer
abbrev pub new_seat : TableId → ℕ → ℕ → SeatState
new_seat table seats k = record { table = table; seats = seats; numbers = k ∷ []; seen = []; own = [] }

-- it is the same seat, and what it has seen is legal and has just its own entries under its numbers
pub record IsSameSeat (old new : SeatState) : Type 0 where
  pub table : new.table ≡ old.table
  pub seats : new.seats ≡ old.seats
  pub numbers : new.numbers ≡ old.numbers
  pub legal : IsLegalRun new.seats new.seen
  pub mine : entries_of new.numbers new.seen ≡ new.own

-- what the seat has seen is legal, and has just its own entries under its numbers
pub record IsLegalSeat (seat : SeatState) : Type 0 where
  pub legal : IsLegalRun seat.seats seat.seen
  pub mine : entries_of seat.numbers seat.seen ≡ seat.own

-- the seat has looked: it may have seen more, and gave no stamp
pub record SeatLooks (old new : SeatState) : Type 0 where
  pub same : IsSameSeat old new
  pub after : Continues old.seen new.seen
  pub own : new.own ≡ old.own

-- the seat gave a stamp: what it has seen goes on, and ends with this entry, the one by which its own grow
pub record Gives (old new : SeatState) (latest floor : ℕ) (lease : Interval) (stamp : ℕ) : Type 0 where
  pub same : IsSameSeat old new
  pub number : ℕ
  pub of_seat : is_in old.numbers number ≡ true
  pub between : List Stamping
  pub after : new.seen ≡ record { number = number; latest = latest; floor = floor; lease = lease; stamp = stamp } ∷ (between ++ old.seen)
  pub own : new.own ≡ record { number = number; latest = latest; floor = floor; lease = lease; stamp = stamp } ∷ old.own

-- two seats were joined: the one has seen what both had, and has the numbers and the own entries of both, and no others
pub record Unites (first second both : SeatState) : Type 0 where
  pub table : both.table ≡ first.table
  pub seats : both.seats ≡ first.seats
  pub numbers : both.numbers ≡ first.numbers ++ second.numbers
  pub after_first : Continues first.seen both.seen
  pub after_second : Continues second.seen both.seen
  pub own : entries_of both.numbers both.seen ≡ both.own
  pub own_of_first : entries_of first.numbers both.own ≡ first.own
  pub own_of_second : entries_of second.numbers both.own ≡ second.own
  pub legal : IsLegalRun both.seats both.seen
