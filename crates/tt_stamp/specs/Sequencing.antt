-- The rule of a sequencer's word, and what each step of it tells.
use Rattle.std.specs.Prelude.{ℕ, ◌≡◌, ◌≢◌, ◌-◌, ◌<◌, ◌⊎◌, true, List, [], ◌∷◌, ◌++◌, length, take, drop}
use mathlib.Core.Option.{Option, some, none}
use lib.ListN.{get_elem?}
use Rattle.atomic_table.specs.Table.{Step, Me}
use Rattle.atomic_table.specs.Seated.{TableId}
use Rattle.tt_span.specs.Interval.{Interval}
use Rattle.tt_stamp.specs.Stamp.{least_above}
use Rattle.tt_stamp.specs.Stamping.{stamps_of, is_in, entries_of, IsLegalRun, Continues, SeatState}
use Rattle.tt_stamp.specs.declared.stampings.Stamping.{Stamping}
use Rattle.tt_stamp.specs.declared.stampings.Known.{Known}
use Rattle.tt_stamp.specs.declared.stampings.View.{View}
use Rattle.tt_stamp.specs.declared.requests.StampRequest.{StampRequest}

-- nothing is known
abbrev pub nothing : Known
nothing = record { numbers = []; seen = [] }

-- what a seat knows that has seen this run
abbrev pub view_of : ℕ → List ℕ → List Stamping → View
view_of seats numbers seen = record { seats = seats; numbers = numbers; first = record { numbers = numbers; seen = seen }; second = nothing }

-- the log goes on from what is known, and has no further entry under these numbers
pub record Follows (known : Known) (log : List Stamping) : Type 0 where
  pub after : Continues known.seen log
  pub own : entries_of known.numbers log ≡ entries_of known.numbers known.seen

-- the numbers are among these
abbrev pub AreAmong : List ℕ → List ℕ → Type 0
AreAmong some_numbers numbers = (n : ℕ) → is_in some_numbers n ≡ true → is_in numbers n ≡ true

-- what a seat knows fits the log
pub record Fits (seats : ℕ) (log : List Stamping) (v : View) : Type 0 where
  pub count : 0 < v.seats → v.seats ≡ seats
  pub below : (n : ℕ) → is_in v.numbers n ≡ true → n < seats
  pub first : Follows v.first log
  pub second : Follows v.second log
  pub first_among : AreAmong v.first.numbers v.numbers
  pub second_among : AreAmong v.second.numbers v.numbers

-- what each seat knows fits the log
abbrev pub AllFit : ℕ → List Stamping → List View → Type 0
AllFit seats log views = (id : ℕ) (v : View) → get_elem? views id ≡ some v → Fits seats log v

-- no number is two seats'
abbrev pub AreApart : List View → Type 0
AreApart views = (i j : ℕ) (v w : View) → get_elem? views i ≡ some v → get_elem? views j ≡ some w → (n : ℕ) → is_in v.numbers n ≡ true → is_in w.numbers n ≡ true → i ≡ j

-- there is a legal log of all stamps given; the word is the least number above them all; what each seat knows fits the log
pub record IsKept (seats : ℕ) (words : List ℕ) (views : List View) : Type 0 where
  pub log : List Stamping
  pub word : words ≡ least_above (stamps_of log) ∷ []
  pub legal : IsLegalRun seats log
  pub fit : AllFit seats log views
  pub apart : AreApart views

-- a load: the seat has seen the whole log, which the word that was found belongs to
pub record HasLooked (v : View) (found : ℕ) (w : View) : Type 0 where
  pub is : w ≡ view_of v.seats v.numbers w.first.seen
  pub first : Follows v.first w.first.seen
  pub second : Follows v.second w.first.seen
  pub word : found ≡ least_above (stamps_of w.first.seen)
  pub legal : 0 < v.seats → IsLegalRun v.seats w.first.seen

-- an exchange that found what it expected: the seat has seen the whole log, and after it its own entry
pub record HasGiven (v : View) (latest floor : ℕ) (lease : Interval) (stamp : ℕ) (w : View) : Type 0 where
  pub number : ℕ
  pub of_seat : is_in v.numbers number ≡ true
  pub before : List Stamping
  pub is : w ≡ view_of v.seats v.numbers (record { number = number; latest = latest; floor = floor; lease = lease; stamp = stamp } ∷ before)
  pub first : Follows v.first before
  pub legal : 0 < v.seats → IsLegalRun v.seats w.first.seen

-- what a load tells
abbrev pub TellsLook : Step StampRequest → Me StampRequest View → ℕ → Me StampRequest View → Type 0
TellsLook step before found after = HasLooked before.0 found after.0 × (after.1 ≡ before.1)

-- a stamp for what was asked
abbrev pub GivesFor : Option StampRequest → View → ℕ → View → Type 0
GivesFor (some ask) v stamp w = HasGiven v ask.latest ask.floor ask.lease stamp w
GivesFor none v stamp w = Unit {0}

-- what an exchange tells: it found the word that it expected, and gave the stamp below the new word, or it has only looked
abbrev pub TellsTry : Step StampRequest → Me StampRequest View → ℕ → Me StampRequest View → Type 0
TellsTry step before found after =
    ((found ≡ step.first) × GivesFor step.said before.0 (step.second - 1) after.0 × (after.1 ≡ before.1))
    ⊎ ((found ≢ step.first) × HasLooked before.0 found after.0 × (after.1 ≡ before.1))

-- a seat keeps all numbers but the first, which a new seat gets
abbrev pub dealt_left : View → View
dealt_left v = view_of v.seats (drop 1 v.numbers) v.first.seen

-- the new seat has that number alone, and knows what the seat has seen
abbrev pub dealt_right : View → View
dealt_right v = view_of v.seats (take 1 v.numbers) v.first.seen

-- two seats become one, which knows what each knew
abbrev pub joined_view : View → View → View
joined_view v w = record { seats = v.seats; numbers = v.numbers ++ w.numbers; first = v.first; second = w.first }

-- what is left of the other
abbrev pub spent_view : View
spent_view = record { seats = 0; numbers = []; first = nothing; second = nothing }

-- the seat, as contracts see it
abbrev pub state_of : TableId → View → SeatState
state_of table v = record { table = table; seats = v.seats; numbers = v.numbers; seen = v.first.seen; own = entries_of v.numbers v.first.seen }

-- between two calls a seat holds no slot, knows one thing alone, which is legal, and has a number
pub record IsAtRest (me : Me StampRequest View) : Type 0 where
  pub no_slot : me.1 ≡ []
  pub one : me.0 ≡ view_of me.0.seats me.0.numbers me.0.first.seen
  pub opened : 0 < me.0.seats
  pub numbered : 0 < length me.0.numbers
  pub legal : IsLegalRun me.0.seats me.0.first.seen
