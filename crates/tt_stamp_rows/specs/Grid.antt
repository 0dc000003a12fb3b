-- The rule of stamps on a grid, with a limit of its own for floors that lie ahead.
use Rattle.std.specs.Prelude.{◌≡◌, ℕ, ◌+◌, ◌-◌, ◌*◌, ◌/◌, ◌<◌, ◌≤◌, nat_lt, if◌then◌else◌, List, Result, Ok, Err}
use Rattle.tt_span.specs.Time.{max_time}
use Rattle.tt_span.specs.Interval.{Interval}
use Rattle.tt_stamp.specs.Stamp.{MayGive, least_from}
use Rattle.tt_stamp.specs.declared.faults.StampFault.{StampFault}
use Rattle.tt_stamp.specs.declared.faults.StampFault.TheVariants.{UsedUp, FloorTooFar, LeaseOver}

-- s is a multiple of the grid
abbrev pub IsOnGrid : ℕ → ℕ → Type 0
IsOnGrid grid s = (k : ℕ) × (s ≡ k * grid)

-- s may be given by the rule of stamps, and is on the grid
pub record MayGiveOn (grid : ℕ) (given : List ℕ) (latest floor : ℕ) (lease : Interval) (s : ℕ) : Type 0 where
  pub may_give : MayGive given latest floor lease s
  pub on_grid : IsOnGrid grid s

-- s is the least that may be given on the grid
pub record IsLeastOn (grid : ℕ) (given : List ℕ) (latest floor : ℕ) (lease : Interval) (s : ℕ) : Type 0 where
  pub may_give : MayGiveOn grid given latest floor lease s
  pub least : (t : ℕ) → MayGiveOn grid given latest floor lease t → s ≤ t

-- nothing on the grid may be given
abbrev pub HasNoneOn : ℕ → List ℕ → ℕ → ℕ → Interval → Type 0
HasNoneOn grid given latest floor lease = (s : ℕ) → ¬ MayGiveOn grid given latest floor lease s

-- the least that may be given on the grid is past the end of the lease
abbrev pub IsPastLeaseOn : ℕ → List ℕ → ℕ → ℕ → Interval → Type 0
IsPastLeaseOn grid given latest floor lease = (s : ℕ) × IsLeastOn grid given latest floor lease s × (lease.hi < s)

-- the floor is further ahead of the latest than this
abbrev pub IsAheadBy : ℕ → ℕ → ℕ → Type 0
IsAheadBy ahead latest floor = latest + ahead < floor

-- this is the answer to a commit: the least stamp on the grid, if it lies in the lease, or the first reason why none is given
abbrev pub IsAnswerOn : ℕ → ℕ → List ℕ → ℕ → ℕ → Interval → Result ℕ StampFault → Type 0
IsAnswerOn ahead grid given latest floor lease (Ok s) = (¬ IsAheadBy ahead latest floor) × IsLeastOn grid given latest floor lease s × (s ≤ lease.hi)
IsAnswerOn ahead grid given latest floor lease (Err FloorTooFar) = IsAheadBy ahead latest floor
IsAnswerOn ahead grid given latest floor lease (Err UsedUp) = (¬ IsAheadBy ahead latest floor) × HasNoneOn grid given latest floor lease
IsAnswerOn ahead grid given latest floor lease (Err LeaseOver) = (¬ IsAheadBy ahead latest floor) × IsPastLeaseOn grid given latest floor lease
IsAnswerOn ahead grid given latest floor lease (Err _) = ⊥

-- the least multiple of the grid that is no less than n
abbrev pub rounded_up : ℕ → ℕ → ℕ
rounded_up grid n = (n + (grid - 1)) / grid * grid

-- the answer to a commit, computed
abbrev pub stamp_on : ℕ → ℕ → List ℕ → ℕ → ℕ → Interval → Result ℕ StampFault
stamp_on ahead grid given latest floor lease =
    if nat_lt (latest + ahead) floor then Err FloorTooFar
    else (if nat_lt max_time (rounded_up grid (least_from given latest floor lease)) then Err UsedUp
    else (if nat_lt lease.hi (rounded_up grid (least_from given latest floor lease)) then Err LeaseOver
    else Ok (rounded_up grid (least_from given latest floor lease))))
