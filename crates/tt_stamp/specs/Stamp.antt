-- The rule by which a commit gets its stamp.
use Rattle.std.specs.Prelude.{ℕ, ◌+◌, ◌<◌, ◌≤◌, max, nat_lt, if◌then◌else◌, List, [], ◌∷◌, All, Option, Some, None, unwrap_or, Result, Ok, Err}
use Rattle.tt_span.specs.Time.{max_time}
use Rattle.tt_span.specs.Interval.{Interval}
use Rattle.tt_stamp.specs.declared.faults.StampFault.{StampFault}
use Rattle.tt_stamp.specs.declared.faults.StampFault.TheVariants.{UsedUp, FloorTooFar, LeaseOver}

-- how far a floor may lie ahead of the latest, in nanoseconds
abbrev pub max_ahead : ℕ
max_ahead = 10000000000

-- after these stamps, s may be given to a commit whose reading ends at this latest, that wants this floor, and whose leader's lease has begun at s
pub record MayGive (given : List ℕ) (latest floor : ℕ) (lease : Interval) (s : ℕ) : Type 0 where
  pub in_time : s ≤ max_time
  pub from_latest : latest ≤ s
  pub from_floor : floor ≤ s
  pub from_lease : lease.lo ≤ s
  pub above_all : All (λ t. t < s) given

-- s is the least that may be given
pub record IsLeastStamp (given : List ℕ) (latest floor : ℕ) (lease : Interval) (s : ℕ) : Type 0 where
  pub may_give : MayGive given latest floor lease s
  pub least : (t : ℕ) → MayGive given latest floor lease t → s ≤ t

-- nothing may be given
abbrev pub HasNoStamp : List ℕ → ℕ → ℕ → Interval → Type 0
HasNoStamp given latest floor lease = (s : ℕ) → ¬ MayGive given latest floor lease s

-- the least that may be given is past the end of the lease
abbrev pub IsPastLease : List ℕ → ℕ → ℕ → Interval → Type 0
IsPastLease given latest floor lease = (s : ℕ) × IsLeastStamp given latest floor lease s × (lease.hi < s)

-- the floor is further ahead of the latest than it may be
abbrev pub IsTooFar : ℕ → ℕ → Type 0
IsTooFar latest floor = latest + max_ahead < floor

-- this is the answer to a commit: the least stamp that may be given, where it lies in the lease, or the first reason why none is
abbrev pub IsAnswer : List ℕ → ℕ → ℕ → Interval → Result ℕ StampFault → Type 0
IsAnswer given latest floor lease (Ok s) = (¬ IsTooFar latest floor) × IsLeastStamp given latest floor lease s × (s ≤ lease.hi)
IsAnswer given latest floor lease (Err FloorTooFar) = IsTooFar latest floor
IsAnswer given latest floor lease (Err UsedUp) = (¬ IsTooFar latest floor) × HasNoStamp given latest floor lease
IsAnswer given latest floor lease (Err LeaseOver) = (¬ IsTooFar latest floor) × IsPastLease given latest floor lease
IsAnswer given latest floor lease (Err _) = ⊥

-- the least number that is above every stamp given
abbrev pub least_above : List ℕ → ℕ
least_above [] = 0
least_above (s ∷ given) = max (s + 1) (least_above given)

-- the least number that is no less than the latest, the floor and the lease's start, and above every stamp given
abbrev pub least_from : List ℕ → ℕ → ℕ → Interval → ℕ
least_from given latest floor lease = max (max (max latest floor) lease.lo) (least_above given)

-- the answer to a commit, computed
abbrev pub stamp_of : List ℕ → ℕ → ℕ → Interval → Result ℕ StampFault
stamp_of given latest floor lease =
    if nat_lt (latest + max_ahead) floor then Err FloorTooFar
    else (if nat_lt max_time (least_from given latest floor lease) then Err UsedUp
    else (if nat_lt lease.hi (least_from given latest floor lease) then Err LeaseOver
    else Ok (least_from given latest floor lease)))

-- the greatest of the stamps given, if there is one
abbrev pub greatest_of : List ℕ → Option ℕ
greatest_of [] = None
greatest_of (s ∷ given) = Some (max s (unwrap_or (greatest_of given) 0))
