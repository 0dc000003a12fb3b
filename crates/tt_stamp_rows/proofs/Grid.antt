-- The least stamp on a grid.
use Rattle.std.proofs.Common.{◌≡◌, ℕ, ◌+◌, ◌-◌, ◌*◌, ◌/◌, ◌<◌, ◌≤◌, nat_lt, cond, Bool, true, false, List, Ok, Err, refl, arith}
use Rattle.std.proofs.Math.Nat.{mul-le-mul_right, add-mul, one-mul}
use Rattle.std.proofs.lemmas.Nat.{div-add-mod', mod_below}
use Rattle.std.proofs.lemmas.Bool.{ltb-true, ltb-false}
use Rattle.tt_span.specs.Time.{max_time}
use Rattle.tt_span.specs.Interval.{Interval}
use Rattle.tt_stamp.specs.Stamp.{max_ahead, least_from, stamp_of}
use Rattle.tt_stamp.specs.declared.faults.StampFault.TheVariants.{UsedUp, FloorTooFar, LeaseOver}
use Rattle.tt_stamp.proofs.Stamps.{MayGive-from_least_from, least_from-le}
use Rattle.tt_stamp_rows.specs.Grid.{MayGiveOn, IsLeastOn, HasNoneOn, IsAheadBy, IsAnswerOn, rounded_up, stamp_on}

-- ---- a number that is rounded up
pub rounded_up-from : (grid n : ℕ) → 0 < grid → n ≤ rounded_up grid n
rounded_up-from grid n some =
    omega (arith, div-add-mod' (n + (grid - 1)) grid, mod_below (n + (grid - 1)) grid some)

pub rounded_up-below : (grid n : ℕ) → 0 < grid → rounded_up grid n < n + grid
rounded_up-below grid n some =
    omega (arith, div-add-mod' (n + (grid - 1)) grid)

-- a multiple that is less has another factor, and is less by a grid at least
less-by_grid : (grid k q : ℕ) → k < q → k * grid + grid ≤ q * grid
less-by_grid grid k q less =
    let more : k + 1 ≤ q = omega arith in
    omega (arith, mul-le-mul_right grid more, add-mul k 1 grid, one-mul grid)

least_by : (grid n k : ℕ) (less : Bool) → nat_lt k ((n + (grid - 1)) / grid) ≡ less → 0 < grid → n ≤ k * grid → rounded_up grid n ≤ k * grid
least_by grid n k true e some from =
    absurd (omega (arith, less-by_grid grid k ((n + (grid - 1)) / grid) (ltb-true _ _ e), rounded_up-below grid n some))
least_by grid n k false e some from = mul-le-mul_right grid (ltb-false _ _ e)

pub rounded_up-least : (grid n k : ℕ) → 0 < grid → n ≤ k * grid → rounded_up grid n ≤ k * grid
rounded_up-least grid n k some from = least_by grid n k _ refl some from

pub rounded_up-one : (n : ℕ) → rounded_up 1 n ≡ n
rounded_up-one n =
    omega (arith, rounded_up-from 1 n (omega arith), rounded_up-below 1 n (omega arith))

-- ---- the answer
module _ (grid : ℕ) (given : List ℕ) (latest floor : ℕ) (lease : Interval) (some : 0 < grid) where
  abbrev stamp : ℕ
  stamp = rounded_up grid (least_from given latest floor lease)

  stamp-least : (t : ℕ) → MayGiveOn grid given latest floor lease t → stamp ≤ t
  stamp-least t may =
      let is : t ≡ may.on_grid.0 * grid = may.on_grid.1 in
      let from : least_from given latest floor lease ≤ t = least_from-le given latest floor lease t may.may_give in
      let least : stamp ≤ may.on_grid.0 * grid = rounded_up-least grid (least_from given latest floor lease) may.on_grid.0 some (omega (arith, from, is)) in
      omega (arith, least, is)

  IsLeastOn-stamp : stamp ≤ max_time → IsLeastOn grid given latest floor lease stamp
  IsLeastOn-stamp in_time = record {
    may_give = record {
      may_give = MayGive-from_least_from given latest floor lease stamp (rounded_up-from grid (least_from given latest floor lease) some) in_time;
      on_grid = ((least_from given latest floor lease + (grid - 1)) / grid, refl);
    };
    least = stamp-least;
  }

  HasNoneOn-past_max : max_time < stamp → HasNoneOn grid given latest floor lease
  HasNoneOn-past_max past s may = omega (arith, stamp-least s may, may.may_give.in_time, past)

  within_lease : (ahead : ℕ) (over : Bool) → nat_lt lease.hi stamp ≡ over → (¬ IsAheadBy ahead latest floor) → stamp ≤ max_time → IsAnswerOn ahead grid given latest floor lease (cond over (Err LeaseOver) (Ok stamp))
  within_lease ahead true e near in_time = (near, (stamp, IsLeastOn-stamp in_time, ltb-true _ _ e))
  within_lease ahead false e near in_time = (near, IsLeastOn-stamp in_time, ltb-false _ _ e)

  within_time : (ahead : ℕ) (used : Bool) → nat_lt max_time stamp ≡ used → (¬ IsAheadBy ahead latest floor) → IsAnswerOn ahead grid given latest floor lease (cond used (Err UsedUp) (cond (nat_lt lease.hi stamp) (Err LeaseOver) (Ok stamp)))
  within_time ahead true e near = (near, HasNoneOn-past_max (ltb-true _ _ e))
  within_time ahead false e near = within_lease ahead _ refl near (ltb-false _ _ e)

  within_floor : (ahead : ℕ) (far : Bool) → nat_lt (latest + ahead) floor ≡ far → IsAnswerOn ahead grid given latest floor lease (cond far (Err FloorTooFar) (cond (nat_lt max_time stamp) (Err UsedUp) (cond (nat_lt lease.hi stamp) (Err LeaseOver) (Ok stamp))))
  within_floor ahead true e = ltb-true _ _ e
  within_floor ahead false e = within_time ahead _ refl (λ far. omega (arith, ltb-false _ _ e, far))

  pub IsAnswerOn-stamp_on : (ahead : ℕ) → IsAnswerOn ahead grid given latest floor lease (stamp_on ahead grid given latest floor lease)
  IsAnswerOn-stamp_on ahead = within_floor ahead _ refl

-- with the widest limit, and on the grid of all numbers, it is the rule of stamps
pub stamp_on-widest : (given : List ℕ) (latest floor : ℕ) (lease : Interval) → stamp_on max_ahead 1 given latest floor lease ≡ stamp_of given latest floor lease
stamp_on-widest given latest floor lease =
    rw (rounded_up-one (least_from given latest floor lease)) refl
