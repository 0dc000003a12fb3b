-- Stamps in the lease of a session that has set none, and what is left of a lease without the stampers' interval.
use Rattle.std.proofs.Common.{◌≡◌, ℕ, ◌+◌, ◌-◌, ◌<◌, ◌≤◌, max, min, nat_lt, if◌then◌else◌, Bool, true, false, Option, Some, None, Result, Err, refl, sym, ap, ◌∙◌, subst, arith}
use Rattle.std.specs.Prelude.{MatchBool}
use Rattle.std.proofs.lemmas.Bool.{le-ltb, ltb-true}
use Rattle.tt_span.specs.Time.{max_time}
use Rattle.tt_span.specs.Interval.{Interval, IsInterval, Holds, whole}
use Rattle.tt_stamp.specs.Stamping.{SeatState}
use Rattle.tt_stamp.specs.Steps.{Stamps}
use Rattle.tt_stamp.specs.declared.faults.StampFault.{StampFault}
use Rattle.tt_stamp.specs.declared.faults.StampFault.TheVariants.{LeaseOver}
use Rattle.tt_connections.specs.Station.{StampsIn, common, nowhere, room_in}

-- a stamp in an interval that holds a time
pub stamps_some : (room : Interval) (floor : ℕ) (reading : Interval) (old : SeatState) (answer : Result ℕ StampFault) (new : SeatState) → room.lo ≤ room.hi → Stamps floor room reading old answer new → StampsIn room floor reading old answer new
stamps_some room floor reading old answer new order stamps =
    subst (λ (over : Bool). MatchBool over ((answer ≡ Err LeaseOver) × (new ≡ old)) (Stamps floor room reading old answer new)) (sym (le-ltb room.hi room.lo order)) stamps

-- what a lease has in common with the whole of time is the lease
pub common_whole : (lease : Interval) → IsInterval lease → common whole lease ≡ lease
common_whole lease valid =
    let low : max 0 lease.lo ≡ lease.lo = omega arith in
    let high : min max_time lease.hi ≡ lease.hi = omega (arith, valid.in_time) in
    ap (λ (n : ℕ). record { lo = n; hi = min max_time lease.hi }) low ∙ ap (λ (n : ℕ). record { lo = lease.lo; hi = n }) high

-- so a session that has set no lease, on a machine without stampers, stamps in that of the machine
pub stamps_whole : (floor : ℕ) (lease reading : Interval) (old : SeatState) (answer : Result ℕ StampFault) (new : SeatState) → IsInterval lease → Stamps floor lease reading old answer new → StampsIn (room_in None (common whole lease) (max reading.hi floor)) floor reading old answer new
stamps_whole floor lease reading old answer new valid stamps =
    stamps_some (common whole lease) floor reading old answer new (omega (arith, valid.ordered, valid.in_time)) (subst (λ (l : Interval). Stamps floor l reading old answer new) (sym (common_whole lease valid)) stamps)

-- ---- what a stamp may lie in is a part of the lease
low_side : (stampers lease : Interval) (time s : ℕ) (is_below : Bool) → Holds (if is_below then record { lo = lease.lo; hi = min lease.hi (stampers.lo - 1) } else nowhere) s → Holds lease s
low_side stampers lease time s true inside = (omega (arith, inside.0), omega (arith, inside.1))
low_side stampers lease time s false inside = absurd (omega (arith, inside.0, inside.1))

high_side : (stampers lease : Interval) (time s : ℕ) (is_above : Bool) → Holds (if is_above then record { lo = max lease.lo (stampers.hi + 1); hi = lease.hi } else (if nat_lt time stampers.lo then record { lo = lease.lo; hi = min lease.hi (stampers.lo - 1) } else nowhere)) s → Holds lease s
high_side stampers lease time s true inside = (omega (arith, inside.0), omega (arith, inside.1))
high_side stampers lease time s false inside = low_side stampers lease time s (nat_lt time stampers.lo) inside

pub room_within : (stampers : Option Interval) (lease : Interval) (least s : ℕ) → Holds (room_in stampers lease least) s → Holds lease s
room_within None lease least s inside = inside
room_within (Some stampers) lease least s inside = high_side stampers lease (max least lease.lo) s (nat_lt stampers.hi (max least lease.lo)) inside

-- ---- and no part of the stampers' interval
low_apart : (stampers lease : Interval) (time s : ℕ) (is_below : Bool) → nat_lt time stampers.lo ≡ is_below → Holds (if is_below then record { lo = lease.lo; hi = min lease.hi (stampers.lo - 1) } else nowhere) s → Holds stampers s → ⊥
low_apart stampers lease time s true below inside holds = let less : time < stampers.lo = ltb-true time stampers.lo below in omega (arith, less, inside.1, holds.0)
low_apart stampers lease time s false below inside holds = omega (arith, inside.0, inside.1)

high_apart : (stampers lease : Interval) (time s : ℕ) (is_above : Bool) → Holds (if is_above then record { lo = max lease.lo (stampers.hi + 1); hi = lease.hi } else (if nat_lt time stampers.lo then record { lo = lease.lo; hi = min lease.hi (stampers.lo - 1) } else nowhere)) s → Holds stampers s → ⊥
high_apart stampers lease time s true inside holds = omega (arith, inside.0, holds.1)
high_apart stampers lease time s false inside holds = low_apart stampers lease time s (nat_lt time stampers.lo) refl inside holds

pub room_apart : (stampers lease : Interval) (least s : ℕ) → Holds (room_in (Some stampers) lease least) s → Holds stampers s → ⊥
room_apart stampers lease least s inside holds = high_apart stampers lease (max least lease.lo) s (nat_lt stampers.hi (max least lease.lo)) inside holds
