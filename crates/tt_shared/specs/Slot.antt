-- A publication as the bytes of a slot.
use Rattle.std.specs.Prelude.{ℕ, ◌<◌, ◌≡◌, ◌≤◌, ◌^◌, ◌-◌, List, ◌++◌, replicate}
use Rattle.std.specs.Int.{w64, to_le_bytes}
use Rattle.tt_span.specs.Time.{max_time}
use Rattle.tt_span.specs.Interval.{IsInterval}
use Rattle.tt_span.specs.Drift.{max_drift}
use Rattle.tt_shared.specs.Layout.{slot_len, used_len}
use Rattle.tt_shared.specs.declared.bases.SlewedBase.{SlewedBase}
use Rattle.tt_shared.specs.declared.slots.SharedSpan.{SharedSpan}

-- the numbers of a second base are in range
pub record IsSlewed (b : SlewedBase) : Type 0 where
  pub clock_in : b.fused.clock ≤ max_time
  pub span_in : IsInterval b.fused.span
  pub drift_in : b.drift ≤ max_drift
  pub valid_fits : b.valid_until < 2 ^ 64
  pub usable_fits : b.usable_until < 2 ^ 64

-- the numbers of a publication are in range, those of its second base too
pub record IsShared (p : SharedSpan) : Type 0 where
  pub clock_in : p.fused.clock ≤ max_time
  pub span_in : IsInterval p.fused.span
  pub valid_fits : p.valid_until < 2 ^ 64
  pub usable_fits : p.usable_until < 2 ^ 64
  pub epoch_fits : p.epoch < 2 ^ 64
  pub number_fits : p.number < 2 ^ 64
  pub drift_in : p.drift ≤ max_drift
  pub slewed_in : IsSlewed p.slewed

-- no second base: each of its numbers is 0
abbrev pub no_base : SlewedBase
no_base = record { fused = record { clock = 0; span = record { lo = 0; hi = 0 } }; drift = 0; valid_until = 0; usable_until = 0 }

-- a second base: six numbers of eight bytes
abbrev pub base_of : SlewedBase → List ℕ
base_of b = to_le_bytes w64 b.fused.clock ++ (to_le_bytes w64 b.fused.span.lo ++ (to_le_bytes w64 b.fused.span.hi
    ++ (to_le_bytes w64 b.drift ++ (to_le_bytes w64 b.valid_until ++ to_le_bytes w64 b.usable_until))))

-- nine numbers of eight bytes, the lowest byte first, the second base, and then zeros
unfoldable pub slot_of : ℕ → SharedSpan → List ℕ
slot_of index p = to_le_bytes w64 index ++ (to_le_bytes w64 p.fused.clock ++ (to_le_bytes w64 p.fused.span.lo ++ (to_le_bytes w64 p.fused.span.hi
    ++ (to_le_bytes w64 p.valid_until ++ (to_le_bytes w64 p.epoch ++ (to_le_bytes w64 p.number ++ (to_le_bytes w64 p.drift ++ (to_le_bytes w64 p.usable_until
    ++ (base_of p.slewed ++ replicate (slot_len - used_len) 0)))))))))

-- the bytes are the slot of the publication under the index, and its numbers are in range
abbrev pub IsSlotOf : ℕ → SharedSpan → List ℕ → Type 0
IsSlotOf index p bytes = IsShared p × (bytes ≡ slot_of index p)
