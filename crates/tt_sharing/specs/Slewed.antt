-- The second base of what is shared: the publication by CLOCK_MONOTONIC, for readers that cannot read the machine's clock.
use Rattle.std.specs.Prelude.{ℕ, ◌≡◌, ◌≤◌, ◌+◌, ◌-◌, ◌*◌, ◌^◌, min, not, nat_eq, nat_le, ◌&&◌, if◌then◌else◌, Bool, Option, Some, None, unwrap_or}
use Rattle.tt_span.specs.Time.{max_time}
use Rattle.tt_span.specs.Interval.{Interval}
use Rattle.tt_span.specs.Drift.{Moment, max_drift, widening}
use Rattle.tt_publish.specs.Reading.{reading_at}
use Rattle.tt_shared.specs.declared.bases.SlewedBase.{SlewedBase}
use Rattle.tt_shared.specs.declared.slots.SharedSpan.{SharedSpan}
use Rattle.tt_sharing.specs.Share.{usable_until}
use Rattle.tt_host.specs.declared.slews.SlewLook.{SlewLook}

-- the drift of CLOCK_MONOTONIC where the machine's clock has this drift, and the two go apart by at most so many parts per million: both, and the one over the other, rounded up
abbrev pub slewed_drift : ℕ → ℕ → ℕ
slewed_drift drift slew = drift + slew + widening drift slew

-- the same, where a drift may be so great
abbrev pub slew_drift : ℕ → ℕ → Option ℕ
slew_drift drift slew = if nat_le (slewed_drift drift slew) max_drift then Some (slewed_drift drift slew) else None

-- the readings of a look are in time, and the machine's clock did not go back in it, nor behind the publication
abbrev pub is_forward : SharedSpan → SlewLook → Bool
is_forward p look = ((nat_le p.fused.clock look.before && nat_le look.before look.after) && nat_le look.after max_time) && nat_le look.slewed max_time

-- what the publication says over the whole of a look: from its earliest when the look began to its latest when the look was over
abbrev pub span_over : SharedSpan → SlewLook → Interval
span_over p look = record { lo = (reading_at p.drift p.fused look.before).lo; hi = (reading_at p.drift p.fused look.after).hi }

-- the second base by a look, with this drift: fresh for as long as the first is
abbrev pub base_with : SharedSpan → SlewLook → ℕ → ℕ → SlewedBase
base_with p look drift most = record {
  fused = record { clock = look.slewed; span = span_over p look };
  drift = drift;
  valid_until = min (look.slewed + (p.valid_until - look.after)) (2 ^ 64 - 1);
  usable_until = usable_until look.slewed (span_over p look) drift most;
}

-- a look gives a second base: it is in order, its drift is not too great, and there is a reading at which it may be used
abbrev pub gives_base : SharedSpan → SlewLook → ℕ → ℕ → Bool
gives_base p look slew most =
    (nat_le (slewed_drift p.drift slew) max_drift && is_forward p look) && not (nat_eq (usable_until look.slewed (span_over p look) (slewed_drift p.drift slew) most) 0)

-- the second base that a look gives
unfoldable pub base_by : SharedSpan → SlewLook → ℕ → ℕ → Option SlewedBase
base_by p look slew most = if gives_base p look slew most then Some (base_with p look (slewed_drift p.drift slew) most) else None

-- a publication with the second base that a look gives, or as it is where the look gives none
abbrev pub with_slewed : SharedSpan → SlewLook → ℕ → ℕ → SharedSpan
with_slewed p look slew most = record p { slewed = unwrap_or (base_by p look slew most) p.slewed }

-- ---- what the laws speak of

-- what the machine's clock and CLOCK_MONOTONIC showed at a true time
pub record BothClocks : Type 0 where
  pub raw : ℕ
  pub slewed : ℕ
  pub time : ℕ

-- the moment of the machine's clock
abbrev pub by_raw : BothClocks → Moment
by_raw both = record { clock = both.raw; time = both.time }

-- the moment of CLOCK_MONOTONIC
abbrev pub by_slewed : BothClocks → Moment
by_slewed both = record { clock = both.slewed; time = both.time }

-- the moment of a look: CLOCK_MONOTONIC showed its reading, between the two of the machine's clock
pub record IsAtLook (look : SlewLook) (both : BothClocks) : Type 0 where
  pub shown : both.slewed ≡ look.slewed
  pub since : look.before ≤ both.raw
  pub until : both.raw ≤ look.after
