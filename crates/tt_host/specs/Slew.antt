-- How fast `CLOCK_MONOTONIC`, which an NTP daemon slews, goes against the raw clock.
use Rattle.std.specs.Prelude.{◌≤◌, ◌+◌, ◌-◌, ◌*◌, ◌/◌, ◌&&◌, ℕ, Bool, true, false, not, nat_le, nat_lt, min, if◌then◌else◌, Option, Some, None, ◌^◌}
use Rattle.tt_span.specs.Drift.{distance}
use Rattle.tt_host.specs.declared.slews.SlewLook.{SlewLook}
use Rattle.tt_host.specs.declared.slews.SlewNews.{SlewNews}
use Rattle.tt_host.specs.declared.slews.SlewNews.TheVariants.{Nothing, Begun, Over}
use Rattle.tt_host.specs.declared.slews.SlewRate.{SlewRate}
use Rattle.tt_host.specs.declared.slews.SlewWatch.{SlewWatch}
use Rattle.tt_host.specs.declared.slews.Slewing.{Slewing}

-- when a look read the slewed clock, the raw one showed r
pub record LooksAt (look : SlewLook) (r : ℕ) : Type 0 where
  pub since : look.before ≤ r
  pub until : r ≤ look.after

-- while the raw clock went on by r, the slewed one went on by m: no more than so many parts per million of m faster or slower
abbrev pub KeepsSlew : ℕ → ℕ → ℕ → Type 0
KeepsSlew slew r m = distance r m * 1000000 ≤ slew * m

-- how far a distance lies outside these bounds
abbrev pub gap_between : ℕ → ℕ → ℕ → ℕ
gap_between distance least most = if nat_lt distance least then least - distance else distance - most

-- by two looks the slewed clock may have kept the bound
abbrev pub keeps_slew : SlewLook → SlewLook → ℕ → Bool
keeps_slew earlier later slew = nat_le earlier.slewed later.slewed
    && nat_le (gap_between (later.slewed - earlier.slewed) (later.before - earlier.after) (later.after - earlier.before) * 1000000) (slew * (later.slewed - earlier.slewed))

-- twice the middle of a look by the raw clock
abbrev pub middle_of : SlewLook → ℕ
middle_of look = look.before + look.after

-- the rate by how far both clocks went on, each twice
abbrev pub rate_by : ℕ → ℕ → SlewRate
rate_by raw slewed = record { below = nat_lt slewed raw; size = min (distance slewed raw * 1000000000 / raw) (2 ^ 64 - 1) }

-- how fast the slewed clock went between two looks, if the raw one went on
abbrev pub rate_between : SlewLook → SlewLook → Option SlewRate
rate_between earlier later = if nat_le (middle_of later) (middle_of earlier) then None else Some (rate_by (middle_of later - middle_of earlier) (2 * (later.slewed - earlier.slewed)))

-- ---- what a watch knows

-- nothing is known
abbrev pub new_slewing : Slewing
new_slewing = record { rate = None; is_too_fast = false; begun = 0 }

-- no look was made
abbrev pub new_watch : SlewWatch
new_watch = record { last = None; slewing = new_slewing }

-- one more than n at the beginning of a break of the bound, up to the greatest number of 64 bits
abbrev pub begun_after : Bool → ℕ → ℕ
begun_after begins n = min (n + (if begins then 1 else 0)) (2 ^ 64 - 1)

-- what is known after two looks
abbrev pub slewing_after : Slewing → SlewLook → SlewLook → ℕ → Slewing
slewing_after before earlier later slew = record {
  rate = rate_between earlier later;
  is_too_fast = not (keeps_slew earlier later slew);
  begun = begun_after (not (keeps_slew earlier later slew) && not before.is_too_fast) before.begun;
}

-- what is known once there was a look before, or none
abbrev pub slewing_by : Option SlewLook → Slewing → SlewLook → ℕ → Slewing
slewing_by None before look slew = before
slewing_by (Some last) before look slew = slewing_after before last look slew

-- the watch after one more look
abbrev pub watch_after : SlewWatch → SlewLook → ℕ → SlewWatch
watch_after watch look slew = record { last = Some look; slewing = slewing_by watch.last watch.slewing look slew }

-- what changed: whether the bound was broken before, and is now
abbrev pub news_of : Bool → Bool → SlewNews
news_of false true = Begun
news_of true false = Over
news_of false false = Nothing
news_of true true = Nothing
