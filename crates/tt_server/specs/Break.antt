-- How a break ends what clients are given, and that nothing else of it does.
use Rattle.std.specs.Prelude.{◌≡◌, ◌⊎◌, ℕ, List, [], ◌∷◌, ◌++◌, Option, Some, None, Result, option_map}
use Rattle.tt_daemon.specs.Publication.{Publication}
use Rattle.tt_daemon.specs.declared.faults.DaemonFault.{DaemonFault}
use Rattle.tt_publish.specs.Reading.{fused_span_of}
use Rattle.tt_publish.specs.declared.readings.FusedSpan.{FusedSpan}
use Rattle.tt_rounds.specs.declared.faults.NodeFault.{NodeFault}
use Rattle.tt_rounds.specs.declared.rounds.Rounds.{Rounds}
use Rattle.tt_health.specs.Break.{IsUnmet}
use Rattle.tt_settings.specs.declared.forms.OnBreak.{OnBreak}
use Rattle.tt_settings.specs.declared.forms.OnBreak.TheVariants.{End, Warn, Stay}
use Rattle.tt_status.specs.declared.breaks.BreakReason.{BreakReason}
use Rattle.tt_status.specs.declared.breaks.BreakReason.TheVariants.{Unmet, Slept, Disrupted}
use Rattle.tt_telemetry.specs.Records.{published_in}
use Rattle.tt_telemetry.specs.declared.records.Shown.{Shown}

-- ---- a life

-- each of these publications meets the one right before it
abbrev pub AllMeet : ℕ → List FusedSpan → Type 0
AllMeet drift (earlier ∷ later ∷ more) = (¬ IsUnmet drift earlier later) × AllMeet drift (later ∷ more)
AllMeet drift (only ∷ []) = Unit {0}
AllMeet drift [] = Unit {0}

-- the last of these publications does not meet the one right before it, and each one before the last does
abbrev pub EndsUnmet : ℕ → List FusedSpan → Type 0
EndsUnmet drift (earlier ∷ last ∷ []) = IsUnmet drift earlier last
EndsUnmet drift (earlier ∷ later ∷ next ∷ more) = (¬ IsUnmet drift earlier later) × EndsUnmet drift (later ∷ next ∷ more)
EndsUnmet drift (only ∷ []) = ⊥
EndsUnmet drift [] = ⊥

-- what the reason of an end, or none, tells of these publications. Without a reason all of them meet. That publications do not meet is the reason only if the last one does not meet the one before it; if the host slept or the guest was disrupted, it may be so too
abbrev pub TellsOfMeeting : ℕ → List FusedSpan → Option BreakReason → Type 0
TellsOfMeeting drift spans None = AllMeet drift spans
TellsOfMeeting drift spans (Some Unmet) = EndsUnmet drift spans
TellsOfMeeting drift spans (Some Slept) = AllMeet drift spans ⊎ EndsUnmet drift spans
TellsOfMeeting drift spans (Some Disrupted) = AllMeet drift spans ⊎ EndsUnmet drift spans

-- a life that published these ended with this reason, or with none. Where a break is only logged no life ends by one, and nothing is said of its publications
abbrev pub EndsBy : OnBreak → ℕ → List FusedSpan → Option BreakReason → Type 0
EndsBy End drift spans broken = TellsOfMeeting drift spans broken
EndsBy Stay drift spans broken = TellsOfMeeting drift spans broken
EndsBy Warn drift spans broken = broken ≡ None

-- ---- a round

-- what is shown of a publication, as its readers see it
abbrev pub seen_in : Option Shown → Option FusedSpan
seen_in shown = option_map (λ (s : Shown). s.fused) shown

-- what a round published, as its readers see it
abbrev pub came_in : Result Rounds NodeFault → Option (Result Publication DaemonFault) → Option FusedSpan
came_in did fusion = option_map fused_span_of (published_in did fusion)

-- the publications with that of a round behind, if it made one
abbrev pub with_came : List FusedSpan → Option FusedSpan → List FusedSpan
with_came spans None = spans
with_came spans (Some span) = spans ++ span ∷ []

-- the last publication after a round
abbrev pub last_with : Option FusedSpan → Option FusedSpan → Option FusedSpan
last_with last None = last
last_with last (Some span) = Some span

-- what a round published does not meet what was published last before it
abbrev pub AreUnmet : ℕ → Option FusedSpan → Option FusedSpan → Type 0
AreUnmet drift (Some last) (Some came) = IsUnmet drift last came
AreUnmet drift None came = ⊥
AreUnmet drift (Some last) None = ⊥

-- why a life is broken after a sign for this reason: the last sign tells, unless it is only logged
abbrev pub broken_by : OnBreak → BreakReason → Option BreakReason → Option BreakReason
broken_by End reason broken = Some reason
broken_by Stay reason broken = Some reason
broken_by Warn reason broken = broken

-- why a life is broken once the publication of a round was compared with the last one: because they do not meet, or as before
abbrev pub Compares : OnBreak → ℕ → Option FusedSpan → Option FusedSpan → Option BreakReason → Option BreakReason → Type 0
Compares on_break drift last came before after =
    (AreUnmet drift last came × (after ≡ broken_by on_break Unmet before)) ⊎ ((¬ AreUnmet drift last came) × (after ≡ before))

-- why it is broken after a look for signs of this reason: because of one, or as before
abbrev pub MayBreak : OnBreak → BreakReason → Option BreakReason → Option BreakReason → Type 0
MayBreak on_break reason before after = (after ≡ broken_by on_break reason before) ⊎ (after ≡ before)

-- why it is broken after a look at the host: first whether it slept, then whether a guest was disrupted
abbrev pub LooksAtHost : OnBreak → Option BreakReason → Option BreakReason → Type 0
LooksAtHost on_break before after = (slept : Option BreakReason) × MayBreak on_break Slept before slept × MayBreak on_break Disrupted slept after

-- why it is broken after a round that published this: first the publication is compared, then the host is looked at
pub record Settles (on_break : OnBreak) (drift : ℕ) (last came : Option FusedSpan) (before after : Option BreakReason) : Type 0 where
  pub compared : Option BreakReason
  pub compares : Compares on_break drift last came before compared
  pub looks : LooksAtHost on_break compared after

-- a round of the daemon leads from these publications, the last of them, and why the life is broken, to those
pub record GoesRound (on_break : OnBreak) (drift : ℕ) (spans spans' : List FusedSpan) (last last' : Option FusedSpan) (before after : Option BreakReason) : Type 0 where
  pub came : Option FusedSpan
  pub published : spans' ≡ with_came spans came
  pub shown : last' ≡ last_with last came
  pub settles : Settles on_break drift last came before after
