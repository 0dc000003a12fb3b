-- Two fusions of one life of a machine meet: the later span has a time in common with the earlier one, aged to the later clock reading. This needs the assumptions of that life alone.
use Rattle.std.specs.Prelude.{◌≡◌, ◌⊎◌, ℕ, ◌+◌, ◌<◌, ◌≤◌, List, [], ◌∷◌, take, reverse, slice_get, IfSome, Some}
use Rattle.tt_span.specs.Interval.{Meets}
use Rattle.tt_span.specs.Drift.{KeepsDrift}
use Rattle.tt_publish.specs.Reading.{CanBeReadAt, reading_at}
use Rattle.tt_publish.specs.declared.readings.FusedSpan.{FusedSpan}
use Rattle.tt_daemon.specs.Config.{Configuration}
use Rattle.tt_world.specs.Config.{config_at}
use Rattle.tt_world.specs.Life.{Life, life_of, life_at}
use Rattle.tt_world.specs.declared.events.Event.{Event}
use Rattle.tt_world.specs.declared.events.Action.TheVariants as does
use Rattle.tt_world.specs.declared.events.Reply.{Reply}
use Rattle.tt_world.specs.declared.events.Reply.TheVariants.{Published}
use Rattle.tt_world.specs.Past.{moments_of}
use Rattle.tt_world.specs.Publications.{fuses_at}
use Rattle.tt_world.specs.Bad.{accepted}
use Rattle.tt_world.specs.Assumptions.{false_count}

-- ---- what it is to meet

-- an earlier fused span can be read at the clock reading of a later one, and some time lies in both this reading and the later span
pub record MeetsAged (ppm : ℕ) (earlier later : FusedSpan) : Type 0 where
  pub readable : CanBeReadAt earlier later.clock
  pub meets : Meets (reading_at ppm earlier later.clock) later.span

-- of these publications, the oldest first, each meets every one before it, aged to its clock reading
abbrev pub AllMeet : ℕ → List FusedSpan → Type 0
AllMeet ppm publications =
    (i k : ℕ) (earlier later : FusedSpan) → i < k → slice_get publications i ≡ Some earlier → slice_get publications k ≡ Some later → MeetsAged ppm earlier later

-- two of these publications, the oldest first, do not meet, with the earlier aged to the clock reading of the later
pub record HasUnmet (ppm : ℕ) (publications : List FusedSpan) : Type 0 where
  pub i : ℕ
  pub k : ℕ
  pub earlier : FusedSpan
  pub later : FusedSpan
  pub in_order : i < k
  pub first : slice_get publications i ≡ Some earlier
  pub second : slice_get publications k ≡ Some later
  pub apart : ¬ Meets (reading_at ppm earlier later.clock) later.span

-- ---- what is assumed of one life

-- where an event fuses in this life, no more of its statements are false than may be
abbrev pub HasFewFalseIn : Configuration → List Event → Life → Event → Type 0
HasFewFalseIn config past life event = IfSome (fuses_at past life event.action) (λ clock. false_count config past life ≤ config.faulty)

-- at every fusion of this life that was not bad few of its statements were false
abbrev pub FewLieIn : Configuration → List Event → Life → Type 0
FewLieIn config [] life = Unit {0}
FewLieIn config (event ∷ past) life = HasFewFalseIn config past life event × FewLieIn config past life

-- the assumptions on one life of a machine, over a list of events, bad ones among them, the newest first; nothing is assumed of other lives
pub record MeetsAssumptionsIn (configs : List Configuration) (past : List Event) (life : Life) : Type 0 where
  pub clock : KeepsDrift (config_at configs life.machine).drift (moments_of (accepted configs past) life)
  pub sources : FewLieIn (config_at configs life.machine) (accepted configs past) life

-- one life breaks an assumption: its clock breaks its drift bound, or at a fusion of it too many of its statements were false
abbrev pub BreaksAssumptionIn : List Configuration → List Event → Life → Type 0
BreaksAssumptionIn configs past life =
    (¬ KeepsDrift (config_at configs life.machine).drift (moments_of (accepted configs past) life)) ⊎ (¬ FewLieIn (config_at configs life.machine) (accepted configs past) life)

-- ---- in a run

-- event k is a fusion on machine m that publishes this
pub record IsPublishing (events : List Event) (replies : List Reply) (m k : ℕ) (publication : FusedSpan) : Type 0 where
  pub at : ℕ
  pub number : ℕ
  pub fuses : slice_get events k ≡ Some (record { at = at; action = does.Fuse m publication.clock })
  pub gives : slice_get replies k ≡ Some (Published number publication.span)

-- what a machine publishes meets all that it published before in the same life, aged to its clock reading, if this life keeps the assumptions up to then: events i and k fuse
abbrev pub FusionsMeet : List Configuration → List Event → List Reply → Type 0
FusionsMeet configs events replies =
    (i k m : ℕ) (earlier later : FusedSpan) →
    i < k → IsPublishing events replies m i earlier → IsPublishing events replies m k later →
    life_of (accepted configs (reverse (take i events))) m ≡ life_of (accepted configs (reverse (take k events))) m →
    MeetsAssumptionsIn configs (reverse (take (k + 1) events)) (life_at (accepted configs (reverse (take k events))) m) →
    MeetsAged (config_at configs m).drift earlier later
