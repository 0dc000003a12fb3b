-- What a daemon publishes, compared with what it published before: the two meet, if its timeline keeps the assumptions.
use Rattle.std.proofs.Common.{◌≡◌, ℕ, ◌+◌, ◌-◌, ◌^◌, ◌<◌, ◌≤◌, List, ◌++◌, length, subst}
use Rattle.std.specs.List.{AllByRecursion}
use Rattle.tt_span.specs.Drift.{Moment, KeepsDrift}
use Rattle.tt_span.specs.Time.{max_time}
use Rattle.tt_daemon.specs.Config.{Configuration, IsConfiguration}
use Rattle.tt_publish.specs.declared.readings.FusedSpan.{FusedSpan}
use Rattle.tt_world.specs.Assumptions.{FewLie}
use Rattle.tt_world.specs.Config.{config_at}
use Rattle.tt_world.specs.Headline.{IsAction}
use Rattle.tt_world.specs.Life.{life_at}
use Rattle.tt_world.specs.Meeting.{AllMeet}
use Rattle.tt_world.specs.Past.{moments_of}
use Rattle.tt_world.specs.declared.events.Event.{Event}
use Rattle.tt_world.proofs.Histories.Meeting.{publications_meet}
use Rattle.tt_consistency.specs.Steps.{Step, Kept, kept_at}
use Rattle.tt_consistency.specs.Timeline.{Timed, AreOfTime, BeginsLife, IsRunOf, events_of, moments_told, steps_told}
use Rattle.tt_consistency.proofs.HoldingRounds.{AreActions, kept-told, published-told}
use Rattle.tt_consistency.proofs.Telling.{Follows, life-told, for_daemon}

pub publications-meet : (configs : List Configuration) (m : ℕ) (base : List Event) (timeline : List Timed) (steps : List Step) (moments : List Moment) (to : Kept)
    → IsRunOf configs m base (events_of base m timeline) steps moments → kept_at configs (events_of base m timeline ++ base) m ≡ to
    → IsConfiguration (config_at configs m) → AreOfTime timeline → AreActions base
    → KeepsDrift (config_at configs m).drift (moments ++ moments_of base (life_at base m)) → FewLie configs (events_of base m timeline ++ base)
    → AllMeet (config_at configs m).drift to.published
publications-meet configs m base timeline steps moments to run leaves configuration valid valid_base drift few =
    subst (λ (publications : List FusedSpan). AllMeet (config_at configs m).drift publications) (published-told configs m base timeline steps moments to run leaves)
    (publications_meet configs (life_at base m) configuration (events_of base m timeline ++ base) (kept-told configs m base timeline steps moments run valid valid_base drift few))

-- each publication of a life meets every one before it
abbrev pub Meeting : ℕ → ℕ → ℕ → ℕ → List Timed → Kept → Configuration → Type 0
Meeting m number at clock timeline to config = Follows m number at clock timeline to config (AllMeet config.drift to.published)

pub life-meets : (m number at clock : ℕ) (timeline : List Timed) (to : Kept) (configs : List Configuration) (base : List Event) → m < length configs → BeginsLife configs m number at clock base → AllByRecursion (λ event. IsAction event.action) base
    → Meeting m number at clock timeline to (config_at configs m)
life-meets m number at clock timeline to configs base there begins actions timeline_on short named made configuration valid drift few =
    let told = life-told m number at clock timeline to configs base there begins timeline_on short named made configuration valid drift few in
    publications-meet configs m base timeline (steps_told timeline) (moments_told timeline) to told.run told.leaves configuration valid actions told.drift told.few

pub daemon-meets : (config : Configuration) (m at clock lives : ℕ) (timeline : List Timed) (to : Kept) → at ≤ max_time → clock ≤ max_time → lives < 2 ^ 64 - 1
    → Meeting m (lives + 1) at clock timeline to config
daemon-meets config m at clock lives timeline to = for_daemon config m at clock lives (Meeting m (lives + 1) at clock timeline to) (life-meets m (lives + 1) at clock timeline to)
