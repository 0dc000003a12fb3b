-- Two fusions of one life meet, in a run that keeps the assumptions on this life.
use Rattle.std.proofs.Common.{◌≡◌, ℕ, suc, ◌+◌, ◌<◌, Bool, cond, List, [], ◌∷◌, ◌++◌, length, take, reverse, Some, None, Ok, inl, inr, refl, ap, subst, sym, ◌∙◌, arith}
use Rattle.std.specs.List.{AllByRecursion}
use Rattle.std.proofs.lemmas.List.{append-nil}
use Rattle.tt_span.specs.Interval.{Interval}
use Rattle.tt_span.specs.Drift.{KeepsDrift}
use Rattle.tt_publish.specs.declared.readings.FusedSpan.{FusedSpan}
use Rattle.tt_daemon.specs.Config.{Configuration}
use Rattle.tt_world.specs.Config.{config_at}
use Rattle.tt_world.specs.Life.{Life, life_of, life_at}
use Rattle.tt_world.specs.declared.events.Event.{Event}
use Rattle.tt_world.specs.declared.events.Action.TheVariants as does
use Rattle.tt_world.specs.declared.events.Reply.TheVariants.{Published}
use Rattle.tt_world.specs.Past.{moments_of}
use Rattle.tt_world.specs.Publications.{fusion_of, one_if_made, fuses_at, published_at, publications_of}
use Rattle.tt_world.specs.Bad.{first_bad, accepted}
use Rattle.tt_world.specs.Reply.{reply_to, reply_of, replies_from}
use Rattle.tt_world.specs.Assumptions.{MeetsAssumptions}
use Rattle.tt_world.specs.Headline.{AreConfigurations, IsAction, AreEvents}
use Rattle.tt_world.specs.Meeting.{MeetsAged, AllMeet, HasUnmet, FewLieIn, MeetsAssumptionsIn, BreaksAssumptionIn, FusionsMeet}
use Rattle.tt_world.proofs.Simulation.Lives.{is_of-own}
use Rattle.tt_world.proofs.Histories.Places.{IsIn, holds_in, in_back, all_by_recursion}
use Rattle.tt_world.proofs.Histories.Judging.{good_of, good_accepted, all_accepted, accepted-good}
use Rattle.tt_world.proofs.Histories.Fusing.{made_is_fusion}
use Rattle.tt_world.proofs.Histories.FusionTimes.{WasRight, IsKept, kept_before, made_now, were_right, few_lie_in}
use Rattle.tt_world.proofs.Histories.Meeting.{meets_now, publications_meet, keeps_or_not, one_broken}
use Rattle.tt_world.proofs.Histories.Sound.{IsAfter}
use Rattle.tt_world.proofs.Histories.Placing.{before_place, before_place-reverse, before_place-next, accepted_before, all_before_place, replied_at}
use Rattle.tt_world.proofs.Headline.Promises.{published_not_bad, published_made, machine_there, valid_accepted}

-- ---- what is published is among the publications from then on

fuses_here : (past : List Event) (m clock : ℕ) → fuses_at past (life_at past m) (does.Fuse m clock) ≡ Some clock
fuses_here past m clock = ap (λ (b : Bool). cond b (Some clock) None) (is_of-own past m)

in_front : {X : Type 0} (x : X) (front back : List X) → IsIn x front → IsIn x (front ++ back)
in_front x [] back i = absurd i
in_front x (y ∷ front) back (inl e) = inl e
in_front x (y ∷ front) back (inr i) = inr (in_front x front back i)

publications_stay : (config : Configuration) (later past : List Event) (life : Life) (publication : FusedSpan) → IsIn publication (publications_of config past life) → IsIn publication (publications_of config (later ++ past) life)
publications_stay config [] past life publication i = i
publications_stay config (event ∷ later) past life publication i =
    in_front publication (publications_of config (later ++ past) life) (published_at config (later ++ past) life (fuses_at (later ++ past) life event.action))
    (publications_stay config later past life publication i)

-- ---- a fusion that was published

-- the event of a fusion on machine m
abbrev fusing : ℕ → ℕ → FusedSpan → Event
fusing m at publication = record { at = at; action = does.Fuse m publication.clock }

abbrev fused_at : ℕ → Interval → FusedSpan
fused_at clock span = record { clock = clock; span = span }

same_fused : (a b : FusedSpan) → a.clock ≡ b.clock → a.span ≡ b.span → a ≡ b
same_fused a b e f = ap (λ (clock : ℕ). fused_at clock a.span) e ∙ ap (λ (span : Interval). fused_at b.clock span) f

-- machine m publishes this when it fuses at a true time, after what has happened
record IsMade (configs : List Configuration) (past : List Event) (m at : ℕ) (publication : FusedSpan) : Type 0 where
  there : m < length configs
  not_bad : first_bad configs past (fusing m at publication) ≡ None
  made : fusion_of (config_at configs m) past (life_at past m) publication.clock ≡ Ok publication

made_if_replied : (configs : List Configuration) → AreConfigurations configs → (past : List Event) (m at number : ℕ) (publication : FusedSpan) →
    reply_of configs past (fusing m at publication) ≡ Published number publication.span → IsMade configs (accepted configs past) m at publication
made_if_replied configs configurations past m at number publication h =
    let before : List Event = accepted configs past in
    let config : Configuration = config_at configs m in
    let life : Life = life_at before m in
    let facts = published_not_bad (first_bad configs before (fusing m at publication)) (reply_to configs before (does.Fuse m publication.clock)) number publication.span h in
    let there = machine_there configs m (good_of configs before (fusing m at publication) facts.0).named in
    let made = published_made (length (publications_of config before life)) (fusion_of config before life publication.clock) number publication.span facts.1 in
    let clock = (made_is_fusion configs before config life publication.clock made.0 (configurations m there) (good_accepted configs past) made.1).1 in
    record {
      there = there;
      not_bad = facts.0;
      made = subst (λ (p : FusedSpan). fusion_of config before life publication.clock ≡ Ok p) (same_fused made.0 publication clock made.2) made.1;
    }

published_here : (configs : List Configuration) (past : List Event) (m at : ℕ) (publication : FusedSpan) → IsMade configs past m at publication →
    IsIn publication (publications_of (config_at configs m) (fusing m at publication ∷ past) (life_at past m))
published_here configs past m at publication is =
    let config : Configuration = config_at configs m in
    let life : Life = life_at past m in
    let one : published_at config past life (fuses_at past life (does.Fuse m publication.clock)) ≡ publication ∷ [] =
    ap (published_at config past life) (fuses_here past m publication.clock) ∙ ap one_if_made is.made in
    in_back publication (publications_of config past life) (published_at config past life (fuses_at past life (does.Fuse m publication.clock)))
    (subst (IsIn publication) (sym one) (inl refl))

-- ---- two fusions

-- a fusion that comes after another of the same life
meets_later : (configs : List Configuration) → AreConfigurations configs → (past events : List Event) (m at later_at : ℕ) (earlier later : FusedSpan) → IsMade configs past m at earlier → IsMade configs events m later_at later →
    IsAfter events (fusing m at earlier ∷ past) → life_at past m ≡ life_at events m → IsKept configs (fusing m later_at later ∷ events) (life_at events m) →
    MeetsAged (config_at configs m).drift earlier later
meets_later configs configurations past events m at later_at earlier later first second after same kept =
    let config : Configuration = config_at configs m in
    let life : Life = life_at events m in
    let event : Event = fusing m later_at later in
    let there : IsIn earlier (publications_of config (after.later ++ fusing m at earlier ∷ past) (life_at past m)) =
    publications_stay config after.later (fusing m at earlier ∷ past) (life_at past m) earlier (published_here configs past m at earlier first) in
    let published : IsIn earlier (publications_of config events life) =
    subst (λ (es : List Event). IsIn earlier (publications_of config es life)) (sym after.all)
    (subst (λ (k : Life). IsIn earlier (publications_of config (after.later ++ fusing m at earlier ∷ past) k)) same there) in
    meets_now configs events event life earlier later config.drift kept.good.0 kept.drift
    (holds_in (λ (p : FusedSpan). WasRight events life p) earlier (publications_of config events life) (were_right configs events life (configurations m first.there) (kept_before configs events event life kept)) published)
    (made_now configs events event life later.clock later (configurations m first.there) kept (fuses_here events m later.clock) second.made)

-- what is assumed of a life, up to a fusion of its machine
kept_at_fusion : (configs : List Configuration) (past : List Event) (m at : ℕ) (publication : FusedSpan) → AllByRecursion (λ (e : Event). IsAction e.action) past → IsMade configs (accepted configs past) m at publication →
    MeetsAssumptionsIn configs (fusing m at publication ∷ past) (life_at (accepted configs past) m) → IsKept configs (fusing m at publication ∷ accepted configs past) (life_at (accepted configs past) m)
kept_at_fusion configs past m at publication valid made meets =
    let before : List Event = accepted configs past in
    let life : Life = life_at before m in
    let event : Event = fusing m at publication in
    let next : accepted configs (event ∷ past) ≡ event ∷ before = accepted-good configs past event made.not_bad in
    record {
      good = (good_of configs before event made.not_bad, good_accepted configs past);
      valid = (tt, all_accepted (λ (e : Event). IsAction e.action) configs past valid);
      drift = subst (λ (es : List Event). KeepsDrift (config_at configs m).drift (moments_of es life)) next meets.clock;
      few = subst (λ (es : List Event). FewLieIn (config_at configs m) es life) next meets.sources;
    }

pub fusions-meet : (configs : List Configuration) (events : List Event) → AreConfigurations configs → AreEvents events → FusionsMeet configs events (replies_from configs [] events)
fusions-meet configs events configurations valid i k m earlier later less first second same meets =
    let P : Event → Type 0 = λ e. IsAction e.action in
    let before_i : List Event = before_place [] events i in
    let before_k : List Event = before_place [] events k in
    let here_i : before_i ≡ reverse (take i events) = before_place-reverse [] events i ∙ append-nil (reverse (take i events)) in
    let here_k : before_k ≡ reverse (take k events) = before_place-reverse [] events k ∙ append-nil (reverse (take k events)) in
    let one = made_if_replied configs configurations before_i m first.at first.number earlier (replied_at configs [] events i (fusing m first.at earlier) (Published first.number earlier.span) first.fuses first.gives) in
    let two = made_if_replied configs configurations before_k m second.at second.number later (replied_at configs [] events k (fusing m second.at later) (Published second.number later.span) second.fuses second.gives) in
    let next : accepted configs (before_place [] events (suc i)) ≡ fusing m first.at earlier ∷ accepted configs before_i =
    ap (accepted configs) (before_place-next [] events i (fusing m first.at earlier) first.fuses) ∙ accepted-good configs before_i (fusing m first.at earlier) one.not_bad in
    let after : IsAfter (accepted configs before_k) (fusing m first.at earlier ∷ accepted configs before_i) =
    subst (IsAfter (accepted configs before_k)) next (accepted_before configs events (suc i) k (omega arith)) in
    let number : life_of (accepted configs before_i) m ≡ life_of (accepted configs before_k) m =
    ap (λ (es : List Event). life_of (accepted configs es) m) here_i ∙ same ∙ ap (λ (es : List Event). life_of (accepted configs es) m) (sym here_k) in
    let one_more : k + 1 ≡ suc k = omega arith in
    let last : reverse (take (k + 1) events) ≡ fusing m second.at later ∷ before_k =
    sym (before_place-reverse [] events (k + 1) ∙ append-nil (reverse (take (k + 1) events))) ∙ ap (before_place [] events) one_more ∙ before_place-next [] events k (fusing m second.at later) second.fuses in
    let assumed : MeetsAssumptionsIn configs (fusing m second.at later ∷ before_k) (life_at (accepted configs before_k) m) =
    subst (λ (es : List Event). MeetsAssumptionsIn configs es (life_at (accepted configs before_k) m)) last
    (subst (λ (es : List Event). MeetsAssumptionsIn configs (reverse (take (k + 1) events)) (life_at (accepted configs es) m)) (sym here_k) meets) in
    meets_later configs configurations (accepted configs before_i) (accepted configs before_k) m first.at second.at earlier later one two after (ap (λ (n : ℕ). record { machine = m; number = n }) number)
    (kept_at_fusion configs before_k m second.at later (all_before_place P [] events k tt (all_by_recursion P events valid)) two assumed)

-- ---- the publications of a life

pub publications-meet : (configs : List Configuration) (past : List Event) (life : Life) → AreConfigurations configs → AreEvents past → life.machine < length configs → MeetsAssumptionsIn configs past life →
    AllMeet (config_at configs life.machine).drift (publications_of (config_at configs life.machine) (accepted configs past) life)
publications-meet configs past life configurations valid there meets =
    publications_meet configs life (configurations life.machine there) (accepted configs past)
    (record { good = good_accepted configs past; valid = valid_accepted configs past valid; drift = meets.clock; few = meets.sources })

pub unmet-breaks : (configs : List Configuration) (past : List Event) (life : Life) → AreConfigurations configs → AreEvents past → life.machine < length configs →
    HasUnmet (config_at configs life.machine).drift (publications_of (config_at configs life.machine) (accepted configs past) life) → BreaksAssumptionIn configs past life
unmet-breaks configs past life configurations valid there =
    let config : Configuration = config_at configs life.machine in
    one_broken config.drift (publications_of config (accepted configs past) life) (keeps_or_not config.drift (moments_of (accepted configs past) life))
    (λ drift few. publications-meet configs past life configurations valid there (record { clock = drift; sources = few }))

pub each-life : (configs : List Configuration) (past : List Event) (life : Life) → life.machine < length configs → MeetsAssumptions configs past → MeetsAssumptionsIn configs past life
each-life configs past life there meets = record { clock = meets.clocks life there; sources = few_lie_in configs (accepted configs past) life meets.sources }
