-- What a twin is worth: its machine can't tell it from the run that it is the twin of.
use Rattle.std.specs.Prelude.{◌≡◌, ℕ, ◌+◌, ◌-◌, List, ◌∷◌, [], ◌++◌, reverse, take, slice_get, All, Some}
use Rattle.tt_span.specs.Interval.{Interval, Holds}
use Rattle.tt_daemon.specs.Config.{Configuration}
use Rattle.tt_world.specs.declared.events.Event.{Event}
use Rattle.tt_world.specs.declared.events.Reply.{Reply}
use Rattle.tt_world.specs.declared.events.Reply.TheVariants.{Refused}
use Rattle.tt_world.specs.declared.events.Action.TheVariants as does
use Rattle.tt_world.specs.declared.events.Reply.TheVariants as replies
use Rattle.tt_world.specs.Config.{config_at}
use Rattle.tt_world.specs.Life.{life_at}
use Rattle.tt_world.specs.Publications.{publications_of, publication_at}
use Rattle.tt_twin.specs.declared.twins.Side.{Side}
use Rattle.tt_twin.specs.Twin.{end_of, end_after}
use Rattle.tt_world.specs.Past.{time_of}
use Rattle.tt_world.specs.Bad.{accepted}
use Rattle.tt_world.specs.Reply.{replies_from}
use Rattle.tt_world.specs.Headline.{AreEvents}
use Rattle.tt_world.specs.Assumptions.{MeetsAssumptions}
use Rattle.tt_twin.specs.Looks.{Making, making_of, Look, looks_of, clocks_of, sights_of}

-- the reply is no refusal
abbrev pub IsGranted : Reply → Type 0
IsGranted (Refused number) = ⊥
IsGranted _ = Unit {0}

-- two runs show machine m the same, one of its publication k and the looks at it, the other of its publication j: the spans that were fused, how many of them may be false, and the clock readings at the fusion and at each look
pub record ShowsAlike (configs : List Configuration) (past other : List Event) (m k j : ℕ) : Type 0 where
  pub one : Making
  pub two : Making
  pub made : making_of configs past m k ≡ Some one
  pub made_too : making_of configs other m j ≡ Some two
  pub spans : two.showing.spans ≡ one.showing.spans
  pub faulty : two.showing.faulty ≡ one.showing.faulty
  pub clock : two.showing.clock ≡ one.showing.clock
  pub clocks : clocks_of (looks_of configs other m j) ≡ clocks_of (looks_of configs past m k)

-- a list of events, the oldest first, is a run in which all goes well and the assumptions are kept, machine m sees in its first publication and the looks at it what it saw in publication k of another run and the looks at that, it reads the same there, and the true time is x at the end
pub record IsTwin (configs : List Configuration) (past : List Event) (m k x : ℕ) (twin : List Event) : Type 0 where
  pub can_be : AreEvents twin
  pub none_refused : All IsGranted (replies_from configs [] twin)
  pub assumed : MeetsAssumptions configs (reverse twin)
  pub alike : ShowsAlike configs past (accepted configs (reverse twin)) m k 1
  pub same_sights : sights_of (looks_of configs (accepted configs (reverse twin)) m 1) ≡ sights_of (looks_of configs past m k)
  pub time : time_of (reverse twin) ≡ x

-- an interval is right for the last look at publication k of machine m: it holds the true time of the last look in every run that keeps the assumptions and shows the machine the same
abbrev pub IsRightForLook : List Configuration → List Event → ℕ → ℕ → Interval → Type 0
IsRightForLook configs past m k span =
    (other : List Event) (j : ℕ) (looks : List Look) (look : Look) → AreEvents other → MeetsAssumptions configs other →
    ShowsAlike configs past (accepted configs other) m k j → looks_of configs (accepted configs other) m j ≡ looks ++ look ∷ [] → Holds span look.at

-- event k reads from publication number of machine m, and is replied to by this reading
pub record IsReadingOf (configs : List Configuration) (events : List Event) (k m number : ℕ) (reading : Interval) : Type 0 where
  pub at : ℕ
  pub worker : ℕ
  pub clock : ℕ
  pub asks : slice_get events k ≡ Some (record { at = at; action = does.Read m worker clock number })
  pub replied : slice_get (replies_from configs [] events) k ≡ Some (replies.Read reading)

-- what was not bad up to and with event k, the newest first
abbrev pub accepted_to : List Configuration → List Event → ℕ → List Event
accepted_to configs events k = accepted configs (reverse (take (k + 1) events))

-- the end of a reading on this side, before it is cut, when the clock of machine m shows this and it reads from a publication
abbrev pub uncut_end : Side → List Configuration → List Event → ℕ → ℕ → ℕ → ℕ
uncut_end side configs past m number clock =
    let publication = publication_at (publications_of (config_at configs m) past (life_at past m)) number in
    end_after side (config_at configs m).drift (end_of side publication.span) (clock - publication.clock)

-- some reading of event k ends on this side, before it is cut, at this time
pub record HasReading (configs : List Configuration) (events : List Event) (k : ℕ) (side : Side) (x : ℕ) : Type 0 where
  pub machine : ℕ
  pub number : ℕ
  pub reading : Interval
  pub reads : IsReadingOf configs events k machine number reading
  pub ends : uncut_end side configs (accepted_to configs events k) machine number reads.clock ≡ x

-- event k is there, and reads
pub record AsksToRead (events : List Event) (k : ℕ) : Type 0 where
  pub at : ℕ
  pub machine : ℕ
  pub worker : ℕ
  pub clock : ℕ
  pub number : ℕ
  pub asks : slice_get events k ≡ Some (record { at = at; action = does.Read machine worker clock number })
