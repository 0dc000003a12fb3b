-- What a whole run promises: events, the oldest first, and the replies to them.
use Rattle.std.specs.Prelude.{◌≡◌, ℕ, ◌+◌, ◌-◌, ◌<◌, ◌≤◌, List, ◌∷◌, ◌++◌, length, reverse, take, slice_get, All, Contains, Some, None}
use Rattle.tt_span.specs.Interval.{Interval, IsInterval, Holds, Meets}
use Rattle.tt_fuse.specs.Fusion.{IsFusion}
use Rattle.tt_cert.specs.Valid.{IsCertificate}
use Rattle.tt_cert.specs.Canonical.{IsCanonical}
use Rattle.tt_world.specs.Lease.{lease_of}
use Rattle.tt_world.specs.Life.{Life, life_at}
use Rattle.tt_world.specs.declared.events.Event.{Event}
use Rattle.tt_world.specs.declared.events.Action.{Action}
use Rattle.tt_world.specs.declared.events.Action.TheVariants as does
use Rattle.tt_world.specs.declared.events.Reply.{Reply}
use Rattle.tt_world.specs.declared.events.Reply.TheVariants.{Published, Read, Arrived, Stamped, Released}
use Rattle.tt_world.specs.declared.publications.Shown.{Shown}
use Rattle.tt_world.specs.declared.workers.Arrival.{Arrival}
use Rattle.tt_stamp.specs.declared.commits.Id.{Id}
use Rattle.tt_stamp.specs.declared.commits.Receipt.{Receipt}
use Rattle.tt_stamp.specs.Stamp.{IsTooFar, IsLeastStamp}
use Rattle.tt_daemon.specs.Config.{Configuration, IsConfiguration}
use Rattle.tt_world.specs.Config.{config_at}
use Rattle.tt_world.specs.Publications.{spans_of, known_of}
use Rattle.tt_world.specs.Commits.{arrival_of, reading_since, stamps_of}
use Rattle.tt_world.specs.Bad.{first_bad, accepted}
use Rattle.tt_world.specs.Assumptions.{MeetsAssumptions}

-- each machine has a set-up that a machine can have
abbrev pub AreConfigurations : List Configuration → Type 0
AreConfigurations configs = (m : ℕ) → m < length configs → IsConfiguration (config_at configs m)

-- the span of an answer is one of time
abbrev pub IsAction : Action → Type 0
IsAction (does.Answer packet span) = IsInterval span
IsAction _ = Unit {0}

-- the events are such as can be: each answer's span is one of time
abbrev pub AreEvents : List Event → Type 0
AreEvents events = All (λ event. IsAction event.action) events

-- every reading holds the true time, if the run keeps the assumptions up to then
abbrev pub ReadingsHold : List Configuration → List Event → List Reply → Type 0
ReadingsHold configs events replies =
    (before : List Event) (event : Event) (after : List Event) (reading : Interval) →
    events ≡ before ++ event ∷ after → slice_get replies (length before) ≡ Some (Read reading) →
    MeetsAssumptions configs (event ∷ reverse before) → Holds reading event.at

-- every span that is published is the least that holds every time that is possible by what its machine knows, whatever the run
abbrev pub FusionsAreShortest : List Configuration → List Event → List Reply → Type 0
FusionsAreShortest configs events replies =
    (before : List Event) (at m clock : ℕ) (after : List Event) (number : ℕ) (span : Interval) →
    events ≡ before ++ record { at = at; action = does.Fuse m clock } ∷ after →
    slice_get replies (length before) ≡ Some (Published number span) →
    IsFusion (spans_of (config_at configs m) (accepted configs (reverse before)) (life_at (accepted configs (reverse before)) m) clock) (config_at configs m).faulty span

-- every publication that is shown has the canonical certificate that its span is the fusion of its spans
abbrev pub CertificatesProve : List Shown → Type 0
CertificatesProve shown = All (λ s. IsCanonical s.fused.spans s.fused.faulty s.fused.span s.fused.certificate
    × IsCertificate s.fused.spans s.fused.faulty s.fused.span s.fused.certificate) shown

-- no fusion that is not bad is refused where all sources but as many as may lie are known, if the run keeps the assumptions up to then
abbrev pub NoFusionRefused : List Configuration → List Event → List Reply → Type 0
NoFusionRefused configs events replies =
    (before : List Event) (at m clock : ℕ) (after : List Event) →
    events ≡ before ++ record { at = at; action = does.Fuse m clock } ∷ after →
    first_bad configs (accepted configs (reverse before)) (record { at = at; action = does.Fuse m clock }) ≡ None →
    (config_at configs m).sources - (config_at configs m).faulty ≤ known_of (config_at configs m) (accepted configs (reverse before)) (life_at (accepted configs (reverse before)) m) →
    MeetsAssumptions configs (record { at = at; action = does.Fuse m clock } ∷ reverse before) →
    (number : ℕ) × (span : Interval) × (slice_get replies (length before) ≡ Some (Published number span))

-- a commit was asked for, its worker has read the time since, the floor is not too far above that reading's latest, and the stamp is the least that may be given to it by that reading and the lease, after the stamps that the machine has given in this life; it is within the lease
pub record IsLeastFor (config : Configuration) (past : List Event) (life : Life) (w s : ℕ) : Type 0 where
  pub arrival : Arrival
  pub reading : Interval
  pub asked : arrival_of past life w ≡ Some arrival
  pub read_since : reading_since config past life w ≡ Some reading
  pub near : ¬ IsTooFar reading.hi arrival.floor
  pub least : IsLeastStamp (stamps_of config past life) reading.hi arrival.floor (lease_of past life.machine) s
  pub in_lease : s ≤ (lease_of past life.machine).hi

-- every stamp is the least that its rules allow, whatever the run
abbrev pub StampsAreLeast : List Configuration → List Event → List Reply → Type 0
StampsAreLeast configs events replies =
    (before : List Event) (at m w : ℕ) (after : List Event) (s : ℕ) →
    events ≡ before ++ record { at = at; action = does.Stamp m w } ∷ after →
    slice_get replies (length before) ≡ Some (Stamped s) →
    IsLeastFor (config_at configs m) (accepted configs (reverse before)) (life_at (accepted configs (reverse before)) m) w s

-- event j asks worker w of machine m for a commit
pub record IsArrival (events : List Event) (replies : List Reply) (m w j : ℕ) : Type 0 where
  pub at : ℕ
  pub id : Id
  pub floor : ℕ
  pub asks : slice_get events j ≡ Some (record { at = at; action = does.Arrive m w id floor })
  pub taken : slice_get replies j ≡ Some Arrived

-- event k gives the task of worker w of machine m the stamp s
pub record IsStamping (events : List Event) (replies : List Reply) (m w s k : ℕ) : Type 0 where
  pub at : ℕ
  pub stamps : slice_get events k ≡ Some (record { at = at; action = does.Stamp m w })
  pub gives : slice_get replies k ≡ Some (Stamped s)

-- every stamp lies in the lease that its machine had at that event, whatever the run
abbrev pub StampsInLeases : List Configuration → List Event → List Reply → Type 0
StampsInLeases configs events replies =
    (m w s k : ℕ) → IsStamping events replies m w s k → Holds (lease_of (accepted configs (reverse (take k events))) m) s

-- two stamps under leases that do not meet differ, on whatever machines and in whatever lives
abbrev pub LeasesKeepStampsApart : List Configuration → List Event → List Reply → Type 0
LeasesKeepStampsApart configs events replies =
    (m w s k n v t l : ℕ) → IsStamping events replies m w s k → IsStamping events replies n v t l →
    ¬ Meets (lease_of (accepted configs (reverse (take k events))) m) (lease_of (accepted configs (reverse (take l events))) n) →
    ¬ (s ≡ t)

-- a commit that is released before another arrives has the smaller stamp, on whatever machines, if the run keeps the assumptions up to that stamp: event i releases, event j asks a worker for a commit, and event k stamps for that worker, the task of event j or a later one
abbrev pub ExternallyConsistent : List Configuration → List Event → List Reply → Type 0
ExternallyConsistent configs events replies =
    (i j k m w s : ℕ) (receipts : List Receipt) (receipt : Receipt) →
    i < j → j < k →
    slice_get replies i ≡ Some (Released receipts) → Contains receipts receipt →
    IsArrival events replies m w j → IsStamping events replies m w s k →
    MeetsAssumptions configs (reverse (take (k + 1) events)) →
    receipt.stamp < s
