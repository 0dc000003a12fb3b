-- What is promised of the commits of a whole run.
use Rattle.std.proofs.Common.{◌≡◌, ℕ, suc, ◌+◌, ◌<◌, ◌≤◌, List, [], ◌∷◌, ◌++◌, take, reverse, Some, ap, subst, sym, ◌∙◌, arith}
use Rattle.std.proofs.lemmas.List.{append-nil}
use Rattle.tt_span.specs.Interval.{Holds}
use Rattle.tt_world.specs.Life.{life_at}
use Rattle.tt_world.specs.Lease.{lease_of}
use Rattle.tt_world.specs.declared.events.Event.{Event}
use Rattle.tt_world.specs.declared.events.Action.TheVariants as does
use Rattle.tt_world.specs.declared.events.Reply.{Reply}
use Rattle.tt_world.specs.declared.events.Reply.TheVariants.{Arrived, Stamped, Released}
use Rattle.tt_daemon.specs.Config.{Configuration}
use Rattle.tt_world.specs.Past.{time_of}
use Rattle.tt_world.specs.Bad.{accepted}
use Rattle.tt_world.specs.Reply.{reply_of, replies_from}
use Rattle.tt_world.specs.Assumptions.{MeetsAssumptions}
use Rattle.tt_world.specs.Headline.{AreConfigurations, IsAction, AreEvents, StampsAreLeast, StampsInLeases, LeasesKeepStampsApart, IsArrival, ExternallyConsistent}
use Rattle.tt_world.proofs.Histories.Places.{all_by_recursion}
use Rattle.tt_world.proofs.Histories.Judging.{good_of, accepted-good}
use Rattle.tt_world.proofs.Headline.Running.{reply_at}
use Rattle.tt_world.proofs.Histories.Sound.{IsSound, sound_accepted, sound_if_after, time_if_after}
use Rattle.tt_world.proofs.Histories.Sight.{reading_not_ahead, arrival_time_of, arrival_on, arrival-here, reading_since_holds}
use Rattle.tt_world.proofs.Histories.Placing.{before_place, before_place-reverse, before_place-next, accepted_before, all_before_place, placed, replied_at}
use Rattle.tt_world.proofs.Headline.Committing.{arrival_not_bad, stamp_least, releasing}

-- every stamp of a run is the least that its rules allow, whatever the run
pub stamps-least : (configs : List Configuration) (events : List Event) → StampsAreLeast configs events (replies_from configs [] events)
stamps-least configs events before at m w after s e replied =
    let event : Event = record { at = at; action = does.Stamp m w } in
    stamp_least configs (reverse before) at m w s (same_reply (reply_of configs (reverse before) event) (Stamped s) (sym (reply_at configs events before event after e) ∙ replied))
  where
    same_reply : (a b : Reply) → Some a ≡ Some b → a ≡ b
    same_reply a b h = cc

-- every stamp of a run lies in the lease that its machine had
pub stamps-in-leases : (configs : List Configuration) (events : List Event) → StampsInLeases configs events (replies_from configs [] events)
stamps-in-leases configs events m w s k stamping =
    let event : Event = record { at = stamping.at; action = does.Stamp m w } in
    let least = stamp_least configs (before_place [] events k) stamping.at m w s (replied_at configs [] events k event (Stamped s) stamping.stamps stamping.gives) in
    let here : before_place [] events k ≡ reverse (take k events) = before_place-reverse [] events k ∙ append-nil (reverse (take k events)) in
    subst (λ (past : List Event). Holds (lease_of (accepted configs past) m) s) here (least.least.may_give.from_lease, least.in_lease)

pub leases-keep-apart : (configs : List Configuration) (events : List Event) → LeasesKeepStampsApart configs events (replies_from configs [] events)
leases-keep-apart configs events m w s k n v t l first second apart same =
    let other : List Event = accepted configs (reverse (take l events)) in
    apart (s, stamps-in-leases configs events m w s k first, subst (λ (x : ℕ). Holds (lease_of other n) x) (sym same) (stamps-in-leases configs events n v t l second))

-- the events before a place that were not bad keep the assumptions, where those before a later place do
sound_before_place : (configs : List Configuration) (events : List Event) (i n : ℕ) → i ≤ n → AreEvents events → MeetsAssumptions configs (reverse (take n events)) → IsSound configs (accepted configs (before_place [] events i))
sound_before_place configs events i n h valid meets =
    let P : Event → Type 0 = λ event. IsAction event.action in
    let here : before_place [] events n ≡ reverse (take n events) = before_place-reverse [] events n ∙ append-nil (reverse (take n events)) in
    let last = sound_accepted configs (before_place [] events n) (all_before_place P [] events n tt (all_by_recursion P events valid)) (subst (MeetsAssumptions configs) (sym here) meets) in
    sound_if_after configs (accepted configs (before_place [] events n)) (accepted configs (before_place [] events i)) (accepted_before configs events i n h) last

-- a worker was asked for a commit: the true time has gone on since, and later commits are asked for later
record HasArrived (configs : List Configuration) (events : List Event) (m w j k at : ℕ) : Type 0 where
  later : time_of (accepted configs (before_place [] events j)) ≤ at
  kept : at ≤ arrival_time_of (accepted configs (before_place [] events k)) m w

has_arrived : (configs : List Configuration) (events : List Event) (m w j k : ℕ) (arrival : IsArrival events (replies_from configs [] events) m w j) → j < k → IsSound configs (accepted configs (before_place [] events k)) →
    HasArrived configs events m w j k arrival.at
has_arrived configs events m w j k arrival jk sound =
    let event : Event = record { at = arrival.at; action = does.Arrive m w arrival.id arrival.floor } in
    let before : List Event = accepted configs (before_place [] events j) in
    let not_bad = arrival_not_bad configs (before_place [] events j) event (replied_at configs [] events j event Arrived arrival.asks arrival.taken) in
    let next : accepted configs (before_place [] events (suc j)) ≡ event ∷ before =
    ap (accepted configs) (before_place-next [] events j event arrival.asks) ∙ accepted-good configs (before_place [] events j) event not_bad in
    let after = accepted_before configs events (suc j) k (omega arith) in
    let all : accepted configs (before_place [] events k) ≡ after.later ++ event ∷ before = after.all ∙ ap (λ (es : List Event). after.later ++ es) next in
    let on = arrival_on configs after.later (event ∷ before) m w (subst (IsSound configs) all sound).good in
    let now : arrival_time_of (event ∷ before) m w ≡ arrival.at = arrival-here before arrival.at m w arrival.id arrival.floor in
    let here : arrival_time_of (accepted configs (before_place [] events k)) m w ≡ arrival_time_of (after.later ++ event ∷ before) m w = ap (λ (es : List Event). arrival_time_of es m w) all in
    record { later = (good_of configs before event not_bad).not_before; kept = at_most arrival.at _ _ _ now on here }
  where
    at_most : (at a b c : ℕ) → a ≡ at → a ≤ b → c ≡ b → at ≤ c
    at_most at a b c e h f = omega arith

in_order : (stamp lo i j at arrival hi s : ℕ) → stamp < lo → lo ≤ i → i ≤ j → j ≤ at → at ≤ arrival → arrival ≤ hi → hi ≤ s → stamp < s
in_order stamp lo i j at arrival hi s a b c d e f g = omega arith

-- a commit that is released before another arrives has the smaller stamp, if the run keeps the assumptions up to that stamp
pub externally-consistent : (configs : List Configuration) (events : List Event) → AreConfigurations configs → AreEvents events → ExternallyConsistent configs events (replies_from configs [] events)
externally-consistent configs events configurations valid i j k m w s receipts receipt ij jk released contained arrival stamping meets =
    let at_i : List Event = accepted configs (before_place [] events i) in
    let at_j : List Event = accepted configs (before_place [] events j) in
    let at_k : List Event = accepted configs (before_place [] events k) in
    let sound_i = sound_before_place configs events i (k + 1) (omega arith) valid meets in
    let sound_j = sound_before_place configs events j (k + 1) (omega arith) valid meets in
    let sound_k = sound_before_place configs events k (k + 1) (omega arith) valid meets in
    let place = placed configs [] events i (Released receipts) released in
    let release = releasing configs (before_place [] events i) place.event receipts receipt place.replied contained in
    let arrived = has_arrived configs events m w j k arrival jk sound_k in
    let event : Event = record { at = stamping.at; action = does.Stamp m w } in
    let least = stamp_least configs (before_place [] events k) stamping.at m w s (replied_at configs [] events k event (Stamped s) stamping.stamps stamping.gives) in
    in_order receipt.stamp release.reading.lo (time_of at_i) (time_of at_j) arrival.at (arrival_time_of at_k m w) least.reading.hi s
    release.below
    (reading_not_ahead configs configurations at_i (life_at at_i release.machine) release.worker release.reading sound_i release.last)
    (time_if_after configs at_j at_i (accepted_before configs events i j (omega arith)) sound_j.good)
    arrived.later
    arrived.kept
    (reading_since_holds configs configurations at_k (life_at at_k m) w least.reading sound_k (omega arith) least.read_since)
    least.least.may_give.from_latest
