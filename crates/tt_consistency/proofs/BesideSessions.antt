-- Stampers beside the sessions of lives.
use Rattle.std.proofs.Common.{◌≡◌, ℕ, ◌<◌, ◌≤◌, List, [], ◌∷◌, ◌++◌, map, Bool, Option, Some, ⊎_elim, sym, ◌∙◌, subst, arith, All, Contains}
use Rattle.std.proofs.lemmas.List.Elements.{All-contains}
use Rattle.tt_span.specs.Interval.{Interval, Holds, Meets}
use Rattle.tt_judge.specs.Consistency.{IsConsistent}
use Rattle.tt_judge.specs.declared.history.Commit.{Commit}
use Rattle.tt_stamp.proofs.Ids.{Contains-here, Contains-there, Contains-nil, Contains-cases}
use Rattle.tt_connections.specs.Sessions.{WorkerSession, IsServedBetween}
use Rattle.tt_connections.specs.declared.presence.Question.{Question}
use Rattle.tt_consistency.specs.Assumed.{TimedLife, IsLived, IsSeenInOneOf}
use Rattle.tt_consistency.specs.Lives.{Life, WorkerLife, WorksIn, IsLife}
use Rattle.tt_consistency.specs.Order.{BeginsAt, IsWithin}
use Rattle.tt_consistency.specs.Stampers.{GivenStamp, stamp_in, FollowsRule, Stamper, IsRightStamper, IsSeenAtStamper, IsSeenInEither}
use Rattle.tt_consistency.specs.Timed.{CallTimes, TimedSession, IsTimed, timed_of}
use Rattle.tt_consistency.proofs.Judging.{within-consistent}
use Rattle.tt_consistency.proofs.Leasing.{session-machine, session-outside}
use Rattle.tt_consistency.proofs.Living.{lived-timed}
use Rattle.tt_consistency.proofs.Walking.{session-within}

-- ---- one stamper
-- each stamp lies in the lease, and is no less than the latest of its reading
ruled : (lease : Interval) (all : List GivenStamp) → FollowsRule lease all → (given : GivenStamp) → Contains all given → Holds lease given.stamp × (given.reading.hi ≤ given.stamp)
ruled lease [] rule given there = absurd (Contains-nil given there)
ruled lease (first ∷ before) rule given there =
    ⊎_elim
    (λ here. subst (λ (g : GivenStamp). Holds lease g.stamp × (g.reading.hi ≤ g.stamp)) here ((rule.0.1.may_give.from_lease, rule.0.2), rule.0.1.may_give.from_latest))
    (λ more. ruled lease before rule.1 given more)
    (Contains-cases first before given there)

pub stamper-leased : (stamper : Stamper) (given : GivenStamp) → FollowsRule stamper.lease stamper.given → Contains stamper.given given → Holds stamper.lease given.stamp
stamper-leased stamper given rule there = (ruled stamper.lease stamper.given rule given there).0

pub stamper-latest : (stamper : Stamper) (given : GivenStamp) → FollowsRule stamper.lease stamper.given → Contains stamper.given given → given.reading.hi ≤ given.stamp
stamper-latest stamper given rule there = (ruled stamper.lease stamper.given rule given there).1

pub stampers-apart : (one other : Stamper) (given other_given : GivenStamp) → (Meets one.lease other.lease → ⊥) → FollowsRule one.lease one.given → FollowsRule other.lease other.given → Contains one.given given → Contains other.given other_given → given.stamp ≡ other_given.stamp → ⊥
stampers-apart one other given other_given apart rule other_rule there other_there same =
    apart (given.stamp, stamper-leased one given rule there, subst (Holds other.lease) (sym same) (stamper-leased other other_given other_rule other_there))

-- the stamps of a list stand in the list of its stamps
stamp-there : (all : List GivenStamp) (given : GivenStamp) → Contains all given → Contains (map stamp_in all) given.stamp
stamp-there [] given there = absurd (Contains-nil given there)
stamp-there (first ∷ before) given there =
    ⊎_elim
    (λ here. subst (λ (g : GivenStamp). Contains (map stamp_in (first ∷ before)) g.stamp) here (Contains-here first.stamp (map stamp_in before)))
    (λ more. Contains-there first.stamp (map stamp_in before) given.stamp (stamp-there before given more))
    (Contains-cases first before given there)

behind : (between : List GivenStamp) (other : GivenStamp) (before : List GivenStamp) → Contains (between ++ (other ∷ before)) other
behind [] other before = Contains-here other before
behind (first ∷ between) other before = Contains-there first (between ++ (other ∷ before)) other (behind between other before)

pub stamper-rises : (lease : Interval) (later : List GivenStamp) (one : GivenStamp) (between : List GivenStamp) (other : GivenStamp) (before : List GivenStamp) → FollowsRule lease (later ++ (one ∷ (between ++ (other ∷ before)))) → other.stamp < one.stamp
stamper-rises lease [] one between other before rule =
    All-contains (λ (t : ℕ). t < one.stamp) (map stamp_in (between ++ (other ∷ before))) other.stamp rule.0.1.may_give.above_all
    (stamp-there (between ++ (other ∷ before)) other (behind between other before))
stamper-rises lease (first ∷ later) one between other before rule = stamper-rises lease later one between other before rule.1

pub stamper-within : (stamper : Stamper) (commit : Commit) → IsRightStamper stamper → IsSeenAtStamper stamper commit → IsWithin commit
stamper-within stamper commit right seen =
    let above = (ruled stamper.lease stamper.given right.rule seen.given seen.there).1 in
    let holds : Holds seen.given.reading seen.given.read = All-contains (λ (given : GivenStamp). Holds given.reading given.read) stamper.given seen.given right.hold seen.there in
    record { begun = omega (arith, seen.began, holds.1, above, seen.stamp); ended = omega (arith, seen.is_past, seen.holds.0, seen.ended) }

module _ {C V : Type 0} (gives : C → Option ℕ → C → Type 0) (failed : C → ℕ) (says : V → Question → Bool → Type 0) (waits : ℕ) where
  -- ---- the terms of a life
  pub life-stamps : (life : Life gives failed says waits) (worker : WorkerLife gives failed says waits) (session : WorkerSession gives failed says waits) (times : List CallTimes) (place number stamp : ℕ)
      → IsLife life → Contains life.workers worker → Contains worker.sessions session → BeginsAt (timed_of session times).calls place number stamp
      → Holds life.lease stamp × ((stampers : Interval) → life.stampers ≡ Some stampers → Holds stampers stamp → ⊥)
  life-stamps life worker session times place number stamp proved of_life of_worker begins =
      let timed : TimedSession gives failed says = timed_of session times in
      let works : WorksIn life worker = All-contains (WorksIn life) life.workers worker proved.workers of_life in
      let between : IsServedBetween worker.post worker.last session = All-contains (IsServedBetween worker.post worker.last) worker.sessions session works.in_turn of_worker in
      let lease : timed.post.lease ≡ life.lease = between.0.lease ∙ works.lease in
      let stampers : timed.post.stampers ≡ life.stampers = between.0.stampers ∙ works.stampers in (
        subst (λ (l : Interval). Holds l stamp) lease (session-machine gives failed says timed place number stamp begins),
        λ taken has. session-outside gives failed says timed place number stamp taken (stampers ∙ has) begins,
      )

  -- ---- lives and stampers together
  life-within : (lives : List (TimedLife gives failed says waits)) → All IsLived lives → (commit : Commit) → IsSeenInOneOf lives commit → IsWithin commit
  life-within lives are commit at =
      let timed : IsTimed gives failed says (timed_of at.session at.times) = lived-timed gives failed says waits at.lived (All-contains IsLived lives at.lived are at.among) at.session at.times at.served in
      session-within gives failed says (timed_of at.session at.times) commit timed at.seen

  pub either-consistent : (lives : List (TimedLife gives failed says waits)) (stampers : List Stamper) (history : List Commit) → All IsLived lives → All IsRightStamper stampers → All (IsSeenInEither lives stampers) history → IsConsistent history
  either-consistent lives stampers history are right seen =
      within-consistent history (λ number other inside.
      ⊎_elim
      (λ at. life-within lives are _ at)
      (λ at. stamper-within at.stamper _ (All-contains IsRightStamper stampers at.stamper right at.among) at.seen)
      (seen number other inside))
