-- Stampers: clients that give stamps in a database's own process, by readings of their machine's clock, and the commits that are seen there. Each list of stamps has the newest first.
use Rattle.std.specs.Prelude.{◌≡◌, ◌⊎◌, ℕ, ◌<◌, ◌≤◌, List, [], ◌∷◌, map, All, Bool, Option, Ok, Contains}
use Rattle.tt_span.specs.Interval.{Interval, Holds}
use Rattle.tt_judge.specs.declared.history.Commit.{Commit}
use Rattle.tt_stamp.specs.Stamp.{IsAnswer}
use Rattle.tt_connections.specs.declared.presence.Question.{Question}
use Rattle.tt_consistency.specs.Assumed.{TimedLife, IsSeenInOneOf}

-- a stamp that a stamper gave: the reading that it took in this call, the true time at which it took it, and the floor
pub record GivenStamp : Type 0 where
  pub reading : Interval
  pub read : ℕ
  pub floor : ℕ
  pub stamp : ℕ

abbrev pub stamp_in : GivenStamp → ℕ
stamp_in given = given.stamp

-- each stamp is the least that the rule allows after those before it, in this lease
abbrev pub FollowsRule : Interval → List GivenStamp → Type 0
FollowsRule lease [] = Unit {0}
FollowsRule lease (given ∷ before) = IsAnswer (map stamp_in before) given.reading.hi given.floor lease (Ok given.stamp) × FollowsRule lease before

-- a stamper: its lease, and the stamps that it gave
pub record Stamper : Type 0 where
  pub lease : Interval
  pub given : List GivenStamp

-- what is assumed of a stamper: it follows the rule, and each of its readings holds the true time at which it was taken
pub record IsRightStamper (stamper : Stamper) : Type 0 where
  pub rule : FollowsRule stamper.lease stamper.given
  pub hold : All (λ (given : GivenStamp). Holds given.reading given.read) stamper.given

-- a commit as one saw it outside, in true time: asked for no later than the stamper took the reading for its stamp, and known to be committed no earlier than a reading was taken that holds the true time and lies above the stamp
pub record IsSeenAtStamper (stamper : Stamper) (commit : Commit) : Type 0 where
  pub given : GivenStamp
  pub there : Contains stamper.given given
  pub stamp : given.stamp ≡ commit.stamp
  pub began : commit.began ≤ given.read
  pub past : Interval
  pub read : ℕ
  pub holds : Holds past read
  pub is_past : commit.stamp < past.lo
  pub ended : read ≤ commit.ended

-- the commit was seen at one of these stampers
pub record IsSeenAtOneOf (stampers : List Stamper) (commit : Commit) : Type 0 where
  pub stamper : Stamper
  pub among : Contains stampers stamper
  pub seen : IsSeenAtStamper stamper commit

-- the commit was seen in one of these lives, or at one of these stampers
abbrev pub IsSeenInEither : {C V : Type 0} {gives : C → Option ℕ → C → Type 0} {failed : C → ℕ} {says : V → Question → Bool → Type 0} {waits : ℕ} → List (TimedLife gives failed says waits) → List Stamper → Commit → Type 0
IsSeenInEither lives stampers commit = IsSeenInOneOf lives commit ⊎ IsSeenAtOneOf stampers commit
