-- Terms: which leases are granted to the leaders of a shard, and the commits that are made in them. An engine with consensus grants the leases.
use Rattle.std.specs.Prelude.{◌≡◌, ◌⊎◌, ℕ, ◌<◌, ◌≤◌, List, Bool, Option, Some, Contains, slice_get}
use Rattle.tt_span.specs.Interval.{Interval, Holds, Within}
use Rattle.tt_judge.specs.declared.history.ShardCommit.{ShardCommit}
use Rattle.tt_connections.specs.declared.presence.Question.{Question}
use Rattle.tt_consistency.specs.Order.{IsLeasedAt}
use Rattle.tt_consistency.specs.Stampers.{FollowsRule, GivenStamp}
use Rattle.tt_consistency.specs.Timed.{TimedSession}

-- ---- the grants of a shard

-- a grant: a term, and the lease that was granted to it
pub record Grant : Type 0 where
  pub term : ℕ
  pub lease : Interval

-- the earlier grant is to no greater term, and its lease ends below the beginning of the later one's
pub record Precedes (earlier later : Grant) : Type 0 where
  pub term : earlier.term ≤ later.term
  pub lease : earlier.lease.hi < later.lease.lo

-- the grants of a shard, the oldest first: terms do not fall, and each lease begins above the ends of all leases before it
abbrev pub AreGrantedInTurn : List Grant → Type 0
AreGrantedInTurn grants = (place later_place : ℕ) (earlier later : Grant) → place < later_place →
    slice_get grants place ≡ Some earlier → slice_get grants later_place ≡ Some later → Precedes earlier later

-- each time of this lease lies in a lease that was granted to this term: it is such a lease, a part of one, or made of several
abbrev pub IsGrantedTo : List Grant → ℕ → Interval → Type 0
IsGrantedTo grants term lease = (time : ℕ) → Holds lease time →
    (place : ℕ) × (grant : Grant) × (slice_get grants place ≡ Some grant) × (grant.term ≡ term) × Holds grant.lease time

-- ---- stamps and commits

-- a session gave this stamp, under this lease, which it had set
pub record IsGivenBySession {C V : Type 0} (gives : C → Option ℕ → C → Type 0) (failed : C → ℕ) (says : V → Question → Bool → Type 0) (lease : Interval) (stamp : ℕ) : Type 0 where
  pub session : TimedSession gives failed says
  pub place : ℕ
  pub later : ℕ
  pub number : ℕ
  pub leased : IsLeasedAt session.calls lease place later number stamp

-- a stamper with this lease gave this stamp, and these stamps in all
pub record IsGivenByStamper (lease : Interval) (stamp : ℕ) : Type 0 where
  pub all : List GivenStamp
  pub rule : FollowsRule lease all
  pub given : GivenStamp
  pub there : Contains all given
  pub is : given.stamp ≡ stamp

-- the stamp was given under this lease, by a session or by a stamper
abbrev pub IsGivenUnder : {C V : Type 0} (gives : C → Option ℕ → C → Type 0) (failed : C → ℕ) (says : V → Question → Bool → Type 0) → Interval → ℕ → Type 0
IsGivenUnder gives failed says lease stamp = IsGivenBySession gives failed says lease stamp ⊎ IsGivenByStamper lease stamp

-- the stamp was given under the grant at this place, or under a part of its lease
pub record IsGivenAt {C V : Type 0} (gives : C → Option ℕ → C → Type 0) (failed : C → ℕ) (says : V → Question → Bool → Type 0) (grants : List Grant) (place stamp : ℕ) : Type 0 where
  pub grant : Grant
  pub there : slice_get grants place ≡ Some grant
  pub lease : Interval
  pub part : Within lease grant.lease
  pub given : IsGivenUnder gives failed says lease stamp

-- a commit was made in its term, where each shard has these grants: its stamp was given under a lease that was granted to this term
pub record IsMadeInTerm {C V : Type 0} (gives : C → Option ℕ → C → Type 0) (failed : C → ℕ) (says : V → Question → Bool → Type 0) (grants : ℕ → List Grant) (commit : ShardCommit) : Type 0 where
  pub lease : Interval
  pub granted : IsGrantedTo (grants commit.shard) commit.term lease
  pub given : IsGivenUnder gives failed says lease commit.stamp
