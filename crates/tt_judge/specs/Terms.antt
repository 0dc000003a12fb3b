-- Which commits of a shard contradict one another.
use Rattle.std.specs.Prelude.{◌≡◌, ℕ, ◌<◌, ◌≤◌, Bool, ◌&&◌, List, nat_eq, nat_lt, nat_le, count_by, length, Contains, MatchOption}
use Rattle.std.specs.List.{list_any}
use Rattle.tt_judge.specs.declared.history.ShardCommit.{ShardCommit}
use Rattle.tt_judge.specs.declared.judging.Violation.{Violation}
use Rattle.tt_judge.specs.declared.terms.Rule.{Rule}
use Rattle.tt_judge.specs.declared.terms.Rule.TheVariants.{Terms, Stamps}
use Rattle.tt_judge.specs.declared.terms.Conflicts.{Conflicts}
use Rattle.tt_judge.specs.declared.terms.TermJudgement.{TermJudgement}

-- both commits are of one shard, the second of a later term, and yet its stamp is not above that of the first
pub record CrossesTerm (earlier later : ShardCommit) : Type 0 where
  pub shard : earlier.shard ≡ later.shard
  pub terms : earlier.term < later.term
  pub stamps : later.stamp ≤ earlier.stamp

-- both commits are of one shard and have one stamp, and the second stands behind the first in the history
pub record RepeatsStamp (earlier later : ShardCommit) : Type 0 where
  pub shard : earlier.shard ≡ later.shard
  pub stamp : earlier.stamp ≡ later.stamp
  pub behind : earlier.number < later.number

-- the second commit contradicts the first: by the order of terms, or by an equal stamp
abbrev pub BreaksRule : Rule → ShardCommit → ShardCommit → Type 0
BreaksRule Terms earlier later = CrossesTerm earlier later
BreaksRule Stamps earlier later = RepeatsStamp earlier later

-- the commit contradicts some commit of these
abbrev pub IsInConflict : Rule → List ShardCommit → ShardCommit → Type 0
IsInConflict rule commits later = (earlier : ShardCommit) × Contains commits earlier × BreaksRule rule earlier later

-- no commit contradicts another one
abbrev pub HasNoConflict : Rule → List ShardCommit → Type 0
HasNoConflict rule commits = (later : ShardCommit) → Contains commits later → IsInConflict rule commits later → ⊥

-- whether the first commit contradicts the second
abbrev pub breaks_rule : Rule → ShardCommit → ShardCommit → Bool
breaks_rule Terms later earlier = nat_eq earlier.shard later.shard && (nat_lt earlier.term later.term && nat_le later.stamp earlier.stamp)
breaks_rule Stamps later earlier = nat_eq earlier.shard later.shard && (nat_eq earlier.stamp later.stamp && nat_lt earlier.number later.number)

-- whether the commit contradicts some commit of these
abbrev pub is_in_conflict : Rule → List ShardCommit → ShardCommit → Bool
is_in_conflict rule commits later = list_any (breaks_rule rule later) commits

-- how many of these commits contradict some commit of them
abbrev pub conflicts_of : Rule → List ShardCommit → ℕ
conflicts_of rule commits = count_by (is_in_conflict rule commits) commits

-- the first commit has a greater stamp than the second, or the same stamp and no greater number
pub record Exceeds (commit other : ShardCommit) : Type 0 where
  pub stamps : other.stamp ≤ commit.stamp
  pub ties : other.stamp ≡ commit.stamp → commit.number ≤ other.number

-- of the commits that the later one contradicts, the earlier one has the greatest stamp, and of those with that stamp the lowest number
pub record IsGreatestConflict (rule : Rule) (commits : List ShardCommit) (later earlier : ShardCommit) : Type 0 where
  pub among : Contains commits earlier
  pub breaks : BreaksRule rule earlier later
  pub greatest : (other : ShardCommit) → Contains commits other → BreaksRule rule other later → Exceeds earlier other

-- the first conflict: of the commits that contradict another one the first in the history, and of those that it contradicts the one with
-- the greatest stamp; of equals, the lowest number
pub record IsFirstConflict (rule : Rule) (commits : List ShardCommit) (violation : Violation) : Type 0 where
  pub later : ShardCommit
  pub earlier : ShardCommit
  pub later_number : violation.later ≡ later.number
  pub earlier_number : violation.earlier ≡ earlier.number
  pub among : Contains commits later
  pub greatest : IsGreatestConflict rule commits later earlier
  pub first : (other : ShardCommit) → Contains commits other → IsInConflict rule commits other → later.number ≤ other.number

-- how many commits contradict another one by this rule, and the first of these
pub record AreConflictsOf (rule : Rule) (commits : List ShardCommit) (conflicts : Conflicts) : Type 0 where
  pub count : conflicts.count ≡ conflicts_of rule commits
  pub first : MatchOption conflicts.first (HasNoConflict rule commits) (IsFirstConflict rule commits)

-- the judgement of the commits of all shards: by the order of terms, and by equal stamps
pub record IsTermJudgementOf (commits : List ShardCommit) (judgement : TermJudgement) : Type 0 where
  pub some : 0 < length commits
  pub terms : AreConflictsOf Terms commits judgement.terms
  pub stamps : AreConflictsOf Stamps commits judgement.stamps
