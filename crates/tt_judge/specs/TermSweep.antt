-- How far the commits of shards have been judged by one rule.
use Rattle.std.specs.Prelude.{◌≡◌, ℕ, ◌<◌, ◌≤◌, true, false, List, length, Option, Some, MatchOption, slice_index_or, ◌⊎◌}
use Rattle.tt_judge.specs.declared.history.ShardCommit.{ShardCommit}
use Rattle.tt_judge.specs.declared.judging.Violation.{Violation}
use Rattle.tt_judge.specs.declared.terms.Rule.{Rule}
use Rattle.tt_judge.specs.declared.terms.Rule.TheVariants.{Terms, Stamps}
use Rattle.tt_judge.specs.declared.terms.Leaders.{Leaders}
use Rattle.tt_judge.specs.Terms.{is_in_conflict, Exceeds, IsGreatestConflict}

-- the commit at this place of a list
abbrev pub shard_commit_at : List ShardCommit → ℕ → ShardCommit
shard_commit_at commits place = slice_index_or commits place (record { shard = 0; term = 0; stamp = 0; number = 0 })

-- a rule compares commits of one group of a shard: by the order of terms all of the shard, by equal stamps those with one stamp
abbrev pub group_of : Rule → ShardCommit → ℕ
group_of Terms commit = 0
group_of Stamps commit = commit.stamp

-- what makes one commit of a group earlier than another: its term, or its number
abbrev pub rank_of : Rule → ShardCommit → ℕ
rank_of Terms commit = commit.term
rank_of Stamps commit = commit.number

-- shard, group and rank
abbrev pub key_of : Rule → ShardCommit → ℕ × ℕ × ℕ
key_of rule commit = (commit.shard, group_of rule commit, rank_of rule commit)

-- the first key comes no later than the second: its first number that differs is the lower one
pub record ComesNoLater (key other : ℕ × ℕ × ℕ) : Type 0 where
  pub shards : key.0 ≤ other.0
  pub groups : key.0 ≡ other.0 → key.1 ≤ other.1
  pub ranks : key.0 ≡ other.0 → key.1 ≡ other.1 → key.2 ≤ other.2

-- the commits stand in the order of their keys
abbrev pub AreInKeyOrder : Rule → List ShardCommit → Type 0
AreInKeyOrder rule commits = (place later : ℕ) → place ≤ later → later < length commits →
    ComesNoLater (key_of rule (shard_commit_at commits place)) (key_of rule (shard_commit_at commits later))

-- the commit is of the shard and the group of this key
pub record IsOfGroup (rule : Rule) (key : ℕ × ℕ × ℕ) (commit : ShardCommit) : Type 0 where
  pub shard : commit.shard ≡ key.0
  pub group : group_of rule commit ≡ key.1

-- it is of that group, and of a lower rank
pub record IsEarlierInGroup (rule : Rule) (key : ℕ × ℕ × ℕ) (commit : ShardCommit) : Type 0 where
  pub group : IsOfGroup rule key commit
  pub rank : rank_of rule commit < key.2

-- among the first of these commits this one is such a commit, and exceeds all others that are
pub record IsLeaderOf (Such : ShardCommit → Type 0) (commits : List ShardCommit) (count : ℕ) (leader : ShardCommit) : Type 0 where
  pub place : ℕ
  pub among : place < count
  pub is : shard_commit_at commits place ≡ leader
  pub such : Such leader
  pub exceeds : (other : ℕ) → other < count → Such (shard_commit_at commits other) → Exceeds leader (shard_commit_at commits other)

-- their leader, or none where none of them is such a commit
abbrev pub IsLeaderIfAny : (ShardCommit → Type 0) → List ShardCommit → ℕ → Option ShardCommit → Type 0
IsLeaderIfAny Such commits count leader = MatchOption leader
    ((place : ℕ) → place < count → Such (shard_commit_at commits place) → ⊥) (IsLeaderOf Such commits count)

-- so many commits have been passed. The key lies between theirs and the others'; of its group, and of lower ranks in it, these lead
pub record IsSwept (rule : Rule) (commits : List ShardCommit) (count : ℕ) (leaders : Leaders) : Type 0 where
  pub before : (place : ℕ) → place < count → ComesNoLater (key_of rule (shard_commit_at commits place)) leaders.key
  pub after : (place : ℕ) → count ≤ place → place < length commits → ComesNoLater leaders.key (key_of rule (shard_commit_at commits place))
  pub all : IsLeaderIfAny (IsOfGroup rule leaders.key) commits count leaders.all
  pub earlier : IsLeaderIfAny (IsEarlierInGroup rule leaders.key) commits count leaders.earlier

-- the commit is the one that is added, or led so far, and it exceeds both
abbrev pub IsExceeding : Option ShardCommit → ShardCommit → ShardCommit → Type 0
IsExceeding leader commit result =
    MatchOption leader (result ≡ commit) (λ other. Exceeds result commit × Exceeds result other × ((result ≡ commit) ⊎ (result ≡ other)))

-- a commit contradicts none, or this is its conflict
abbrev pub IsTermVerdict : Rule → List ShardCommit → ShardCommit → Option Violation → Type 0
IsTermVerdict rule commits later verdict = MatchOption verdict (is_in_conflict rule commits later ≡ false)
    (λ violation. (violation.later ≡ later.number)
    × (is_in_conflict rule commits later ≡ true)
    × ((earlier : ShardCommit) × (violation.earlier ≡ earlier.number) × IsGreatestConflict rule commits later earlier))

-- of two conflicts, if there are two, the one of the commit that comes first; of the same commit, the first
abbrev pub IsSooner : Option Violation → Option Violation → Option Violation → Type 0
IsSooner first next result = MatchOption first (result ≡ next)
    (λ one. MatchOption next (result ≡ first)
    (λ other. ((result ≡ first) × (one.later ≤ other.later)) ⊎ ((result ≡ next) × (other.later < one.later))))

-- the first conflict among the first of these commits, if one of them contradicts another one
abbrev pub IsFirstConflictSoFar : Rule → List ShardCommit → ℕ → Option Violation → Type 0
IsFirstConflictSoFar rule commits count first = MatchOption first
    ((place : ℕ) → place < count → is_in_conflict rule commits (shard_commit_at commits place) ≡ false)
    (λ violation. (place : ℕ) × (place < count) × IsTermVerdict rule commits (shard_commit_at commits place) (Some violation)
    × ((other : ℕ) → other < count → is_in_conflict rule commits (shard_commit_at commits other) ≡ true → violation.later ≤ (shard_commit_at commits other).number))
