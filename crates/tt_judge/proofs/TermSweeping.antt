-- Commits of shards that are swept in the order of their keys.
use Rattle.std.proofs.Common.{◌≡◌, ℕ, ◌+◌, ◌<◌, ◌≤◌, inl, inr, List, length, take, refl, sym, subst, ap, arith, ◌∙◌, Option, Some, None}
use Rattle.std.specs.Prelude.{true, false, count_by, is_some, Contains, MatchOption}
use Rattle.std.specs.Int.{from_bool}
use Rattle.std.proofs.lemmas.Bool.{cases_lt, both_ways}
use Rattle.std.proofs.lemmas.List.{take_all, get_or_default}
use Rattle.std.proofs.lemmas.List.Sums.{count_by_more_yes, count_by_more_no}
use Rattle.tt_judge.specs.declared.history.ShardCommit.{ShardCommit}
use Rattle.tt_judge.specs.declared.judging.Violation.{Violation}
use Rattle.tt_judge.specs.declared.terms.Rule.{Rule}
use Rattle.tt_judge.specs.declared.terms.Rule.TheVariants.{Terms, Stamps}
use Rattle.tt_judge.specs.declared.terms.Leaders.{Leaders}
use Rattle.tt_judge.specs.Terms.{BreaksRule, HasNoConflict, is_in_conflict, Exceeds, IsFirstConflict, AreConflictsOf}
use Rattle.tt_judge.specs.TermSweep.{shard_commit_at, group_of, rank_of, key_of, ComesNoLater, AreInKeyOrder, IsOfGroup, IsEarlierInGroup, IsLeaderOf, IsLeaderIfAny, IsSwept, IsExceeding, IsTermVerdict, IsSooner, IsFirstConflictSoFar}
use Rattle.tt_judge.proofs.TermDeciding.{is_in_conflict-true, is_in_conflict-false, not-IsInConflict}

-- a commit contradicts those that stand before it in its group and have no lower stamp
behind-parts : (rule : Rule) (earlier later : ShardCommit) → BreaksRule rule earlier later → IsEarlierInGroup rule (key_of rule later) earlier × (later.stamp ≤ earlier.stamp)
behind-parts Terms earlier later h = (record { group = record { shard = h.shard; group = refl }; rank = h.terms }, h.stamps)
behind-parts Stamps earlier later h = (record { group = record { shard = h.shard; group = h.stamp }; rank = h.behind }, omega (arith, h.stamp))

breaks-from : (rule : Rule) (earlier later : ShardCommit) → IsEarlierInGroup rule (key_of rule later) earlier → later.stamp ≤ earlier.stamp → BreaksRule rule earlier later
breaks-from Terms earlier later h below = record { shard = h.group.shard; terms = h.rank; stamps = below }
breaks-from Stamps earlier later h below = record { shard = h.group.shard; stamp = h.group.group; behind = h.rank }

-- the place of a commit
at_place : (commits : List ShardCommit) (commit : ShardCommit) → Contains commits commit → (place : ℕ) × (place < length commits) × (shard_commit_at commits place ≡ commit)
at_place commits commit (place, inside, is) = (place, inside, get_or_default commits place (record { shard = 0; term = 0; stamp = 0; number = 0 }) commit inside ∙ is)

Contains-at : (commits : List ShardCommit) (commit : ShardCommit) (place : ℕ) → place < length commits → shard_commit_at commits place ≡ commit → Contains commits commit
Contains-at commits commit place inside is = (place, inside, get_or_default commits place commit (record { shard = 0; term = 0; stamp = 0; number = 0 }) inside ∙ is)

ComesNoLater-same : (key : ℕ × ℕ × ℕ) → ComesNoLater key key
ComesNoLater-same key = record { shards = omega arith; groups = λ _. omega arith; ranks = λ _ _. omega arith }

-- who leads such commits leads others, where among the first ones these are those
leader-same : (Such Others : ShardCommit → Type 0) (commits : List ShardCommit) (count : ℕ) →
    ((place : ℕ) → place < count → Such (shard_commit_at commits place) → Others (shard_commit_at commits place)) →
    ((place : ℕ) → place < count → Others (shard_commit_at commits place) → Such (shard_commit_at commits place)) →
    (leader : Option ShardCommit) → IsLeaderIfAny Such commits count leader → IsLeaderIfAny Others commits count leader
leader-same Such Others commits count forth back None none = λ place among such. none place among (back place among such)
leader-same Such Others commits count forth back (Some commit) h = record {
  place = h.place;
  among = h.among;
  is = h.is;
  such = subst Others h.is (forth h.place h.among (subst Such (sym h.is) h.such));
  exceeds = λ other among such. h.exceeds other among (back other among such);
}

-- the next commit is none of them
leader-pass : (Such : ShardCommit → Type 0) (commits : List ShardCommit) (count : ℕ) → (Such (shard_commit_at commits count) → ⊥) →
    (leader : Option ShardCommit) → IsLeaderIfAny Such commits count leader → IsLeaderIfAny Such commits (count + 1) leader
leader-pass Such commits count not None none = λ place among such. elim (cases_lt place count) [
  | inl before ↦ none place before such
  | inr late ↦
      let same : place ≡ count = omega arith in
      not (subst (λ (p : ℕ). Such (shard_commit_at commits p)) same such)
]
leader-pass Such commits count not (Some commit) h = record {
  place = h.place;
  among = omega (arith, h.among);
  is = h.is;
  such = h.such;
  exceeds = λ other among such. elim (cases_lt other count) [
    | inl before ↦ h.exceeds other before such
    | inr late ↦
        let same : other ≡ count = omega arith in
        absurd (not (subst (λ (p : ℕ). Such (shard_commit_at commits p)) same such))
  ];
}

Exceeds-same : (commit : ShardCommit) → Exceeds commit commit
Exceeds-same commit = record { stamps = omega arith; ties = λ _. omega arith }

Exceeds-trans : (a b c : ShardCommit) → Exceeds a b → Exceeds b c → Exceeds a c
Exceeds-trans a b c one two = record {
  stamps = omega (arith, one.stamps, two.stamps);
  ties = λ same.
      let first : b.stamp ≡ a.stamp = omega (arith, one.stamps, two.stamps) in
      let second : c.stamp ≡ b.stamp = omega arith in
      omega (arith, one.ties first, two.ties second);
}

-- the next commit is one of them
leader-push : (Such : ShardCommit → Type 0) (commits : List ShardCommit) (count : ℕ) → Such (shard_commit_at commits count) →
    (leader : Option ShardCommit) (result : ShardCommit) → IsLeaderIfAny Such commits count leader → IsExceeding leader (shard_commit_at commits count) result →
    IsLeaderOf Such commits (count + 1) result
leader-push Such commits count such None result none is = record {
  place = count;
  among = omega arith;
  is = sym is;
  such = subst Such (sym is) such;
  exceeds = λ other among found. elim (cases_lt other count) [
    | inl before ↦ absurd (none other before found)
    | inr late ↦
        let same : count ≡ other = omega arith in
        subst (λ (p : ℕ). Exceeds result (shard_commit_at commits p)) same (subst (λ (c : ShardCommit). Exceeds c (shard_commit_at commits count)) (sym is) (Exceeds-same (shard_commit_at commits count)))
  ];
}
leader-push Such commits count such (Some commit) result h (own, other_own, which) = record {
  place = found.0;
  among = found.1;
  is = found.2.0;
  such = found.2.1;
  exceeds = λ other among is_such. elim (cases_lt other count) [
    | inl before ↦ Exceeds-trans result commit (shard_commit_at commits other) other_own (h.exceeds other before is_such)
    | inr late ↦
        let same : count ≡ other = omega arith in
        subst (λ (p : ℕ). Exceeds result (shard_commit_at commits p)) same own
  ];
}
  where
    found : (place : ℕ) × (place < count + 1) × ((shard_commit_at commits place ≡ result) × Such result)
    found = elim which [
      | inl is ↦ (count, omega arith, (sym is, subst Such (sym is) such))
      | inr is ↦ (h.place, omega (arith, h.among), (h.is ∙ sym is, subst Such (sym is) h.such))
    ]

module _ (rule : Rule) (commits : List ShardCommit) (order : AreInKeyOrder rule commits) (place : ℕ) (inside : place < length commits) where
  abbrev own : ShardCommit
  own = shard_commit_at commits place

  module _ (leaders : Leaders) (swept : IsSwept rule commits place leaders) (key : ℕ × ℕ × ℕ) (is : key ≡ key_of rule own) where
    next : ComesNoLater leaders.key key
    next = subst (λ (k : ℕ × ℕ × ℕ). ComesNoLater leaders.key k) (sym is) (swept.after place (omega arith) inside)

    before_key : (other : ℕ) → other < place → ComesNoLater (key_of rule (shard_commit_at commits other)) key
    before_key other among = subst (λ (k : ℕ × ℕ × ℕ). ComesNoLater (key_of rule (shard_commit_at commits other)) k) (sym is) (order other place (omega arith) inside)

    after_key : (other : ℕ) → place ≤ other → other < length commits → ComesNoLater key (key_of rule (shard_commit_at commits other))
    after_key other from within = subst (λ (k : ℕ × ℕ × ℕ). ComesNoLater k (key_of rule (shard_commit_at commits other))) (sym is) (order place other from within)

    -- none of the new group before
    none_of_group : (key.0 ≡ leaders.key.0 → key.1 ≡ leaders.key.1 → ⊥) → (other : ℕ) → other < place → IsOfGroup rule key (shard_commit_at commits other) → ⊥
    none_of_group differ other among such =
        let up = swept.before other among in
        let shard : (shard_commit_at commits other).shard ≡ key.0 = such.shard in
        let shards : (shard_commit_at commits other).shard ≤ leaders.key.0 = up.shards in
        let more : leaders.key.0 ≤ key.0 = next.shards in
        let same : key.0 ≡ leaders.key.0 = omega arith in
        let groups : group_of rule (shard_commit_at commits other) ≤ leaders.key.1 = up.groups (omega arith) in
        let group : group_of rule (shard_commit_at commits other) ≡ key.1 = such.group in
        let further : leaders.key.1 ≤ key.1 = next.groups (sym same) in
        differ same (omega arith)

    pub swept-other_group : (key.0 ≡ leaders.key.0 → key.1 ≡ leaders.key.1 → ⊥) → IsSwept rule commits place (record { key = key; all = None; earlier = None })
    swept-other_group differ = record {
      before = before_key;
      after = after_key;
      all = none_of_group differ;
      earlier = λ other among such. none_of_group differ other among such.group;
    }

    pub swept-other_rank : key.0 ≡ leaders.key.0 → key.1 ≡ leaders.key.1 → (key.2 ≡ leaders.key.2 → ⊥) → IsSwept rule commits place (record { key = key; all = leaders.all; earlier = leaders.all })
    swept-other_rank shard group differ = record {
      before = before_key;
      after = after_key;
      all = leader-same (IsOfGroup rule leaders.key) (IsOfGroup rule key) commits place (λ other among such. forth other such) (λ other among such. back other such) leaders.all swept.all;
      earlier = leader-same (IsOfGroup rule leaders.key) (IsEarlierInGroup rule key) commits place
          (λ other among such. record { group = forth other such; rank = lower other among such }) (λ other among such. back other such.group) leaders.all swept.all;
    }
      where
        forth : (other : ℕ) → IsOfGroup rule leaders.key (shard_commit_at commits other) → IsOfGroup rule key (shard_commit_at commits other)
        forth other such = record { shard = such.shard ∙ sym shard; group = such.group ∙ sym group }

        back : (other : ℕ) → IsOfGroup rule key (shard_commit_at commits other) → IsOfGroup rule leaders.key (shard_commit_at commits other)
        back other such = record { shard = such.shard ∙ shard; group = such.group ∙ group }

        lower : (other : ℕ) → other < place → IsOfGroup rule leaders.key (shard_commit_at commits other) → rank_of rule (shard_commit_at commits other) < key.2
        lower other among such =
            let rank : rank_of rule (shard_commit_at commits other) ≤ leaders.key.2 = (swept.before other among).ranks such.shard such.group in
            let more : leaders.key.2 ≤ key.2 = next.ranks (sym shard) (sym group) in
            elim (cases_lt leaders.key.2 key.2) [
              | inl less ↦ omega arith
              | inr same ↦ absurd (differ (omega arith))
            ]

  module _ (leaders : Leaders) (swept : IsSwept rule commits place leaders) (is : leaders.key ≡ key_of rule own) where
    early : (earlier : ShardCommit) → BreaksRule rule earlier own → IsEarlierInGroup rule leaders.key earlier × (own.stamp ≤ earlier.stamp)
    early earlier breaks =
        let parts = behind-parts rule earlier own breaks in
        (subst (λ (k : ℕ × ℕ × ℕ). IsEarlierInGroup rule k earlier) (sym is) parts.0, parts.1)

    -- what is earlier in the group stands before
    early_place : (other : ℕ) → other < length commits → IsEarlierInGroup rule leaders.key (shard_commit_at commits other) → other < place
    early_place other within such = elim (cases_lt other place) [
      | inl before ↦ before
      | inr late ↦
          let up = swept.after other late within in
          let rank : leaders.key.2 ≤ rank_of rule (shard_commit_at commits other) = up.ranks (sym such.group.shard) (sym such.group.group) in
          let less : rank_of rule (shard_commit_at commits other) < leaders.key.2 = such.rank in
          absurd (omega arith)
    ]

    found : (earlier : ShardCommit) → Contains commits earlier → BreaksRule rule earlier own →
        (other : ℕ) × (other < place) × ((shard_commit_at commits other ≡ earlier) × IsEarlierInGroup rule leaders.key (shard_commit_at commits other))
    found earlier among breaks =
        let w = at_place commits earlier among in
        let such : IsEarlierInGroup rule leaders.key (shard_commit_at commits w.0) = subst (IsEarlierInGroup rule leaders.key) (sym w.2) (early earlier breaks).0 in
        (w.0, early_place w.0 w.1 such, (w.2, such))

    pub verdict-none : IsLeaderIfAny (IsEarlierInGroup rule leaders.key) commits place None → is_in_conflict rule commits own ≡ false
    verdict-none none = is_in_conflict-false rule commits own (λ w.
        let f = found w.0 w.1 w.2 in
        none f.0 f.1 f.2.1)

    module _ (earlier : ShardCommit) (leads : IsLeaderOf (IsEarlierInGroup rule leaders.key) commits place earlier) where
      above : (other : ShardCommit) → Contains commits other → BreaksRule rule other own → Exceeds earlier other
      above other among breaks =
          let f = found other among breaks in
          subst (Exceeds earlier) f.2.0 (leads.exceeds f.0 f.1 f.2.1)

      pub verdict-above : earlier.stamp < own.stamp → is_in_conflict rule commits own ≡ false
      verdict-above greater = is_in_conflict-false rule commits own (λ w.
          let below : own.stamp ≤ w.0.stamp = (early w.0 w.2).1 in
          let less : w.0.stamp ≤ earlier.stamp = (above w.0 w.1 w.2).stamps in
          omega arith)

      pub verdict-some : own.stamp ≤ earlier.stamp → IsTermVerdict rule commits own (Some (record { later = own.number; earlier = earlier.number }))
      verdict-some below =
          let such : IsEarlierInGroup rule (key_of rule own) earlier = subst (λ (k : ℕ × ℕ × ℕ). IsEarlierInGroup rule k earlier) is leads.such in
          let breaks : BreaksRule rule earlier own = breaks-from rule earlier own such below in
          let among : Contains commits earlier = Contains-at commits earlier leads.place (omega (arith, leads.among)) leads.is in
          (refl, is_in_conflict-true rule commits own (earlier, among, breaks), (earlier, refl, record { among = among; breaks = breaks; greatest = above }))

    pub swept-pass : (result : ShardCommit) → IsExceeding leaders.all own result → IsSwept rule commits (place + 1) (record { key = leaders.key; all = Some result; earlier = leaders.earlier })
    swept-pass result exceeding = record {
      before = λ other among. elim (cases_lt other place) [
        | inl before ↦ swept.before other before
        | inr late ↦
            let same : place ≡ other = omega arith in
            subst (λ (p : ℕ). ComesNoLater (key_of rule (shard_commit_at commits p)) leaders.key) same (subst (λ (k : ℕ × ℕ × ℕ). ComesNoLater k leaders.key) is (ComesNoLater-same leaders.key))
      ];
      after = λ other from within. swept.after other (omega arith) within;
      all = leader-push (IsOfGroup rule leaders.key) commits place such leaders.all result swept.all exceeding;
      earlier = leader-pass (IsEarlierInGroup rule leaders.key) commits place (λ early. not early) leaders.earlier swept.earlier;
    }
      where
        such : IsOfGroup rule leaders.key own
        such = subst (λ (k : ℕ × ℕ × ℕ). IsOfGroup rule k own) (sym is) (record { shard = refl; group = refl })

        not : IsEarlierInGroup rule leaders.key own → ⊥
        not early =
            let rank : rank_of rule own < leaders.key.2 = early.rank in
            let same : leaders.key.2 ≡ rank_of rule own = ap (λ (k : ℕ × ℕ × ℕ). k.2) is in
            omega arith

-- nothing has been passed at first
pub swept-none : (rule : Rule) (commits : List ShardCommit) → IsSwept rule commits 0 (record { key = (0, 0, 0); all = None; earlier = None })
swept-none rule commits = record {
  before = λ place among. absurd (omega arith);
  after = λ place from within. record { shards = omega arith; groups = λ _. omega arith; ranks = λ _ _. omega arith };
  all = λ place among. absurd (omega arith);
  earlier = λ place among. absurd (omega arith);
}

-- the first commits have been judged
pub record AreConflictsSoFar (rule : Rule) (commits : List ShardCommit) (count : ℕ) (conflicts : ℕ) (first : Option Violation) : Type 0 where
  pub counted : conflicts ≡ count_by (is_in_conflict rule commits) (take count commits)
  pub few : conflicts ≤ count
  pub found : IsFirstConflictSoFar rule commits count first

module _ (rule : Rule) (commits : List ShardCommit) where
  pub conflicts-none : AreConflictsSoFar rule commits 0 0 None
  conflicts-none = record { counted = refl; few = omega arith; found = λ place among. absurd (omega arith) }

  module _ (place : ℕ) where
    abbrev own_at : ShardCommit
    own_at = shard_commit_at commits place

    -- where one of the first commits is in conflict, it is this one, or one before
    one_of : (P : ShardCommit → Type 0) → ((other : ℕ) → other < place → is_in_conflict rule commits (shard_commit_at commits other) ≡ true → P (shard_commit_at commits other)) →
        (is_in_conflict rule commits own_at ≡ true → P own_at) →
        (other : ℕ) → other < place + 1 → is_in_conflict rule commits (shard_commit_at commits other) ≡ true → P (shard_commit_at commits other)
    one_of P old now other among is = elim (cases_lt other place) [
      | inl before ↦ old other before is
      | inr late ↦
          let same : other ≡ place = omega arith in
          subst (λ (p : ℕ). P (shard_commit_at commits p)) (sym same) (now (subst (λ (p : ℕ). is_in_conflict rule commits (shard_commit_at commits p) ≡ true) same is))
    ]

    found_more : (first verdict result : Option Violation) → IsFirstConflictSoFar rule commits place first → IsTermVerdict rule commits own_at verdict → IsSooner first verdict result →
        IsFirstConflictSoFar rule commits (place + 1) result
    found_more None None result none now is = subst (IsFirstConflictSoFar rule commits (place + 1)) (sym is) (λ other among.
        elim (cases_lt other place) [
          | inl before ↦ none other before
          | inr late ↦
              let same : place ≡ other = omega arith in
              subst (λ (p : ℕ). is_in_conflict rule commits (shard_commit_at commits p) ≡ false) same now
        ])
    found_more None (Some next) result none now is = subst (IsFirstConflictSoFar rule commits (place + 1)) (sym is)
        (place, omega arith, now, one_of (λ c. next.later ≤ c.number) (λ other among yes. absurd (both_ways _ (none other among) yes)) (λ yes. omega (arith, now.0)))
    found_more (Some first) None result (at, among, verdict, least) now is = subst (IsFirstConflictSoFar rule commits (place + 1)) (sym is)
        (at, omega arith, verdict, one_of (λ c. first.later ≤ c.number) least (λ yes. absurd (both_ways _ now yes)))
    found_more (Some first) (Some next) result (at, among, verdict, least) now (inl (is, sooner)) = subst (IsFirstConflictSoFar rule commits (place + 1)) (sym is)
        (at, omega arith, verdict, one_of (λ c. first.later ≤ c.number) least (λ yes. omega (arith, now.0)))
    found_more (Some first) (Some next) result (at, among, verdict, least) now (inr (is, sooner)) = subst (IsFirstConflictSoFar rule commits (place + 1)) (sym is)
        (place, omega arith, now, one_of (λ c. next.later ≤ c.number) (λ other before yes. omega (arith, least other before yes)) (λ yes. omega (arith, now.0)))

    counted_more : (verdict : Option Violation) → place < length commits → IsTermVerdict rule commits own_at verdict →
        count_by (is_in_conflict rule commits) (take (place + 1) commits) ≡ count_by (is_in_conflict rule commits) (take place commits) + from_bool (is_some verdict)
    counted_more None inside now = count_by_more_no (is_in_conflict rule commits) commits place (record { shard = 0; term = 0; stamp = 0; number = 0 }) inside now ∙ omega arith
    counted_more (Some violation) inside now = count_by_more_yes (is_in_conflict rule commits) commits place (record { shard = 0; term = 0; stamp = 0; number = 0 }) inside now.1

    one_at_most : (verdict : Option Violation) → from_bool (is_some verdict) ≤ 1
    one_at_most None = omega arith
    one_at_most (Some violation) = omega arith

    pub conflicts-more : (conflicts : ℕ) (first verdict result : Option Violation) → place < length commits → AreConflictsSoFar rule commits place conflicts first →
        IsTermVerdict rule commits own_at verdict → IsSooner first verdict result → AreConflictsSoFar rule commits (place + 1) (conflicts + from_bool (is_some verdict)) result
    conflicts-more conflicts first verdict result inside so_far now sooner = record {
      counted = omega (arith, counted_more verdict inside now, so_far.counted);
      few = omega (arith, one_at_most verdict, so_far.few);
      found = found_more first verdict result so_far.found now sooner;
    }

  -- all have been judged
  first-whole : (first : Option Violation) → IsFirstConflictSoFar rule commits (length commits) first → MatchOption first (HasNoConflict rule commits) (IsFirstConflict rule commits)
  first-whole None none = λ later among conflict.
      let w = at_place commits later among in
      not-IsInConflict rule commits later (subst (λ (c : ShardCommit). is_in_conflict rule commits c ≡ false) w.2 (none w.0 w.1)) conflict
  first-whole (Some violation) (place, among, (same, conflicts, (earlier, is, greatest)), least) = record {
    later = shard_commit_at commits place;
    earlier = earlier;
    later_number = same;
    earlier_number = is;
    among = Contains-at commits (shard_commit_at commits place) place among refl;
    greatest = greatest;
    first = λ other contained conflict.
        let w = at_place commits other contained in
        let found : violation.later ≤ (shard_commit_at commits w.0).number = least w.0 w.1 (subst (λ (c : ShardCommit). is_in_conflict rule commits c ≡ true) (sym w.2) (is_in_conflict-true rule commits other conflict)) in
        let number : (shard_commit_at commits w.0).number ≡ other.number = ap (λ (c : ShardCommit). c.number) w.2 in
        omega (arith, same);
  }

  pub conflicts-whole : (conflicts : ℕ) (first : Option Violation) (count : ℕ) → count ≡ length commits → AreConflictsSoFar rule commits count conflicts first →
      AreConflictsOf rule commits (record { count = conflicts; first = first })
  conflicts-whole conflicts first count is so_far =
      let all : take (length commits) commits ≡ commits = take_all (length commits) commits (omega arith) in
      record {
        count = so_far.counted ∙ (ap (λ (n : ℕ). count_by (is_in_conflict rule commits) (take n commits)) is ∙ ap (λ (cs : List ShardCommit). count_by (is_in_conflict rule commits) cs) all);
        first = first-whole first (subst (λ (n : ℕ). IsFirstConflictSoFar rule commits n first) is so_far.found);
      }
