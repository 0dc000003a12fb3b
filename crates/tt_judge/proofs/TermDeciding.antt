-- What the tests of the commits of shards mean.
use Rattle.std.proofs.Common.{◌≡◌, List, get_or, sym, subst, ap, ◌∙◌, Option, None, Some}
use Rattle.std.specs.Prelude.{Bool, true, false, nat_eq, nat_lt, nat_le, count_by, Contains, MatchOption, IsPermutation, ◌↔◌}
use Rattle.std.proofs.Math.Path.{fun_ext}
use Rattle.std.proofs.lemmas.Bool.{and_parts, and_from, eqb-true, eq-eqb, ltb-true, leb-true, lt-ltb, le-leb, both_ways, false_from_ne_true}
use Rattle.std.proofs.lemmas.List.Elements.{Contains-get_or}
use Rattle.std.proofs.lemmas.List.Folds.{Any-from_list_any, list_any_at}
use Rattle.std.proofs.lemmas.List.Sorted.{Contains-permutation, IsPermutation-sym, sum_by-IsPermutation, list_any-IsPermutation}
use Rattle.tt_judge.specs.declared.history.ShardCommit.{ShardCommit}
use Rattle.tt_judge.specs.declared.judging.Violation.{Violation}
use Rattle.tt_judge.specs.declared.terms.Rule.{Rule}
use Rattle.tt_judge.specs.declared.terms.Rule.TheVariants.{Terms, Stamps}
use Rattle.tt_judge.specs.declared.terms.Conflicts.{Conflicts}
use Rattle.tt_judge.specs.Terms.{BreaksRule, IsInConflict, HasNoConflict, breaks_rule, is_in_conflict, conflicts_of, IsFirstConflict, AreConflictsOf}
use Rattle.tt_judge.proofs.Deciding.{tally, none_counted, count_by-none}

BreaksRule-from_true : (rule : Rule) (earlier later : ShardCommit) → breaks_rule rule later earlier ≡ true → BreaksRule rule earlier later
BreaksRule-from_true Terms earlier later is =
    let parts = and_parts (nat_eq earlier.shard later.shard) _ is in
    let more = and_parts (nat_lt earlier.term later.term) (nat_le later.stamp earlier.stamp) parts.1 in
    record { shard = eqb-true earlier.shard later.shard parts.0; terms = ltb-true earlier.term later.term more.0; stamps = leb-true later.stamp earlier.stamp more.1 }
BreaksRule-from_true Stamps earlier later is =
    let parts = and_parts (nat_eq earlier.shard later.shard) _ is in
    let more = and_parts (nat_eq earlier.stamp later.stamp) (nat_lt earlier.number later.number) parts.1 in
    record { shard = eqb-true earlier.shard later.shard parts.0; stamp = eqb-true earlier.stamp later.stamp more.0; behind = ltb-true earlier.number later.number more.1 }

breaks_rule-true : (rule : Rule) (earlier later : ShardCommit) → BreaksRule rule earlier later → breaks_rule rule later earlier ≡ true
breaks_rule-true Terms earlier later h =
    and_from (nat_eq earlier.shard later.shard) _ (eq-eqb earlier.shard later.shard h.shard)
    (and_from (nat_lt earlier.term later.term) (nat_le later.stamp earlier.stamp) (lt-ltb earlier.term later.term h.terms) (le-leb later.stamp earlier.stamp h.stamps))
breaks_rule-true Stamps earlier later h =
    and_from (nat_eq earlier.shard later.shard) _ (eq-eqb earlier.shard later.shard h.shard)
    (and_from (nat_eq earlier.stamp later.stamp) (nat_lt earlier.number later.number) (eq-eqb earlier.stamp later.stamp h.stamp) (lt-ltb earlier.number later.number h.behind))

module _ (rule : Rule) (commits : List ShardCommit) where
  module _ (later : ShardCommit) where
    pub IsInConflict-from_true : is_in_conflict rule commits later ≡ true → IsInConflict rule commits later
    IsInConflict-from_true is =
        let w = Any-from_list_any (breaks_rule rule later) commits is in
        (w.1, (w.0, w.2, w.3), BreaksRule-from_true rule w.1 later w.4)

    pub is_in_conflict-true : IsInConflict rule commits later → is_in_conflict rule commits later ≡ true
    is_in_conflict-true (earlier, (place, inside, is), breaks) =
        list_any_at (breaks_rule rule later) commits place earlier inside
        (subst (λ (c : ShardCommit). breaks_rule rule later c ≡ true) (sym is) (breaks_rule-true rule earlier later breaks))

    pub is_in_conflict-false : (IsInConflict rule commits later → ⊥) → is_in_conflict rule commits later ≡ false
    is_in_conflict-false none = false_from_ne_true (is_in_conflict rule commits later) (λ is. none (IsInConflict-from_true is))

    pub not-IsInConflict : is_in_conflict rule commits later ≡ false → IsInConflict rule commits later → ⊥
    not-IsInConflict is w = both_ways (is_in_conflict rule commits later) is (is_in_conflict-true w)

    pub is_in_conflict-decides : (is_in_conflict rule commits later ≡ true) ↔ IsInConflict rule commits later
    is_in_conflict-decides = (IsInConflict-from_true, is_in_conflict-true)

  pub none-HasNoConflict : (conflicts_of rule commits ≡ 0) ↔ HasNoConflict rule commits
  none-HasNoConflict = (forth, back)
    where
      forth : conflicts_of rule commits ≡ 0 → HasNoConflict rule commits
      forth zero later (place, inside, is) conflict =
          none_counted (is_in_conflict rule commits) commits place later inside zero
          (subst (λ (c : ShardCommit). is_in_conflict rule commits c ≡ true) (sym is) (is_in_conflict-true later conflict))

      back : HasNoConflict rule commits → conflicts_of rule commits ≡ 0
      back none = count_by-none (is_in_conflict rule commits) commits
          (λ number d inside. is_in_conflict-false (get_or commits number d) (none (get_or commits number d) (Contains-get_or commits number d inside)))

-- the same commits in another order have the same conflicts
module _ (rule : Rule) (commits others : List ShardCommit) (moved : IsPermutation commits others) where
  there : (commit : ShardCommit) → Contains commits commit → Contains others commit
  there commit among = Contains-permutation commits others commit moved among

  here : (commit : ShardCommit) → Contains others commit → Contains commits commit
  here commit among = Contains-permutation others commits commit (IsPermutation-sym commits others moved) among

  conflicts_of-permutation : conflicts_of rule others ≡ conflicts_of rule commits
  conflicts_of-permutation =
      let test : is_in_conflict rule commits ≡ is_in_conflict rule others = fun_ext (λ (commit : ShardCommit). list_any-IsPermutation (breaks_rule rule commit) commits others moved) in
      sum_by-IsPermutation (λ (c : ShardCommit). tally (is_in_conflict rule others c)) commits others moved
      ∙ ap (λ (t : ShardCommit → Bool). count_by t commits) (sym test)

  IsInConflict-there : (later : ShardCommit) → IsInConflict rule commits later → IsInConflict rule others later
  IsInConflict-there later w = (w.0, there w.0 w.1, w.2)

  IsInConflict-here : (later : ShardCommit) → IsInConflict rule others later → IsInConflict rule commits later
  IsInConflict-here later w = (w.0, here w.0 w.1, w.2)

  IsFirstConflict-permutation : (violation : Violation) → IsFirstConflict rule others violation → IsFirstConflict rule commits violation
  IsFirstConflict-permutation violation h = record {
    later = h.later;
    earlier = h.earlier;
    later_number = h.later_number;
    earlier_number = h.earlier_number;
    among = here h.later h.among;
    greatest = record {
      among = here h.earlier h.greatest.among;
      breaks = h.greatest.breaks;
      greatest = λ other among breaks. h.greatest.greatest other (there other among) breaks;
    };
    first = λ other among conflict. h.first other (there other among) (IsInConflict-there other conflict);
  }

  pub AreConflictsOf-permutation : (conflicts : Conflicts) → AreConflictsOf rule others conflicts → AreConflictsOf rule commits conflicts
  AreConflictsOf-permutation conflicts h = record { count = h.count ∙ conflicts_of-permutation; first = same conflicts.first h.first }
    where
      same : (first : Option Violation) → MatchOption first (HasNoConflict rule others) (IsFirstConflict rule others) → MatchOption first (HasNoConflict rule commits) (IsFirstConflict rule commits)
      same None none = λ later among conflict. none later (there later among) (IsInConflict-there later conflict)
      same (Some violation) first = IsFirstConflict-permutation violation first
