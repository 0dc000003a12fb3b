use Rattle.std.proofs.Common.{rules, ◌≡◌, List, subst, sym}
use Rattle.std.proofs.lemmas.Fn.{always_returns_same}
use Rattle.tt_judge.specs.declared.history.ShardCommit.{ShardCommit}
use Rattle.tt_judge.specs.Terms.{AreConflictsOf}
use Rattle.tt_judge.specs.TermSweep.{key_of, AreInKeyOrder}
use Rattle.tt_judge.proofs.KeyOrdered.{AreInKeyOrder-sorted}
use Rattle.tt_judge.proofs.TermDeciding.{AreConflictsOf-permutation}
use Rattle.tt_judge.proofs.terms.judge_by.Goals as goal

pub conflicts_in_order-requires : goal.conflicts_in_order-requires
conflicts_in_order-requires c = record {
  order = subst (AreInKeyOrder c.args.rule) (sym c.as_slice.ensures.value)
      (AreInKeyOrder-sorted c.args.rule _ (c.sort_unstable_by_key.ensures.sorted (key_of c.args.rule) (always_returns_same _ (λ a r. r ≡ key_of c.args.rule a.0.now) _ (λ a r q k. search rules))));
}

pub returns-clause-conflicts : goal.returns-clause-conflicts
returns-clause-conflicts c =
    AreConflictsOf-permutation c.args.rule _ _ c.sort_unstable_by_key.ensures.permutation c.conflicts_in_order.result
    (subst (λ (cs : List ShardCommit). AreConflictsOf c.args.rule cs c.conflicts_in_order.result) c.as_slice.ensures.value c.conflicts_in_order.ensures)
