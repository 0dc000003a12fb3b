use Rattle.std.proofs.Common.{arith}
use Rattle.std.proofs.lemmas.Bool.Decides.{nat_tests}
use Rattle.tt_judge.proofs.TermDeciding.{AreConflictsOf-permutation}
use Rattle.tt_judge.specs.declared.terms.Rule.TheVariants.{Stamps}
use Rattle.tt_judge.proofs.terms.judge_terms.Goals as goal

pub returns : goal.returns
returns c = record {
  some = grind (arith, nat_tests, c.is_empty.ensures, c.if-is_empty.false);
  terms = c.judge_by-terms.ensures.conflicts;
  stamps = AreConflictsOf-permutation Stamps _ _ c.judge_by-terms.ensures.permutation c.judge_by-stamps.result c.judge_by-stamps.ensures.conflicts;
}
