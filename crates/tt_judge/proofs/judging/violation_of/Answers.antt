use Rattle.std.proofs.Common.{ℕ, Option, subst, arith}
use Rattle.tt_judge.specs.Consistency.{commit_at}
use Rattle.tt_judge.specs.Order.{IsGreatestIfAny}
use Rattle.tt_judge.proofs.Sweeping.{verdict-none, verdict-above}
use Rattle.tt_judge.proofs.judging.violation_of.Goals as goal

pub returns-in-None : goal.returns-in-None
returns-in-None c =
    let history = c.args.commits.now in
    verdict-none history c.args.later
    (subst (λ (g : Option ℕ). IsGreatestIfAny history (commit_at history c.args.later).began g) c.in-None.is c.requires.greatest)

pub returns-else-commits-later : goal.returns-else-commits-later
returns-else-commits-later c =
    let history = c.args.commits.now in
    verdict-above history c.args.later c.in-Some.earlier
    (subst (λ (g : Option ℕ). IsGreatestIfAny history (commit_at history c.args.later).began g) c.in-Some.is c.requires.greatest)
    (omega (arith, c.if-commits-later.false))
