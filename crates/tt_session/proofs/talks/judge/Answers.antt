use Rattle.std.proofs.Common.{◌≡◌, ◌≤◌, ◌++◌, ◌∷◌, [], length, ap, ◌∙◌, arith}
use Rattle.std.proofs.lemmas.Bool.Decides.{nat_tests}
use Rattle.tt_session.specs.declared.talks.Judged.{Judged}
use Rattle.tt_session.proofs.Following.{none_commits}
use Rattle.tt_session.proofs.talks.judge.Goals as goal

pub returns-in-None-clause-commit : goal.returns-in-None-clause-commit
returns-in-None-clause-commit g c =
    let short : length c.args.line.now.items ≤ 64 = grind (arith, nat_tests) in
    let heard : c.deref.result.now ≡ c.args.line.now.items ++ 10 ∷ [] = c.deref.ensures.0 ∙ c.push.ensures.items in
    λ bytes. none_commits c.refused-in-None.result.is_commit c.args.line.now.items c.deref.result.now bytes
    (ap (λ (j : Judged). j.is_commit) c.refused-in-None.ensures) short heard c.in-None.ensures
