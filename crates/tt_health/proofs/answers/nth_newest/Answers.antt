-- What was found is the n-th newest.
use Rattle.std.proofs.Common.{◌≡◌, ◌∙◌, List, take, sym, subst, ap}
use Rattle.std.specs.Prelude.{MatchOption, Option}
use Rattle.tt_health.specs.Answers.{IsNthNewest, TooFewAnswered, newest_among, nth_newest}
use Rattle.tt_health.specs.declared.answers.Answer.{Answer}
use Rattle.tt_health.proofs.Newest.{found_among, nth_newest-is, taken_to}
use Rattle.tt_health.proofs.answers.nth_newest.Goals as goal

pub returns-clause-newest : goal.returns-clause-newest
returns-clause-newest c =
    let to = taken_to c.args.answers.now c.args.sources c.min.result c.told-answers c.min.ensures in
    let is : c.newest_of.result ≡ nth_newest (take c.args.sources c.args.answers.now) c.args.n =
    c.newest_of.ensures ∙ ap (λ (some : List (Option Answer)). newest_among some c.args.n some) to ∙ found_among c.args.n (take c.args.sources c.args.answers.now) c.if-n-eq0.false in
    subst (λ r. MatchOption r (TooFewAnswered (take c.args.sources c.args.answers.now) c.args.n) (λ clock. IsNthNewest (take c.args.sources c.args.answers.now) c.args.n clock)) (sym is)
    (nth_newest-is (take c.args.sources c.args.answers.now) c.args.n)
