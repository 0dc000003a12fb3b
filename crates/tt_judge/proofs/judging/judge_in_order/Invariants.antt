use Rattle.tt_judge.proofs.Sweeping.{IsJudged}
use Rattle.tt_judge.proofs.judging.judge_in_order.Given as goal

abbrev pub invariant-loop-arrival : goal.invariant-loop-arrival
invariant-loop-arrival l = IsJudged l.commits l.arrivals l.endings l.arrival-index l.passed.count l.passed.greatest l.violations l.first
