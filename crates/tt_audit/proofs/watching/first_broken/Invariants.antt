use Rattle.tt_audit.proofs.Following.{IsWatchedTo}
use Rattle.tt_audit.proofs.watching.first_broken.Given as goal

-- what is kept is of the events so far that were not bad, and none of them breaks an assumption
abbrev pub invariant-loop-number : goal.invariant-loop-number
invariant-loop-number l = IsWatchedTo l.configs l.events l.number l.watcher
