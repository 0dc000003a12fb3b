use Rattle.std.proofs.Common.{◌≡◌, ◌≤◌, take}
use Rattle.tt_audit.specs.Violations.{answered_of, violations_of}
use Rattle.tt_audit.specs.Ordering.{KeepsOrder}
use Rattle.tt_audit.proofs.ordering.violations.Given as goal

-- what is kept is of the events so far, and so is the count
abbrev pub invariant-loop-number : goal.invariant-loop-number
invariant-loop-number l = record {
  keeps : KeepsOrder (answered_of (take l.number l.events) (take l.number l.replies)) l.order;
  counted : l.count ≡ violations_of (answered_of (take l.number l.events) (take l.number l.replies));
  few : l.count ≤ l.number;
}
