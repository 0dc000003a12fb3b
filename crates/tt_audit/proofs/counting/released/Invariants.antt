use Rattle.std.proofs.Common.{◌≡◌, take, sum_by}
use Rattle.tt_audit.specs.Counts.{released_in}
use Rattle.tt_audit.proofs.counting.released.Given as goal

abbrev pub invariant-loop-reply : goal.invariant-loop-reply
invariant-loop-reply l = l.count ≡ sum_by released_in (take l.reply-index l.replies)
