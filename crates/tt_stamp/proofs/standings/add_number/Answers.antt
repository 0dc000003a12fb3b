use Rattle.std.proofs.Common.{ap, ◌∙◌}
use Rattle.tt_stamp.specs.Standings.{at_key}
use Rattle.tt_stamp.specs.declared.commits.Standing.TheVariants.{Waits}
use Rattle.tt_stamp.proofs.Ascending.{Ascends-push, at_key-push}
use Rattle.tt_stamp.proofs.standings.add_number.Goals as goal

pub returns-clause-order : goal.returns-clause-order
returns-clause-order c =
    rw c.in_ok-push.ensures.items (Ascends-push c.args.numbers.now.items c.args.number Waits c.requires.order c.requires.above)

pub returns-clause-ok : goal.returns-clause-ok
returns-clause-ok c = λ other.
    ap (λ es. at_key es other) c.in_ok-push.ensures.items ∙ at_key-push c.args.numbers.now.items c.args.number Waits other c.requires.above
