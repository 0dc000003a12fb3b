use Rattle.tt_audit.proofs.Late.{KeepsOrder-nothing}
use Rattle.tt_audit.proofs.ordering.Order.new.Goals as goal

pub returns : goal.returns
returns c = KeepsOrder-nothing
