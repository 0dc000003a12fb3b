use Rattle.std.proofs.Common.{arith}
use Rattle.std.proofs.lemmas.Grind.{common_steps}
use Rattle.tt_shared.proofs.teller.SharedTeller.write_next.Goals as goal

pub returns-clause-published : goal.returns-clause-published
returns-clause-published g c = (c.write_all_at.new.self, grind (arith, common_steps), grind (arith, common_steps))
