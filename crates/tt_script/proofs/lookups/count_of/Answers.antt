use Rattle.std.proofs.Common.{arith}
use Rattle.std.proofs.lemmas.Bool.Decides.{nat_tests}
use Rattle.tt_script.proofs.Items.{count_of-view}
use Rattle.tt_script.proofs.lookups.count_of.Goals as goal

pub returns : goal.returns
returns c = let e = count_of-view c.args.items.now.items in grind (arith, nat_tests)
