use Rattle.std.proofs.Common.{arith, decimal, option_copied}
use Rattle.std.proofs.lemmas.Bool.Decides.{nat_tests}
use Rattle.std.proofs.lemmas.Grind.{common_steps}
use Rattle.tt_settings.proofs.Behind.{behind_front}
use Rattle.tt_settings.proofs.prints.behind_scope.Goals as goal

pub returns : goal.returns
returns c = grind (arith, nat_tests, common_steps, c.behind.ensures, c.behind_decimal.ensures, behind_front 37 (decimal c.args.scope) (option_copied c.args.text))
