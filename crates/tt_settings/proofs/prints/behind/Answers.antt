use Rattle.std.proofs.Common.{refl}
use Rattle.tt_settings.specs.Print.{behind_in}
use Rattle.tt_settings.proofs.Behind.{strips}
use Rattle.tt_settings.proofs.prints.behind.Goals as goal

pub returns-in-Some : goal.returns-in-Some
returns-in-Some c = rw c.in-Some.is (strips c.args.front.now c.in-Some.text.now c.strip_prefix.result c.strip_prefix.ensures.cases)

pub returns-in-None : goal.returns-in-None
unfolding behind_in
returns-in-None c = rw c.in-None.is refl
