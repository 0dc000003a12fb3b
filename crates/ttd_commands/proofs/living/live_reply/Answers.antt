use Rattle.std.proofs.Common.{refl}
use Rattle.ttd_commands.specs.Answer.{answer_in}
use Rattle.ttd_commands.specs.Living.{TellsLive}
use Rattle.ttd_commands.proofs.Scripted.{script_refused, script_replied}
use Rattle.ttd_commands.proofs.living.live_reply.Goals as goal

pub returns-in-Err-clause-value : goal.returns-in-Err-clause-value
returns-in-Err-clause-value g c = script_refused answer_in TellsLive c.args.input.now _ c.in-Err.fault refl c.in-Err.ensures.refused

pub returns-in-Ok-clause-value : goal.returns-in-Ok-clause-value
returns-in-Ok-clause-value g c = script_replied answer_in TellsLive c.args.input.now c.lived.result _ c.in-Ok.ensures.found c.lived.ensures.value
