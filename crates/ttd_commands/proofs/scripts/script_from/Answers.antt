use Rattle.ttd_commands.proofs.Scripted.{text_read, text_refused}
use Rattle.ttd_commands.proofs.scripts.script_from.Goals as goal

pub returns-in-Ok-read-clause-found : goal.returns-in-Ok-read-clause-found
returns-in-Ok-read-clause-found c =
    text_read c.args.input.now c.in-Ok.text.now _ c.in-Ok.ensures.cases.0 c.in-Ok.ensures.cases.1 c.in-Ok-read.ensures.found

pub returns-in-Err-clause-refused : goal.returns-in-Err-clause-refused
returns-in-Err-clause-refused c =
    text_refused c.args.input.now c.in-Ok.text.now c.in-Err.fault _ c.in-Ok.ensures.cases.0 c.in-Ok.ensures.cases.1 c.in-Err.ensures.refused c.from.ensures
