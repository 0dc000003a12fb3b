use Rattle.ttd_commands.proofs.Endings.{refusal_memory}
use Rattle.ttd_commands.proofs.output.give.Goals as goal

pub returns-in-Err-clause-memory : goal.returns-in-Err-clause-memory
returns-in-Err-clause-memory g c = λ e. refusal_memory c.in-Err.fault _ _ _ c.refuse_by.ensures e
