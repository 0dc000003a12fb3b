use Rattle.std.proofs.lemmas.Result.{err_from_is_err_and}
use Rattle.ttd_commands.specs.Answer.{answer_in}
use Rattle.ttd_commands.specs.Tracing.{TellsTrace}
use Rattle.ttd_commands.proofs.Scripted.{script_refused, script_replied}
use Rattle.ttd_commands.proofs.tracing.trace_reply.Goals as goal

pub returns-in_err-script-clause-value : goal.returns-in_err-script-clause-value
returns-in_err-script-clause-value c =
    let p = err_from_is_err_and c.from_residual.result c.from_residual.ensures.1 in
    script_refused answer_in TellsTrace c.args.input.now _ c.in_err-script.field-0.0 (cc (p.1, p.2)) c.in_err-script.ensures.refused

pub returns-clause-value : goal.returns-clause-value
returns-clause-value c = script_replied answer_in TellsTrace c.args.input.now c.traced.result _ c.in_ok-script.ensures.found c.traced.ensures.value
