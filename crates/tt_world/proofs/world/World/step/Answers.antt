use Rattle.std.proofs.Common.{sym, subst}
use Rattle.std.specs.Prelude.{Result}
use Rattle.tt_world.specs.declared.events.Reply.{Reply}
use Rattle.tt_world.specs.declared.faults.WorldFault.{WorldFault}
use Rattle.tt_world.proofs.Simulation.GoesOn.{Promises, goes_on, refusal_promises}
use Rattle.tt_world.proofs.world.World.step.Goals as goal

pub returns-in-Ok-clause-reply : goal.returns-in-Ok-clause-reply
returns-in-Ok-clause-reply c = goes_on c.args.self.now c.act.new.self c.args.event.now c.in-Ok.reply c.in-Ok.ensures.room c.in-Ok.ensures.does

pub returns-in-Err : goal.returns-in-Err
returns-in-Err c =
    let promises = refusal_promises c.args.self.now c.act.new.self c.args.event.now c.in-Err.fault c.in-Err.ensures.does.0 c.in-Err.ensures.does.1 in
    let kept = subst (λ (r : Result Reply WorldFault). Promises c.args.self.now c.act.new.self c.args.event.now r) (sym c.as_reply.ensures) promises in
    record { reply = kept.reply; memory = kept.memory; memory_only = kept.memory_only; unchanged = kept.unchanged }
