use Rattle.std.proofs.Common.{inl, inr}
use Rattle.ttd_commands.specs.Answer.{answer_in}
use Rattle.ttd_commands.proofs.Endings.{device_told, sound_given, told_given, told_live}
use Rattle.ttd_commands.proofs.Replies.{answered, help_given, refused_given, untaken_given}
use Rattle.ttd_commands.proofs.program.answer_asked.Goals as goal

pub returns-clause-taken : goal.returns-clause-taken
returns-clause-taken g c = λ taken no_service. answered _ answer_in _ _ _ c.reply_in_threads-reply.result _ _ _ (c.reply_in_threads-reply.ensures.taken taken no_service) c.give.ensures.gives

pub returns-clause-helped : goal.returns-clause-helped
returns-clause-helped g c = λ asked. help_given answer_in _ _ c.reply_in_threads-reply.result _ _ _ (c.reply_in_threads-reply.ensures.helped asked) c.give.ensures.gives

pub returns-clause-untaken : goal.returns-clause-untaken
returns-clause-untaken g c = λ other. untaken_given answer_in _ _ c.reply_in_threads-reply.result _ _ _ (c.reply_in_threads-reply.ensures.untaken other) c.give.ensures.gives

pub returns-clause-device : goal.returns-clause-device
returns-clause-device g c = λ e.
    elim (device_told c.reply_in_threads-reply.result _ _ _ c.give.ensures.gives e) [
      | inl written ↦ inl (inr written)
      | inr (inl failed) ↦ inl (inl (c.reply_in_threads-reply.ensures.failed failed))
      | inr (inr run) ↦ inr (run.0, told_live c.reply_in_threads-reply.result c.give.result.refusal run.0 c.give.ensures.refused run.1)
    ]

pub returns-clause-refused : goal.returns-clause-refused
returns-clause-refused g c =
    told_given c.reply_in_threads-reply.result c.give.result.refusal _ _ c.give.result.status c.give.ensures.gives c.give.ensures.refused c.give.ensures.none

pub returns-clause-service : goal.returns-clause-service
returns-clause-service g c = λ taken serves. refused_given answer_in _ _ c.reply_in_threads-reply.result _ _ _ (c.reply_in_threads-reply.ensures.service taken serves) c.give.ensures.gives

pub returns-clause-sound : goal.returns-clause-sound
returns-clause-sound g c = λ other.
    let told = sound_given answer_in c.reply_in_threads-reply.result _ _ _ c.give.ensures.gives other in
    (c.reply_in_threads-reply.ensures.sound told.0, told.1)
