use Rattle.std.proofs.Common.{inl, inr}
use Rattle.ttd_commands.specs.Answer.{answer_in}
use Rattle.ttd_commands.proofs.Endings.{device_told, sound_given, told_given, told_no_run}
use Rattle.ttd_commands.proofs.Replies.{answered, help_given, refused_given, untaken_given}
use Rattle.ttd_commands.proofs.program.answer_with.Goals as goal

pub returns-clause-taken : goal.returns-clause-taken
returns-clause-taken g c = λ taken no_service other. answered _ answer_in _ _ _ c.reply-reply.result _ _ _ (c.reply-reply.ensures.taken taken no_service other) c.give.ensures.gives

pub returns-clause-helped : goal.returns-clause-helped
returns-clause-helped g c = λ asked. help_given answer_in _ _ c.reply-reply.result _ _ _ (c.reply-reply.ensures.helped asked) c.give.ensures.gives

pub returns-clause-untaken : goal.returns-clause-untaken
returns-clause-untaken g c = λ other. untaken_given answer_in _ _ c.reply-reply.result _ _ _ (c.reply-reply.ensures.untaken other) c.give.ensures.gives

pub returns-clause-device : goal.returns-clause-device
returns-clause-device g c = λ e.
    elim (device_told c.reply-reply.result _ _ _ c.give.ensures.gives e) [
      | inl written ↦ inr written
      | inr (inl failed) ↦ inl (c.reply-reply.ensures.failed failed)
      | inr (inr run) ↦ absurd (c.reply-reply.ensures.no_run run.0 run.1)
    ]

pub returns-clause-no_run : goal.returns-clause-no_run
returns-clause-no_run g c = told_no_run c.reply-reply.result c.give.result.refusal c.give.ensures.refused c.give.ensures.none c.reply-reply.ensures.no_run

pub returns-clause-refused : goal.returns-clause-refused
returns-clause-refused g c = told_given c.reply-reply.result c.give.result.refusal _ _ c.give.result.status c.give.ensures.gives c.give.ensures.refused c.give.ensures.none

pub returns-clause-service : goal.returns-clause-service
returns-clause-service g c = λ taken serves. refused_given answer_in _ _ c.reply-reply.result _ _ _ (c.reply-reply.ensures.service taken serves) c.give.ensures.gives

pub returns-clause-sound : goal.returns-clause-sound
returns-clause-sound g c = λ other.
    let told = sound_given answer_in c.reply-reply.result _ _ _ c.give.ensures.gives other in
    (c.reply-reply.ensures.sound told.0, told.1)

pub returns-clause-live : goal.returns-clause-live
returns-clause-live g c = λ taken asks. refused_given answer_in _ _ c.reply-reply.result _ _ _ (c.reply-reply.ensures.live taken asks) c.give.ensures.gives
