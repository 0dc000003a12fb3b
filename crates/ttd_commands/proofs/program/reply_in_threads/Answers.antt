use Rattle.std.proofs.lemmas.Bool.{both_ways}
use Rattle.ttd_words.specs.declared.requests.Command.TheVariants.{Live}
use Rattle.ttd_commands.specs.Answer.{answer_in}
use Rattle.ttd_words.specs.Reading.{request_in}
use Rattle.ttd_commands.proofs.Asked.{for_no_service, not_for_help, not_mistaken, other_replied, run_replied}
use Rattle.ttd_commands.proofs.program.reply_in_threads.Goals as goal

pub returns-then-asks_live-clause-taken : goal.returns-then-asks_live-clause-taken
returns-then-asks_live-clause-taken g c = λ taken no_service.
    run_replied answer_in _ _ _ c.live_command_reply.result Live (request_in c.args.asked.now) c.requires (c.asks_live.ensures.0 c.if-asks_live.true) taken
    c.live_command_reply.ensures.value

pub returns-then-asks_live-clause-mistaken : goal.returns-then-asks_live-clause-mistaken
returns-then-asks_live-clause-mistaken g c = λ mistaken.
    absurd (not_mistaken _ (request_in c.args.asked.now) _ c.requires (c.asks_live.ensures.0 c.if-asks_live.true) mistaken)

pub returns-then-asks_live-clause-helped : goal.returns-then-asks_live-clause-helped
returns-then-asks_live-clause-helped g c = λ helped.
    absurd (not_for_help _ (request_in c.args.asked.now) _ c.requires (c.asks_live.ensures.0 c.if-asks_live.true) helped)

pub returns-then-asks_live-clause-untaken : goal.returns-then-asks_live-clause-untaken
returns-then-asks_live-clause-untaken g c = λ other.
    absurd (other (c.requires.commands Live (c.asks_live.ensures.0 c.if-asks_live.true)))

pub returns-else-asks_live-clause-taken : goal.returns-else-asks_live-clause-taken
returns-else-asks_live-clause-taken g c = λ taken no_service.
    other_replied answer_in _ _ _ c.reply.result (request_in c.args.asked.now) c.requires
    (λ is. both_ways c.asks_live.result c.if-asks_live.false (c.asks_live.ensures.1 is)) taken no_service (c.reply.ensures.taken taken) c.reply.ensures.memory

pub returns-then-asks_live-clause-service : goal.returns-then-asks_live-clause-service
returns-then-asks_live-clause-service g c = λ taken serves.
    absurd (for_no_service _ (request_in c.args.asked.now) Live c.requires taken (c.asks_live.ensures.0 c.if-asks_live.true) serves)
