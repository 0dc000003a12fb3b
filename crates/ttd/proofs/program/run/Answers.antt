use Rattle.std.proofs.Common.{◌≡◌, ◌⊎◌, ◌∙◌, List, Result, map, string_bytes, sym, ap, subst, inr}
use Rattle.clap.specs.Walk.{Text, texts}
use Rattle.ttd_words.specs.Answer.{output_of}
use Rattle.ttd_words.specs.Reading.{AreTaken, IsForService, Request, asked_of}
use Rattle.ttd_words.specs.declared.faults.WordsFault.{WordsFault}
use Rattle.ttd_words.proofs.ParsedWords.{asked_is_refused}
use Rattle.ttd_commands.specs.Command.{IsReplyTo, most_to}
use Rattle.ttd_commands.specs.Run.{Answers, input_of}
use Rattle.ttd.specs.Answer.{Refuses, RefusesWords}
use Rattle.ttd.specs.declared.faults.ServiceFault.TheVariants.{Memory}
use Rattle.ttd.proofs.program.run.Goals as goal

pub returns-in-Ok-clause-taken : goal.returns-in-Ok-clause-taken
returns-in-Ok-clause-taken g c =
    subst (λ (ws : List Text). AreTaken ws → ¬ (IsForService (asked_of ws)) →
    Answers (most_to (asked_of ws)) (IsReplyTo (asked_of ws)) (input_of g.I.ByteReader c.args.input.now) (input_of g.I.ByteReader c.answer.new.input)
    (output_of g.O.ByteWriter c.args.output.now) (output_of g.O.ByteWriter c.answer.new.output) c.answer.result
    ⊎ Refuses g.O.ByteWriter Memory c.args.output.now c.answer.new.output c.answer.result)
    (ap texts c.as_slice.ensures.value ∙ c.in-Ok.ensures) c.answer.ensures.taken

pub returns-in-Err-clause-mistaken : goal.returns-in-Err-clause-mistaken
returns-in-Err-clause-mistaken g c = λ mistaken.
    let refused = asked_is_refused (map string_bytes c.args.words.now) mistaken in
    subst (λ (r : Result Request WordsFault). RefusesWords g.O.ByteWriter r c.args.output.now c.reject.new.output c.reject.result) (sym refused.1) (inr c.reject.ensures)
