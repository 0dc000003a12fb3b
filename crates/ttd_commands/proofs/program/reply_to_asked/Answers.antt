use Rattle.std.proofs.Common.{◌≡◌, ◌∙◌, Result, Ok, sym, ap, inl}
use Rattle.std.specs.Prelude.{Err}
use Rattle.clap.specs.Walk.{texts}
use Rattle.ttd_words.specs.Reading.{Request, ToRun, ToServe, request_of}
use Rattle.ttd_words.specs.declared.requests.Asked.{Asked}
use Rattle.ttd_words.specs.declared.requests.Command.{Command}
use Rattle.ttd_words.specs.declared.requests.Command.TheVariants.{Live}
use Rattle.ttd_words.specs.declared.faults.WordsFault.{WordsFault}
use Rattle.ttd_commands.specs.Answer.{answer_in}
use Rattle.ttd_commands.proofs.Asked.{for_no_service, for_service, not_for_help, not_for_help_served, not_mistaken, ran_live, run_replied, was_live}
use Rattle.ttd_commands.proofs.program.reply_to_asked.Goals as goal

abbrev asked_as : Asked → Result Request WordsFault
asked_as asked = Ok (request_of asked)

pub returns-in-Run : goal.returns-in-Run
returns-in-Run g c =
    let by = c.requires in
    let ws = texts c.args.words.now in
    let command = c.in-Run.command in
    let done = c.command_reply_unless_live in
    let is : asked_as c.args.asked.now ≡ Ok (ToRun command) = ap asked_as c.in-Run.is in
    record {
      taken = λ taken no_service other.
          run_replied answer_in ws _ _ done.result command (asked_as c.args.asked.now) by is taken
          (done.ensures.value (λ e. other (ran_live ws (asked_as c.args.asked.now) command by is taken e)));
      live = λ taken asks.
          let bad = done.ensures.live (was_live ws (asked_as c.args.asked.now) command by is taken asks) in
          (bad.0, inl bad.1);
      service = λ taken serves. absurd (for_no_service ws (asked_as c.args.asked.now) command by taken is serves);
      mistaken = λ mistaken. absurd (not_mistaken ws (asked_as c.args.asked.now) _ by is mistaken);
      helped = λ helped. absurd (not_for_help ws (asked_as c.args.asked.now) _ by is helped);
      untaken = λ other. absurd (other (by.commands command is));
      failed = done.ensures.failed;
      sound = done.ensures.sound;
      no_run = done.ensures.no_run;
      rest = done.ensures.rest;
    }

pub returns-in-Serve-clause-taken : goal.returns-in-Serve-clause-taken
returns-in-Serve-clause-taken g c = λ taken no_service other.
    absurd (no_service (for_service (texts c.args.words.now) (asked_as c.args.asked.now) _ c.requires taken (ap asked_as c.in-Serve.is)))

pub returns-in-Serve-clause-helped : goal.returns-in-Serve-clause-helped
returns-in-Serve-clause-helped g c = λ helped.
    absurd (not_for_help_served (texts c.args.words.now) (asked_as c.args.asked.now) _ c.requires (ap asked_as c.in-Serve.is) helped)
