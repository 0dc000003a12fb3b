use Rattle.std.proofs.Common.{◌≡◌, ◌∙◌, Ok, sym, ap, subst}
use Rattle.std.specs.Prelude.{Err}
use Rattle.clap.specs.Walk.{texts}
use Rattle.ttd_words.specs.Reading.{request_in, request_of}
use Rattle.ttd_words.specs.declared.faults.WordsFault.TheVariants.{Memory as NoMemory}
use Rattle.ttd_commands.specs.Command.{IsAskedBy}
use Rattle.ttd_commands.proofs.program.reply.Goals as goal

pub reply_to_asked-requires : goal.reply_to_asked-requires
reply_to_asked-requires g c = subst (IsAskedBy (texts c.args.words.now)) (ap request_in c.in-Ok.is) c.requires

pub returns-in-Ok : goal.returns-in-Ok
returns-in-Ok g c =
    let done = c.reply_to_asked.ensures in
    record {
      taken = done.taken;
      live = done.live;
      service = done.service;
      mistaken = done.mistaken;
      helped = done.helped;
      untaken = done.untaken;
      memory = λ memory. absurd (let wrong : Ok (request_of c.in-Ok.asked) ≡ Err NoMemory = sym (ap request_in c.in-Ok.is) ∙ memory in cc);
      failed = done.failed;
      sound = done.sound;
      no_run = done.no_run;
      rest = done.rest;
    }
