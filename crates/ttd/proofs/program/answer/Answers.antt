use Rattle.std.proofs.Common.{◌≡◌, ◌∙◌, [], Ok, ap, inl, inr, refl}
use Rattle.std.specs.Prelude.{Err}
use Rattle.clap.specs.Walk.{texts}
use Rattle.ttd_words.specs.Reading.{Request, ToServe, meaning_of, request_in, request_of}
use Rattle.ttd_words.specs.declared.requests.Asked.{Asked}
use Rattle.ttd_words.specs.declared.faults.WordsFault.{WordsFault}
use Rattle.ttd_commands.proofs.Asked.{for_service, not_for_help_served, not_mistaken}
use Rattle.ttd.proofs.Answered.{help_refused, mistake_refused, taken_refused}
use Rattle.ttd.proofs.program.answer.Goals as goal

pub returns-in-Serve : goal.returns-in-Serve
returns-in-Serve g c =
    let ws = texts c.args.words.now in
    let by = c.asked_by-asked.ensures in
    let is : request_in c.asked_by-asked.result ≡ Ok (ToServe (meaning_of c.in-Serve.service)) =
    ap request_in c.in-Ok.is ∙ ap (λ (asked : Asked). request_in (Ok asked)) c.in-Serve.is in
    record {
      taken = λ taken no_service. absurd (no_service (for_service ws _ _ by taken is));
      mistaken = λ mistaken. absurd (not_mistaken ws _ _ by is mistaken);
      helped = λ helped. absurd (not_for_help_served ws _ _ by is helped);
    }

pub returns-in-Ok : goal.returns-in-Ok
returns-in-Ok g c =
    let ws = texts c.args.words.now in
    let by = c.asked_by-asked.ensures in
    let is : request_in c.asked_by-asked.result ≡ Ok (request_of c.in-Ok.taken) = ap request_in c.in-Ok.is in
    record {
      taken = λ taken no_service. inl (c.answer_command.ensures.taken taken no_service);
      mistaken = λ mistaken. absurd (not_mistaken ws _ _ by is mistaken);
      helped = c.answer_command.ensures.helped;
    }

pub returns : goal.returns
returns g c =
    let ws = texts c.args.words.now in
    let by = c.asked_by-asked.ensures in
    let is : request_in c.asked_by-asked.result ≡ Err c.in-Err.fault = ap request_in c.in-Err.is in
    record {
      taken = λ taken no_service. inr (taken_refused g.O.ByteWriter ws _ _ by is c.args.output.now c.reject.new.output c.reject.result c.reject.ensures taken);
      mistaken = mistake_refused g.O.ByteWriter ws _ _ by is c.args.output.now c.reject.new.output c.reject.result c.reject.ensures;
      helped = λ helped. (refl, ([], inr (help_refused g.O.ByteWriter ws _ _ by is c.args.output.now c.reject.new.output c.reject.result c.reject.ensures helped)));
    }
