use Rattle.std.proofs.Common.{◌≡◌, ◌∙◌, sym, subst, inl, inr, refl}
use Rattle.clap.specs.Values.{kind_of}
use Rattle.clap.specs.Walk.{texts}
use Rattle.clap.specs.declared.error.kind.ErrorKind.TheVariants.{DisplayHelp, DisplayVersion, OutOfMemory}
use Rattle.ttd_words.specs.CommandLine.{faults_of}
use Rattle.ttd_words.specs.Reading.{HasNumbers, IsUnlessMemory, request_in, request_named}
use Rattle.ttd_words.specs.declared.faults.WordsFault.TheVariants.{Memory}
use Rattle.ttd_words.proofs.ParsedWords.{asked_is_ok, asked_is_refused, help_no_memory, help_not_mistaken, mistake_is_bad, not_taken, other_not_help, read_taken, shown, taken_judged}
use Rattle.ttd_words.proofs.words.read_words.Goals as goal

pub asked_for-requires : goal.asked_for-requires
asked_for-requires c = subst HasNumbers (sym c.in-Ok.ensures.named) (taken_judged (texts c.args.words.now) c.in-Ok.ensures.fails).numbers

pub returns-in-Ok : goal.returns-in-Ok
returns-in-Ok c =
    let ws = texts c.args.words.now in
    let read = subst (λ rows. IsUnlessMemory Memory (request_named rows) (request_in c.asked_for.result)) c.in-Ok.ensures.named c.asked_for.ensures in
    let told = read_taken ws (request_in c.asked_for.result) c.in-Ok.ensures.fails read in
    record {
      taken = told.taken;
      mistaken = told.mistaken;
      helped = told.helped;
      help = told.help;
      commands = told.commands;
      services = told.services;
    }

pub returns-in-DisplayHelp : goal.returns-in-DisplayHelp
returns-in-DisplayHelp c =
    let ws = texts c.args.words.now in
    let kind = shown c.in-Err.error _ c.kind.ensures c.in-DisplayHelp.is in
    let memory = help_no_memory c.in-Err.error kind in
    record {
      taken = λ e. absurd (not_taken (faults_of ws) c.in-Err.error c.in-Err.ensures.fails memory e.0);
      mistaken = λ e. absurd (help_not_mistaken ws c.in-Err.error e c.in-Err.ensures.fails kind);
      helped = λ e. inl refl;
      help = λ is e. not_taken (faults_of ws) c.in-Err.error c.in-Err.ensures.fails memory e.0;
      commands = λ command is. cc is;
      services = λ service is. cc is;
    }

pub returns-in-OutOfMemory : goal.returns-in-OutOfMemory
returns-in-OutOfMemory c =
    let ws = texts c.args.words.now in
    record {
      taken = λ e. (asked_is_ok ws e, inr refl);
      mistaken = λ e. (asked_is_refused ws e, inr refl);
      helped = λ e. inr refl;
      help = λ is. cc is;
      commands = λ command is. cc is;
      services = λ service is. cc is;
    }

pub returns : goal.returns
returns c =
    let ws = texts c.args.words.now in
    let help : kind_of c.in-Err.error ≡ DisplayHelp → ⊥ = λ e. c.in_default.not-DisplayHelp (c.kind.ensures ∙ e) in
    let version : kind_of c.in-Err.error ≡ DisplayVersion → ⊥ = λ e. c.in_default.not-DisplayVersion (c.kind.ensures ∙ e) in
    let memory : kind_of c.in-Err.error ≡ OutOfMemory → ⊥ = λ e. c.in_default.not-OutOfMemory (c.kind.ensures ∙ e) in
    record {
      taken = λ e. absurd (not_taken (faults_of ws) c.in-Err.error c.in-Err.ensures.fails memory e.0);
      mistaken = λ e. (asked_is_refused ws e, inl (sym (mistake_is_bad ws c.in-Err.error e c.in-Err.ensures.fails memory)));
      helped = λ e. absurd (other_not_help ws c.in-Err.error e c.in-Err.ensures.fails memory help version);
      help = λ is. cc is;
      commands = λ command is. cc is;
      services = λ service is. cc is;
    }
