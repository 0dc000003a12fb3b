use Rattle.std.proofs.Common.{◌≡◌, ◌∙◌, sym, subst, refl}
use Rattle.clap.specs.Values.{kind_of}
use Rattle.clap.specs.Walk.{texts}
use Rattle.clap.specs.declared.error.kind.ErrorKind.TheVariants.{DisplayHelp, DisplayVersion, OutOfMemory}
use Rattle.ttd_words.specs.CommandLine.{faults_of}
use Rattle.ttd_words.specs.Reading.{HasNumbers}
use Rattle.ttd_words.proofs.ParsedWords.{help_not_mistaken, not_taken, other_not_help, shown, taken_judged}
use Rattle.ttd_words.proofs.texts.mistake_text.Goals as goal

pub asked_for-requires : goal.asked_for-requires
asked_for-requires c = subst HasNumbers (sym c.in-Ok.ensures.named) (taken_judged (texts c.args.words.now) c.in-Ok.ensures.fails).numbers

pub returns-in-DisplayHelp-clause-mistaken : goal.returns-in-DisplayHelp-clause-mistaken
returns-in-DisplayHelp-clause-mistaken c = λ e.
    absurd (help_not_mistaken (texts c.args.words.now) c.in-Err.error e c.in-Err.ensures.fails (shown c.in-Err.error _ c.kind.ensures c.in-DisplayHelp.is))

pub returns : goal.returns
returns c =
    let ws = texts c.args.words.now in
    let help : kind_of c.in-Err.error ≡ DisplayHelp → ⊥ = λ e. c.in_default.not-DisplayHelp (c.kind.ensures ∙ e) in
    let version : kind_of c.in-Err.error ≡ DisplayVersion → ⊥ = λ e. c.in_default.not-DisplayVersion (c.kind.ensures ∙ e) in
    let memory : kind_of c.in-Err.error ≡ OutOfMemory → ⊥ = λ e. c.in_default.not-OutOfMemory (c.kind.ensures ∙ e) in
    record {
      taken = λ e. absurd (not_taken (faults_of ws) c.in-Err.error c.in-Err.ensures.fails memory e.0);
      helped = λ e. absurd (other_not_help ws c.in-Err.error e c.in-Err.ensures.fails memory help version);
      mistaken = λ e. refl;
    }
