use Rattle.std.proofs.Common.{◌≡◌, ◌∙◌, inl, refl}
use Rattle.clap.specs.Values.{kind_of}
use Rattle.clap.specs.Walk.{texts}
use Rattle.clap.specs.declared.error.kind.ErrorKind.TheVariants.{DisplayHelp, DisplayVersion, OutOfMemory}
use Rattle.ttd_words.proofs.ParsedWords.{help_not_mistaken, other_not_help, shown}
use Rattle.ttd_words.proofs.texts.help_text.Goals as goal

pub returns-in-DisplayHelp-clause-mistaken : goal.returns-in-DisplayHelp-clause-mistaken
returns-in-DisplayHelp-clause-mistaken c = λ e.
    absurd (help_not_mistaken (texts c.args.words.now) c.in-Err.error e c.in-Err.ensures.fails (shown c.in-Err.error _ c.kind.ensures c.in-DisplayHelp.is))

pub returns : goal.returns
returns c =
    let help : kind_of c.in-Err.error ≡ DisplayHelp → ⊥ = λ e. c.in_default.not-DisplayHelp (c.kind.ensures ∙ e) in
    let version : kind_of c.in-Err.error ≡ DisplayVersion → ⊥ = λ e. c.in_default.not-DisplayVersion (c.kind.ensures ∙ e) in
    let memory : kind_of c.in-Err.error ≡ OutOfMemory → ⊥ = λ e. c.in_default.not-OutOfMemory (c.kind.ensures ∙ e) in
    record {
      helped = λ e. absurd (other_not_help (texts c.args.words.now) c.in-Err.error e c.in-Err.ensures.fails memory help version);
      taken = λ e. inl refl;
      mistaken = λ e. inl refl;
    }
