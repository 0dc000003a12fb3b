-- What is refused of words that were read.
use Rattle.std.proofs.Common.{◌≡◌, ◌∙◌, ◌⊎◌, List, Result, Ok, IsOk, inl, inr, sym, subst}
use Rattle.std.specs.Prelude.{Err}
use Rattle.std.proofs.lemmas.Bool.{false≢true}
use Rattle.clap.specs.Walk.{Text}
use Rattle.tt_stream.specs.declared.device.ByteWriter as writer
use Rattle.ttd_words.specs.Answer.{Gives, output_of}
use Rattle.ttd_words.specs.Reading.{AreForHelp, AreMistaken, AreTaken, Request, ToHelp, asked_of}
use Rattle.ttd_words.specs.declared.ending.Status.{Status}
use Rattle.ttd_words.specs.declared.faults.WordsFault.{WordsFault}
use Rattle.ttd_words.specs.declared.faults.WordsFault.TheVariants.{Memory as NoMemory}
use Rattle.ttd_commands.specs.Command.{IsAskedBy}
use Rattle.ttd_commands.specs.Run.{memory_answer}
use Rattle.ttd.specs.Answer.{Refuses, RefusesWords}
use Rattle.ttd.specs.declared.faults.ServiceFault.TheVariants.{Words, Memory}

module _ {W : Type 0} (shows : writer.Ghosts W) (words : List Text) (fault : WordsFault) (asked : Result Request WordsFault) (by : IsAskedBy words asked)
    (is : asked ≡ Err fault) (old new : W) (status : Status) (given : Refuses shows (Words fault) old new status) where
  for_memory : asked ≡ Err NoMemory → Refuses shows Memory old new status
  for_memory memory =
      let both : Err fault ≡ Err NoMemory = sym is ∙ memory in
      let same : fault ≡ NoMemory = cc both in
      subst (λ (f : WordsFault). Refuses shows (Words f) old new status) same given

  -- words that are taken are refused only for want of memory
  pub taken_refused : AreTaken words → Refuses shows Memory old new status
  taken_refused taken = go (by.taken taken).0 (by.taken taken).1
    where
      go : IsOk (asked_of words) → (asked ≡ asked_of words) ⊎ (asked ≡ Err NoMemory) → Refuses shows Memory old new status
      go ok (inl same) = absurd (false≢true (subst IsOk (sym same ∙ is) ok))
      go ok (inr memory) = for_memory memory

  -- a mistake is refused as it has to be
  pub mistake_refused : AreMistaken words → RefusesWords shows (asked_of words) old new status
  mistake_refused mistaken = go (by.mistaken mistaken).0.0 (by.mistaken mistaken).0.1 (by.mistaken mistaken).1
    where
      go : (other : WordsFault) → asked_of words ≡ Err other → (asked ≡ asked_of words) ⊎ (asked ≡ Err NoMemory) → RefusesWords shows (asked_of words) old new status
      go other refused (inl same) = subst (λ (r : Result Request WordsFault). RefusesWords shows r old new status) (sym is ∙ same) (inl given)
      go other refused (inr memory) = subst (λ (r : Result Request WordsFault). RefusesWords shows r old new status) (sym refused) (inr (for_memory memory))

  -- and so is a call for help
  pub help_refused : AreForHelp words → Gives memory_answer (output_of shows old) (output_of shows new) status
  help_refused helped = go (by.helped helped)
    where
      go : (asked ≡ Ok ToHelp) ⊎ (asked ≡ Err NoMemory) → Gives memory_answer (output_of shows old) (output_of shows new) status
      go (inl help) = absurd (let wrong : Err fault ≡ Ok ToHelp = sym is ∙ help in cc)
      go (inr memory) = for_memory memory
