-- What words ask for, as it was read.
use Rattle.std.proofs.Common.{◌≡◌, ◌≢◌, ◌⊎◌, ◌∙◌, List, Result, Ok, inl, inr, sym, ap, subst}
use Rattle.std.specs.Prelude.{Err}
use Rattle.clap.specs.Walk.{Text}
use Rattle.ttd_words.specs.Reading.{AreForHelp, AreMistaken, AreTaken, IsForService, Meaning, Request, ToHelp, ToRun, ToServe, asked_of}
use Rattle.ttd_words.specs.declared.requests.Command.{Command}
use Rattle.ttd_words.specs.declared.requests.Command.TheVariants.{Live}
use Rattle.ttd_words.specs.declared.faults.WordsFault.{WordsFault}
use Rattle.ttd_words.specs.declared.faults.WordsFault.TheVariants.{Memory as NoMemory}
use Rattle.ttd_commands.specs.declared.faults.Fault.{Fault}
use Rattle.ttd_commands.specs.declared.faults.Fault.TheVariants.{Memory}
use Rattle.ttd_commands.specs.Answer.{Answer}
use Rattle.ttd_commands.specs.Command.{IsAskedBy, IsReplyRead, IsReplyTo, most_to}
use Rattle.ttd_commands.specs.Run.{Input}

-- taken words that were read ask for what was read
pub asked_is : (words : List Text) (result : Result Request WordsFault) (asked : Request) → IsAskedBy words result → AreTaken words → result ≡ Ok asked → asked_of words ≡ Ok asked
asked_is words result asked by taken is = go (by.taken taken).1
  where
    go : (result ≡ asked_of words) ⊎ (result ≡ Err NoMemory) → asked_of words ≡ Ok asked
    go (inl same) = sym same ∙ is
    go (inr memory) = absurd (let wrong : Ok asked ≡ Err NoMemory = sym is ∙ memory in cc)

module _ {T : Type 0} (shows : T → Answer) (words : List Text) (old new : Input) (result : Result T Fault) where
  -- the reply to taken words that ask for a command
  pub run_replied : (command : Command) (asked : Result Request WordsFault) → IsAskedBy words asked → asked ≡ Ok (ToRun command) → AreTaken words
      → IsReplyRead (most_to (Ok (ToRun command))) shows (IsReplyTo (Ok (ToRun command))) old new result
      → IsReplyRead (most_to (asked_of words)) shows (IsReplyTo (asked_of words)) old new result
  run_replied command asked by is taken told =
      subst (λ (r : Result Request WordsFault). IsReplyRead (most_to r) shows (IsReplyTo r) old new result) (sym (asked_is words asked (ToRun command) by taken is)) told

  -- the reply to taken words that ask for something else, or could not be read
  pub other_replied : (asked : Result Request WordsFault) → IsAskedBy words asked → asked ≢ Ok (ToRun Live) → AreTaken words → ¬ (IsForService (asked_of words))
      → (¬ (IsForService (asked_of words)) → asked_of words ≢ Ok (ToRun Live) → IsReplyRead (most_to (asked_of words)) shows (IsReplyTo (asked_of words)) old new result)
      → (asked ≡ Err NoMemory → (new ≡ old) × (result ≡ Err Memory))
      → IsReplyRead (most_to (asked_of words)) shows (IsReplyTo (asked_of words)) old new result
  other_replied asked by other taken no_service told memory = go (by.taken taken).1
    where
      go : (asked ≡ asked_of words) ⊎ (asked ≡ Err NoMemory) → IsReplyRead (most_to (asked_of words)) shows (IsReplyTo (asked_of words)) old new result
      go (inl same) = told no_service (λ e. other (same ∙ e))
      go (inr none) = let m = memory none in inr (inr (m.1, ap (λ (i : Input). i.failed) m.0))

-- words that were read as a command are no mistake, and ask for no help
pub not_mistaken : (words : List Text) (result : Result Request WordsFault) (asked : Request) → IsAskedBy words result → result ≡ Ok asked → AreMistaken words → ⊥
not_mistaken words result asked by is mistaken =
    let told = by.mistaken mistaken in
    go told.0.0 told.0.1 told.1
  where
    go : (fault : WordsFault) → asked_of words ≡ Err fault → (result ≡ asked_of words) ⊎ (result ≡ Err NoMemory) → ⊥
    go fault refused (inl same) = let wrong : Ok asked ≡ Err fault = sym is ∙ (same ∙ refused) in cc
    go fault refused (inr memory) = let wrong : Ok asked ≡ Err NoMemory = sym is ∙ memory in cc

pub not_for_help : (words : List Text) (result : Result Request WordsFault) (command : Command) → IsAskedBy words result → result ≡ Ok (ToRun command) → AreForHelp words → ⊥
not_for_help words result command by is helped = go (by.helped helped)
  where
    go : (result ≡ Ok ToHelp) ⊎ (result ≡ Err NoMemory) → ⊥
    go (inl help) = let wrong : Ok (ToRun command) ≡ Ok ToHelp = sym is ∙ help in cc
    go (inr memory) = let wrong : Ok (ToRun command) ≡ Err NoMemory = sym is ∙ memory in cc

-- taken words that were read as a service are for a service, and those read as a command are for none
pub for_service : (words : List Text) (result : Result Request WordsFault) (service : Meaning) → IsAskedBy words result → AreTaken words → result ≡ Ok (ToServe service)
    → IsForService (asked_of words)
for_service words result service by taken is = (service, asked_is words result (ToServe service) by taken is)

pub for_no_service : (words : List Text) (result : Result Request WordsFault) (command : Command) → IsAskedBy words result → AreTaken words → result ≡ Ok (ToRun command)
    → IsForService (asked_of words) → ⊥
for_no_service words result command by taken is (service, asks) =
    let wrong : Ok (ToRun command) ≡ Ok (ToServe service) = sym (asked_is words result (ToRun command) by taken is) ∙ asks in cc

pub not_for_help_served : (words : List Text) (result : Result Request WordsFault) (service : Meaning) → IsAskedBy words result → result ≡ Ok (ToServe service) → AreForHelp words → ⊥
not_for_help_served words result service by is helped = go (by.helped helped)
  where
    go : (result ≡ Ok ToHelp) ⊎ (result ≡ Err NoMemory) → ⊥
    go (inl help) = let wrong : Ok (ToServe service) ≡ Ok ToHelp = sym is ∙ help in cc
    go (inr memory) = let wrong : Ok (ToServe service) ≡ Err NoMemory = sym is ∙ memory in cc

-- taken words that were read as a command ask for `live` just where that is the command
pub ran_live : (words : List Text) (result : Result Request WordsFault) (command : Command) → IsAskedBy words result → result ≡ Ok (ToRun command) → AreTaken words
    → command ≡ Live → asked_of words ≡ Ok (ToRun Live)
ran_live words result command by is taken e =
    subst (λ (c : Command). asked_of words ≡ Ok (ToRun c)) e (asked_is words result (ToRun command) by taken is)

pub was_live : (words : List Text) (result : Result Request WordsFault) (command : Command) → IsAskedBy words result → result ≡ Ok (ToRun command) → AreTaken words
    → asked_of words ≡ Ok (ToRun Live) → command ≡ Live
was_live words result command by is taken asks =
    let same : Ok (ToRun command) ≡ Ok (ToRun Live) = sym (asked_is words result (ToRun command) by taken is) ∙ asks in cc
