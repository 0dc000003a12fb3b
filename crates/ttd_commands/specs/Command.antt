-- What each command answers to its input.
use Rattle.std.specs.Prelude.{◌≡◌, ◌⊎◌, ℕ, ◌<◌, ◌≤◌, List, length, Result, Ok, Err, IsOk}
use Rattle.std.specs.Result.{result_map_both}
use Rattle.tt_stream.specs.Counts.{HasFailed}
use Rattle.ttd_commands.specs.Run.{Input, IsRead}
use Rattle.ttd_words.specs.declared.requests.Command.{Command}
use Rattle.ttd_words.specs.declared.requests.Command.TheVariants.{Age, Fuse, Check, Run as RunScript, Trace, Twin, Picture, Live, Judge}
use Rattle.ttd_words.specs.declared.faults.WordsFault.{WordsFault}
use Rattle.ttd_words.specs.declared.faults.WordsFault.TheVariants.{BadWords as BadWordsAsked, BadValue, Memory as NoMemory}
use Rattle.ttd_commands.specs.declared.faults.Fault.{Fault}
use Rattle.ttd_commands.specs.declared.faults.Fault.TheVariants.{BadInput, BadWords, ReadFailed, Memory}
use Rattle.ttd_commands.specs.Answer.{Answer, EndsFine}
use Rattle.ttd_commands.specs.Input.{most_history, most_input}
use Rattle.ttd_commands.specs.Age.{age_of}
use Rattle.ttd_commands.specs.Fuse.{IsFuseReply}
use Rattle.ttd_commands.specs.Check.{IsCheckReply}
use Rattle.ttd_commands.specs.Running.{IsRunReply}
use Rattle.ttd_commands.specs.Twinning.{IsTwinReply}
use Rattle.ttd_commands.specs.Picturing.{IsPictureReply}
use Rattle.ttd_commands.specs.Tracing.{IsTraceReply}
use Rattle.ttd_commands.specs.Judging.{IsJudgeReply}
use Rattle.ttd_commands.specs.Living.{IsLiveReply}
use Rattle.ttd_words.specs.Reading.{AreForHelp, AreMistaken, AreTaken, IsRefused, IsUnlessMemory, Meaning, Request, ToHelp, ToRun, ToServe, asked_of}
use Rattle.clap.specs.Walk.{Text}

-- The reply is what the command answers to an input of allowed length.
abbrev pub IsCommandReply : Command → List ℕ → Result Answer Fault → Type 0
IsCommandReply (Age drift sent got clock) input = EndsFine (λ reply. reply ≡ age_of (record { drift = drift; sent = sent; got = got; clock = clock }) input)
IsCommandReply Fuse input = EndsFine (IsFuseReply input)
IsCommandReply Check input = EndsFine (IsCheckReply input)
IsCommandReply RunScript input = IsRunReply input
IsCommandReply Trace input = IsTraceReply input
IsCommandReply (Twin event side) input = IsTwinReply event side input
IsCommandReply Picture input = IsPictureReply input
IsCommandReply Live input = IsLiveReply input
IsCommandReply Judge input = IsJudgeReply input

-- How many bytes of input are allowed to a command.
abbrev pub most_of : Command → ℕ
most_of Judge = most_history
most_of _ = most_input

-- The reply is what the command answers to any input: one that is too long is rejected before anything else is looked at.
abbrev pub IsReply : Command → List ℕ → Result Answer Fault → Type 0
IsReply command input reply =
    ((most_of command < length input) × (reply ≡ Err BadInput)) ⊎ ((length input ≤ most_of command) × IsCommandReply command input reply)

-- The same for the command that the words ask to run; where they ask for none, no reply is one.
abbrev pub IsReplyTo : Result Request WordsFault → List ℕ → Result Answer Fault → Type 0
IsReplyTo (Ok (ToRun command)) input reply = IsReply command input reply
IsReplyTo _ input reply = ⊥

-- How many bytes of input are allowed to the command that the words ask to run.
abbrev pub most_to : Result Request WordsFault → ℕ
most_to (Ok (ToRun command)) = most_of command
most_to _ = most_input

-- What the result shows, or its refusal, is such a reply, or memory ran out.
abbrev pub HasReply : {T A : Type 0} → (T → A) → (Result A Fault → Type 0) → Result T Fault → Type 0
HasReply shows IsSuch result = IsSuch (result_map_both shows (λ fault. fault) result) ⊎ (result ≡ Err Memory)

-- The result is a reply to the bytes of the input, of which so many are allowed, and which was read; or reading failed; or memory ran out, with no
-- read that failed.
abbrev pub IsReplyRead : {T A : Type 0} → ℕ → (T → A) → (List ℕ → Result A Fault → Type 0) → Input → Input → Result T Fault → Type 0
IsReplyRead most shows IsReplyOf old new result =
    ((bytes : List ℕ) × IsRead most bytes old new × IsReplyOf bytes (result_map_both shows (λ fault. fault) result))
    ⊎ (((result ≡ Err ReadFailed) × HasFailed old.failed new.failed)
    ⊎ ((result ≡ Err Memory) × (new.failed ≡ old.failed)))

-- What the program says of words that are rejected.
abbrev pub words_fault_of : WordsFault → Fault
words_fault_of BadWordsAsked = BadWords
words_fault_of (BadValue given) = BadWords
words_fault_of NoMemory = Memory

-- The result is what these words ask for, as `read_words` says it.
pub record IsAskedBy (words : List Text) (result : Result Request WordsFault) : Type 0 where
  pub taken : AreTaken words → IsOk (asked_of words) × IsUnlessMemory NoMemory (asked_of words) result
  pub mistaken : AreMistaken words → IsRefused (asked_of words) × IsUnlessMemory NoMemory (asked_of words) result
  pub helped : AreForHelp words → IsUnlessMemory NoMemory (Ok ToHelp) result
  pub help : result ≡ Ok ToHelp → ¬ (AreTaken words)
  pub commands : (command : Command) → result ≡ Ok (ToRun command) → AreTaken words
  pub services : (service : Meaning) → result ≡ Ok (ToServe service) → AreTaken words
