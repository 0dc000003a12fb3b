-- What is replied to an input, and answered.
use Rattle.std.proofs.Common.{◌≡◌, ◌≢◌, ◌⊎◌, ◌<◌, ◌≤◌, ◌+◌, ℕ, List, [], Option, None, Some, Result, Ok, Err, IfSome, length, replicate, inl, inr, refl, arith}
use Rattle.std.specs.Io.KnownBytes.{IsAtEnd}
use Rattle.std.proofs.lemmas.List.{length-replicate}
use Rattle.tt_stream.specs.Counts.{HasFailed}
use Rattle.ttd_words.specs.declared.requests.Command.{Command}
use Rattle.ttd_commands.specs.declared.faults.Fault.{Fault}
use Rattle.ttd_commands.specs.declared.faults.Fault.TheVariants.{BadInput, BadWords, Memory, ReadFailed}
use Rattle.std.specs.Result.{result_map_both}
use Rattle.ttd_words.specs.declared.ending.Status.{Status}
use Rattle.ttd_commands.specs.Answer.{Answer, answer_of, fine}
use Rattle.ttd_commands.specs.Command.{HasReply, IsCommandReply, IsReply, IsReplyRead, most_of}
use Rattle.ttd_commands.specs.Input.{IsInputFault}
use Rattle.ttd_commands.specs.Run.{Answers, Gives, GivesHelp, Input, Output, RefusesOrHelps, RefusesWords}

-- an input that has more bytes than some number has some bytes that are more
pub longer_input : (left : Option (List ℕ)) (most : ℕ) → IfSome left (λ all. most < length all)
    → (bytes : List ℕ) × IfSome left (λ all. all ≡ bytes) × (most < length bytes)
longer_input (Some all) most long = (all, refl, long)
longer_input None most long = (replicate {A = ℕ} (most + 1) 0, tt, (let zero : ℕ = 0 in omega (arith, length-replicate (most + 1) zero)))

-- what is replied where reading gave a fault
pub fault_replied : {T : Type 0} (shows : T → Answer) (command : Command) (old new : Input) (fault : Fault) (result : Result T Fault)
    → result ≡ Err fault → IsInputFault fault
    → (fault ≡ ReadFailed → HasFailed old.failed new.failed)
    → (fault ≡ BadInput → IfSome old.left (λ all. most_of command < length all))
    → (fault ≢ ReadFailed → new.failed ≡ old.failed)
    → IsReplyRead (most_of command) shows (IsReply command) old new result
fault_replied shows command old new fault result is (inl failed) cause long sound = inr (inl (cc, cause failed))
fault_replied shows command old new fault result is (inr (inl too_long)) cause long sound =
    let more = longer_input old.left (most_of command) (long too_long) in
    let refused : result ≡ Err BadInput = cc in
    inl (
      more.0,
      record {
        whole = more.1;
        end = inr more.2;
        sound = sound (λ e. cc);
      },
      rw refused (inl (more.2, refl)),
    )
fault_replied shows command old new fault result is (inr (inr memory)) cause long sound = inr (inr (cc, sound (λ e. cc)))

-- what is replied where it was read
pub command_replied : {T : Type 0} (shows : T → Answer) (command : Command) (bytes : List ℕ) (old new : Input) (result : Result T Fault)
    → IfSome old.left (λ all. all ≡ bytes) → length bytes ≤ most_of command → IsAtEnd new.left → new.failed ≡ old.failed
    → HasReply shows (IsCommandReply command bytes) result
    → IsReplyRead (most_of command) shows (IsReply command) old new result
command_replied shows command bytes old new result whole short end sound (inl is) =
    inl (bytes, record { whole = whole; end = inl end; sound = sound }, inr (short, is))
command_replied shows command bytes old new result whole short end sound (inr memory) = inr (inr (memory, sound))

-- what is written of it
pub answered : {T : Type 0} (most : ℕ) (shows : T → Answer) (IsReplyOf : List ℕ → Result Answer Fault → Type 0) (old new : Input) (result : Result T Fault)
    (before after : Output) (status : Status) → IsReplyRead most shows IsReplyOf old new result
    → Gives (answer_of (result_map_both shows (λ fault. fault) result)) before after status
    → Answers most IsReplyOf old new before after status
answered most shows IsReplyOf old new result before after status (inl read) gives = inl (read.0, result_map_both shows (λ fault. fault) result, read.1, read.2, gives)
answered most shows IsReplyOf old new result before after status (inr (inl failed)) gives = inr (inl (failed.1, rw failed.0 at gives))
answered most shows IsReplyOf old new result before after status (inr (inr memory)) gives = inr (inr (memory.1, rw memory.0 at gives))

-- what is written where help was asked for
pub help_given : {T : Type 0} (shows : T → Answer) (old new : Input) (result : Result T Fault) (before after : Output) (status : Status)
    → (new ≡ old) × (((text : List ℕ) × (result_map_both shows (λ fault. fault) result ≡ Ok (fine text))) ⊎ (result ≡ Err Memory))
    → Gives (answer_of (result_map_both shows (λ fault. fault) result)) before after status → GivesHelp old new before after status
help_given shows old new result before after status (same, inl told) gives = (same, (told.0, inl (rw told.1 at gives)))
help_given shows old new result before after status (same, inr memory) gives = (same, ([], inr (rw memory at gives)))

-- what is written where the words are not taken
pub untaken_given : {T : Type 0} (shows : T → Answer) (old new : Input) (result : Result T Fault) (before after : Output) (status : Status)
    → (new ≡ old) × (((result ≡ Err BadWords) ⊎ (result ≡ Err Memory)) ⊎ ((text : List ℕ) × (result_map_both shows (λ fault. fault) result ≡ Ok (fine text))))
    → Gives (answer_of (result_map_both shows (λ fault. fault) result)) before after status → RefusesOrHelps old new before after status
untaken_given shows old new result before after status (same, inl (inl bad)) gives = inl (same, inl (rw bad at gives))
untaken_given shows old new result before after status (same, inl (inr memory)) gives = inl (same, inr (rw memory at gives))
untaken_given shows old new result before after status (same, inr told) gives = inr (same, (told.0, inl (rw told.1 at gives)))

-- what is written where the words are refused
pub refused_given : {T : Type 0} (shows : T → Answer) (old new : Input) (result : Result T Fault) (before after : Output) (status : Status)
    → (new ≡ old) × ((result ≡ Err BadWords) ⊎ (result ≡ Err Memory))
    → Gives (answer_of (result_map_both shows (λ fault. fault) result)) before after status → RefusesWords old new before after status
refused_given shows old new result before after status (same, inl bad) gives = (same, inl (rw bad at gives))
refused_given shows old new result before after status (same, inr memory) gives = (same, inr (rw memory at gives))
