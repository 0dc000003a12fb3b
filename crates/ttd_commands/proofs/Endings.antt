-- How the program ends, by what was refused.
use Rattle.std.proofs.Common.{◌≡◌, ◌≢◌, ◌⊎◌, ◌∙◌, ℕ, Bool, true, false, Option, Some, None, Result, Ok, inl, inr, refl, sym, ap, subst, nat_eq}
use Rattle.std.specs.Prelude.{Err, IfErr, IfOk, IfSome, if◌then◌else◌, ◌||◌}
use Rattle.std.specs.Result.{result_map_both}
use Rattle.std.proofs.lemmas.Bool.{eqb-true}
use Rattle.tt_live.specs.Fault.{number_of as live_number}
use Rattle.tt_live.specs.declared.faults.LiveFault.{LiveFault}
use Rattle.tt_stream.specs.Counts.{HasFailed}
use Rattle.ttd_commands.specs.declared.ending.CommandOutput.{CommandOutput}
use Rattle.ttd_commands.specs.declared.ending.CommandOutput.TheVariants as output
use Rattle.ttd_words.specs.declared.ending.Status.{Status}
use Rattle.ttd_words.specs.declared.ending.Status.TheVariants.{Fine, Memory as NoMemory, Bad, Broken, Device}
use Rattle.ttd_commands.specs.declared.faults.Fault.{Fault}
use Rattle.ttd_commands.specs.declared.faults.Fault.TheVariants.{BadWords, BadHex, BadInput, ReadFailed, Poll, Source, Fusion, Certificate, History, Script, Twin, World, Live, Memory}
use Rattle.ttd_commands.specs.Answer.{Answer, answer_in, answer_of, refusal_line}
use Rattle.ttd_commands.specs.Fault.{status_at, status_of}
use Rattle.ttd_commands.specs.Run.{Gives, IsWritten, Output, memory_answer}

-- a status at a number is that of out of memory at 1 alone
status_at-memory : (number : ℕ) → status_at number ≡ NoMemory → number ≡ 1
status_at-memory number e = go (nat_eq number 1) refl e
  where
    other : (b : Bool) → (if b then Device else Bad) ≡ NoMemory → number ≡ 1
    other true e = cc
    other false e = cc

    go : (b : Bool) → nat_eq number 1 ≡ b → (if b then NoMemory else (if nat_eq number 1501 || (nat_eq number 1502 || nat_eq number 304) then Device else Bad)) ≡ NoMemory → number ≡ 1
    go true t e = eqb-true number 1 t
    go false t e = other (nat_eq number 1501 || (nat_eq number 1502 || nat_eq number 304)) e

-- a refusal after which the program ends as out of memory is that of out of memory
answer_of-memory : (fault : Fault) → status_of fault ≡ NoMemory → answer_of (Err fault) ≡ memory_answer
answer_of-memory Memory e = refl
answer_of-memory (Live live) e =
    let one : live_number live ≡ 1 = status_at-memory (live_number live) e in
    ap (λ n. (let a : Answer = record { text = refusal_line n; status = status_at n } in a)) one
answer_of-memory BadWords e = cc
answer_of-memory BadHex e = cc
answer_of-memory BadInput e = cc
answer_of-memory ReadFailed e = cc
answer_of-memory (Poll fault) e = cc
answer_of-memory (Source fault) e = cc
answer_of-memory (Fusion fault) e = cc
answer_of-memory (Certificate fault) e = cc
answer_of-memory (History fault) e = cc
answer_of-memory (Script fault) e = cc
answer_of-memory (Twin fault) e = cc
answer_of-memory (World fault) e = cc

-- what is written of such a refusal
pub refusal_memory : (fault : Fault) (before after : Output) (status : Status) → Gives (answer_of (Err fault)) before after status → status ≡ NoMemory
    → IsWritten memory_answer before after status
refusal_memory fault before after status (inl written) e =
    subst (λ (a : Answer). IsWritten a before after status) (answer_of-memory fault (sym written.status_is ∙ e)) written
refusal_memory fault before after status (inr cut) e = absurd (let wrong : Device ≡ NoMemory = sym cut.status_is ∙ e in cc)

-- the refusals after which a device is said to have failed
device_fault : (fault : Fault) → status_of fault ≡ Device → (fault ≡ ReadFailed) ⊎ ((live : LiveFault) × (fault ≡ Live live))
device_fault ReadFailed e = inl refl
device_fault (Live live) e = inr (live, refl)
device_fault Memory e = cc
device_fault BadWords e = cc
device_fault BadHex e = cc
device_fault BadInput e = cc
device_fault (Poll fault) e = cc
device_fault (Source fault) e = cc
device_fault (Fusion fault) e = cc
device_fault (Certificate fault) e = cc
device_fault (History fault) e = cc
device_fault (Script fault) e = cc
device_fault (Twin fault) e = cc
device_fault (World fault) e = cc

-- a device is said to have failed where writing failed, or by such a refusal
pub device_told : (reply : Result CommandOutput Fault) (before after : Output) (status : Status)
    → Gives (answer_of (result_map_both answer_in (λ fault. fault) reply)) before after status → status ≡ Device
    → HasFailed before.failed after.failed ⊎ ((reply ≡ Err ReadFailed) ⊎ ((live : LiveFault) × (reply ≡ Err (Live live))))
device_told reply before after status (inr cut) e = inl cut.failed
device_told (Ok (output.Fine text)) before after status (inl written) e = absurd (let wrong : Fine ≡ Device = sym written.status_is ∙ e in cc)
device_told (Ok (output.Broken text)) before after status (inl written) e = absurd (let wrong : Broken ≡ Device = sym written.status_is ∙ e in cc)
device_told (Err fault) before after status (inl written) e = go (device_fault fault (sym written.status_is ∙ e))
  where
    wrap : Fault → Result CommandOutput Fault
    wrap f = Err f

    go : (fault ≡ ReadFailed) ⊎ ((live : LiveFault) × (fault ≡ Live live))
        → HasFailed before.failed after.failed ⊎ ((Err fault ≡ wrap ReadFailed) ⊎ ((live : LiveFault) × (Err fault ≡ wrap (Live live))))
    go (inl is) = inr (inl (ap (λ (f : Fault). Err f) is))
    go (inr (live, is)) = inr (inr (live, ap (λ (f : Fault). Err f) is))

-- what is said of a refusal is that refusal
pub told_live : (reply : Result CommandOutput Fault) (refusal : Option Fault) (live : LiveFault)
    → IfErr reply (λ fault. refusal ≡ Some fault) → reply ≡ Err (Live live) → refusal ≡ Some (Live live)
told_live (Err fault) refusal live told is =
    let same : fault ≡ Live live = cc in
    told ∙ ap (λ (f : Fault). Some f) same
told_live (Ok reply) refusal live told is = cc

pub told_no_run : (reply : Result CommandOutput Fault) (refusal : Option Fault)
    → IfErr reply (λ fault. refusal ≡ Some fault) → IfOk reply (λ text. refusal ≡ None) → ((live : LiveFault) → reply ≢ Err (Live live))
    → (live : LiveFault) → refusal ≢ Some (Live live)
told_no_run (Ok reply) refusal some none other live is = let wrong : None ≡ Some (Live live) = sym none ∙ is in cc
told_no_run (Err fault) refusal some none other live is =
    let same : Some fault ≡ Some (Live live) = sym some ∙ is in
    let fault_is : fault ≡ Live live = cc in
    other live (ap (λ (f : Fault). Err f) fault_is)

-- what is said of a refusal is what was written
pub told_given : (reply : Result CommandOutput Fault) (refusal : Option Fault) (before after : Output) (status : Status)
    → Gives (answer_of (result_map_both answer_in (λ fault. fault) reply)) before after status
    → IfErr reply (λ fault. refusal ≡ Some fault) → IfOk reply (λ text. refusal ≡ None)
    → IfSome refusal (λ told. Gives (answer_of (Err told)) before after status)
told_given (Ok text) refusal before after status gives some none = rw none tt
told_given (Err fault) refusal before after status gives some none = rw some gives

-- where the program does not end as at a failed device, no device failed
pub sound_given : {T : Type 0} (shows : T → Answer) (result : Result T Fault) (before after : Output) (status : Status)
    → Gives (answer_of (result_map_both shows (λ fault. fault) result)) before after status → (status ≡ Device → ⊥)
    → (result ≡ Err ReadFailed → ⊥) × (after.failed ≡ before.failed)
sound_given {T} shows result before after status (inr cut) other = absurd (other cut.status_is)
sound_given {T} shows result before after status (inl written) other = (
  λ failed. other (written.status_is ∙ ap (λ (r : Result T Fault). (answer_of (result_map_both shows (λ fault. fault) r)).status) failed),
  written.sound,
)
