-- When a reply is refused, and as what.
use Rattle.std.proofs.Common.{◌≡◌, ℕ, List, ◌++◌, Option, Some, None, Ok, Err, refl, ap, ◌∙◌}
use Rattle.std.specs.Prelude.{◌↔◌, find}
use Rattle.std.specs.Option.{option_or}
use Rattle.std.proofs.lemmas.List.Folds.{find-append}
use Rattle.tt_ntp.specs.declared.faults.NtpFault.{NtpFault}
use Rattle.tt_ntp.specs.declared.queries.Query.{Query}
use Rattle.tt_ntp.specs.declared.replies.Reply.{Reply}
use Rattle.tt_ntp.specs.Reading.{applies, head_faults, kiss_faults, clock_faults, time_faults, first_fault, reply_at, unless_refused, read_of}

-- the first refusal is that of the first of the four lists which has one
first_fault-lists : (query : Query) (bytes : List ℕ) → first_fault query bytes ≡ option_or (find (applies query bytes) head_faults) (option_or (find (applies query bytes) kiss_faults) (option_or (find (applies query bytes) clock_faults) (find (applies query bytes) time_faults)))
unfolding first_fault
first_fault-lists query bytes =
    let p = applies query bytes in
    let late = find-append p clock_faults time_faults in
    let later = find-append p kiss_faults (clock_faults ++ time_faults) ∙ ap (λ (o : Option NtpFault). option_or (find p kiss_faults) o) late in
    find-append p head_faults (kiss_faults ++ (clock_faults ++ time_faults)) ∙ ap (λ (o : Option NtpFault). option_or (find p head_faults) o) later

pub refused_by_head : (query : Query) (bytes : List ℕ) (fault : NtpFault) → find (applies query bytes) head_faults ≡ Some fault → first_fault query bytes ≡ Some fault
refused_by_head query bytes fault h = rw (first_fault-lists query bytes) (rw h refl)

pub refused_by_kiss : (query : Query) (bytes : List ℕ) (fault : NtpFault) → find (applies query bytes) head_faults ≡ None → find (applies query bytes) kiss_faults ≡ Some fault → first_fault query bytes ≡ Some fault
refused_by_kiss query bytes fault h k = rw (first_fault-lists query bytes) (rw h (rw k refl))

pub refused_by_clock : (query : Query) (bytes : List ℕ) (fault : NtpFault) → find (applies query bytes) head_faults ≡ None → find (applies query bytes) kiss_faults ≡ None → find (applies query bytes) clock_faults ≡ Some fault → first_fault query bytes ≡ Some fault
refused_by_clock query bytes fault h k i = rw (first_fault-lists query bytes) (rw h (rw k (rw i refl)))

pub left_to_times : (query : Query) (bytes : List ℕ) → find (applies query bytes) head_faults ≡ None → find (applies query bytes) kiss_faults ≡ None → find (applies query bytes) clock_faults ≡ None → first_fault query bytes ≡ find (applies query bytes) time_faults
left_to_times query bytes h k i = rw (first_fault-lists query bytes) (rw h (rw k (rw i refl)))

refused_as : (o : Option NtpFault) (reply : Reply) (fault : NtpFault) → (unless_refused o reply ≡ Err fault) ↔ (o ≡ Some fault)
refused_as None reply fault = (λ h. absurd cc, λ h. absurd cc)
refused_as (Some first) reply fault = (λ h. cc, λ h. cc)

-- a refusal is the first that applies
pub read_of-refused : (query : Query) (bytes : List ℕ) (fault : NtpFault) → (read_of query bytes ≡ Err fault) ↔ (first_fault query bytes ≡ Some fault)
unfolding read_of
read_of-refused query bytes fault = refused_as (first_fault query bytes) (reply_at bytes) fault

is_reply : (o : Option NtpFault) (there reply : Reply) → unless_refused o there ≡ Ok reply → there ≡ reply
is_reply None there reply h = cc
is_reply (Some fault) there reply h = cc

-- what is read is what stands in the bytes
pub read_of-reply : (query : Query) (bytes : List ℕ) (reply : Reply) → read_of query bytes ≡ Ok reply → reply_at bytes ≡ reply
unfolding read_of
read_of-reply query bytes reply h = is_reply (first_fault query bytes) (reply_at bytes) reply h
