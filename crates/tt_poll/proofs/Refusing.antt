-- When bytes are refused, and as what.
use Rattle.std.proofs.Common.{◌≡◌, Bool, true, false, cond, List, [], ◌∷◌, ◌++◌, Option, Some, None, Ok, Err, refl, ap, ◌∙◌}
use Rattle.std.specs.Prelude.{◌↔◌, find, ℕ}
use Rattle.std.specs.List.{AllByRecursion}
use Rattle.tt_poll.specs.declared.faults.PollFault.{PollFault}
use Rattle.tt_poll.specs.declared.faults.PollFault.TheVariants.{Epoch, Span}
use Rattle.std.specs.Option.{option_or}
use Rattle.std.proofs.lemmas.List.Folds.{find-append}
use Rattle.tt_poll.specs.declared.format.Format.{Format}
use Rattle.tt_poll.specs.declared.format.Format.TheVariants.{Ttp1, Ttp2}
use Rattle.tt_poll.specs.Message.{PollRequest}
use Rattle.tt_poll.specs.declared.messages.Message.{Message}
use Rattle.tt_poll.specs.declared.messages.Message2.{Message2}
use Rattle.tt_poll.specs.Reading.{applies, applies_in, head_faults, poll_faults, poll_faults2, first_poll_fault, first_poll_fault2, unless_refused, request_at, message_at, message_at2, head_read_of, read_of, read_of2}

-- none of the refusals applies
abbrev pub NoneApplies : (PollFault → Bool) → List PollFault → Type 0
NoneApplies p faults = AllByRecursion (λ e. p e ≡ false) faults

-- none of either list applies where none of both does
pub NoneApplies-append : (p : PollFault → Bool) (faults others : List PollFault) → NoneApplies p (faults ++ others) → NoneApplies p faults × NoneApplies p others
NoneApplies-append p [] others h = (tt, h)
NoneApplies-append p (e ∷ faults) others h = let rest = NoneApplies-append p faults others h.1 in ((h.0, rest.0), rest.1)

-- a search that finds nothing goes on past its first element
passed : (b : Bool) (e : PollFault) (found : Option PollFault) → cond b (Some e) found ≡ None → (b ≡ false) × (found ≡ None)
passed true e found h = absurd cc
passed false e found h = (refl, h)

-- where no refusal is found, none applies
none_of : (p : PollFault → Bool) (faults : List PollFault) → find p faults ≡ None → NoneApplies p faults
none_of p [] h = tt
none_of p (e ∷ faults) h = let first = passed (p e) e (find p faults) h in (first.0, none_of p faults first.1)

-- where none applies, none is found
find-none : (p : PollFault → Bool) (faults : List PollFault) → NoneApplies p faults → find p faults ≡ None
find-none p [] h = refl
find-none p (e ∷ faults) h = rw h.0 (find-none p faults h.1)

taken_as : {M : Type 0} (o : Option PollFault) (m n : M) → unless_refused o m ≡ Ok n → (o ≡ None) × (m ≡ n)
taken_as None m n h = (refl, cc)
taken_as (Some e) m n h = absurd cc

refused_as : {M : Type 0} (o : Option PollFault) (m : M) (e : PollFault) → (unless_refused o m ≡ Err e) ↔ (o ≡ Some e)
refused_as None m e = (λ h. absurd cc, λ h. absurd cc)
refused_as (Some d) m e = (λ h. cc, λ h. cc)

-- bytes to which no refusal applies are read as their fields say
pub read_of-fields : (bytes : List ℕ) → NoneApplies (applies bytes) poll_faults → read_of bytes ≡ Ok (message_at bytes)
unfolding read_of first_poll_fault
read_of-fields bytes h = ap (λ (o : Option PollFault). unless_refused o (message_at bytes)) (find-none (applies bytes) poll_faults h)

pub read_of2-fields : (bytes : List ℕ) → NoneApplies (applies_in Ttp2 bytes) poll_faults2 → read_of2 bytes ≡ Ok (message_at2 bytes)
unfolding read_of2 first_poll_fault2
read_of2-fields bytes h = ap (λ (o : Option PollFault). unless_refused o (message_at2 bytes)) (find-none (applies_in Ttp2 bytes) poll_faults2 h)

-- what is read has the fields of the bytes, and no refusal applies to them
pub fields_of_read : (bytes : List ℕ) (m : Message) → read_of bytes ≡ Ok m → NoneApplies (applies bytes) poll_faults × (message_at bytes ≡ m)
unfolding read_of first_poll_fault
fields_of_read bytes m h =
    let taken = taken_as (find (applies bytes) poll_faults) (message_at bytes) m h in
    (none_of (applies bytes) poll_faults taken.0, taken.1)

pub fields_of_read2 : (bytes : List ℕ) (m : Message2) → read_of2 bytes ≡ Ok m → NoneApplies (applies_in Ttp2 bytes) poll_faults2 × (message_at2 bytes ≡ m)
unfolding read_of2 first_poll_fault2
fields_of_read2 bytes m h =
    let taken = taken_as (find (applies_in Ttp2 bytes) poll_faults2) (message_at2 bytes) m h in
    (none_of (applies_in Ttp2 bytes) poll_faults2 taken.0, taken.1)

-- a refusal is the first that applies
pub read_of-refused : (bytes : List ℕ) (e : PollFault) → (read_of bytes ≡ Err e) ↔ (first_poll_fault bytes ≡ Some e)
unfolding read_of
read_of-refused bytes e = refused_as (first_poll_fault bytes) (message_at bytes) e

pub read_of2-refused : (bytes : List ℕ) (e : PollFault) → (read_of2 bytes ≡ Err e) ↔ (first_poll_fault2 bytes ≡ Some e)
unfolding read_of2
read_of2-refused bytes e = refused_as (first_poll_fault2 bytes) (message_at2 bytes) e

-- ---- reading a head, and then the rest

module _ {M : Type 0} (format : Format) (bytes : List ℕ) (others : List PollFault) (m : M) where
  -- a refusal of the head is the refusal of the whole
  refused_by_head : (e : PollFault) → head_read_of format bytes ≡ Err e → unless_refused (find (applies_in format bytes) (head_faults ++ others)) m ≡ Err e
  unfolding head_read_of
  refused_by_head e h =
      let p = applies_in format bytes in
      let found = (refused_as (find p head_faults) (request_at bytes) e).0 h in
      ap (λ (o : Option PollFault). unless_refused o m) (find-append p head_faults others ∙ ap (λ (o : Option PollFault). option_or o (find p others)) found)

  -- where the head is read, the rest decides
  read_after_head : (r : PollRequest) → head_read_of format bytes ≡ Ok r → unless_refused (find (applies_in format bytes) (head_faults ++ others)) m ≡ unless_refused (find (applies_in format bytes) others) m
  unfolding head_read_of
  read_after_head r h =
      let p = applies_in format bytes in
      let none = (taken_as (find p head_faults) (request_at bytes) r h).0 in
      ap (λ (o : Option PollFault). unless_refused o m) (find-append p head_faults others ∙ ap (λ (o : Option PollFault). option_or o (find p others)) none)

-- the head is read as its fields say
pub fields_of_head : (format : Format) (bytes : List ℕ) (r : PollRequest) → head_read_of format bytes ≡ Ok r → request_at bytes ≡ r
unfolding head_read_of
fields_of_head format bytes r h = (taken_as (find (applies_in format bytes) head_faults) (request_at bytes) r h).1

one_test : {M : Type 0} (span : Bool) (m : M) → unless_refused (cond span (Some Span) None) m ≡ cond span (Err Span) (Ok m)
one_test true m = refl
one_test false m = refl

two_tests : {M : Type 0} (epoch span : Bool) (m : M) → unless_refused (cond epoch (Some Epoch) (cond span (Some Span) None)) m ≡ cond epoch (Err Epoch) (cond span (Err Span) (Ok m))
two_tests true span m = refl
two_tests false span m = one_test span m

-- TTP1 in two steps: the head, and then the span
pub read_of-head_refused : (bytes : List ℕ) (e : PollFault) → head_read_of Ttp1 bytes ≡ Err e → read_of bytes ≡ Err e
unfolding read_of first_poll_fault
read_of-head_refused bytes e h = refused_by_head Ttp1 bytes (Span ∷ []) (message_at bytes) e h

pub read_of-head : (bytes : List ℕ) (r : PollRequest) → head_read_of Ttp1 bytes ≡ Ok r → read_of bytes ≡ cond (applies bytes Span) (Err Span) (Ok (message_at bytes))
unfolding read_of first_poll_fault
read_of-head bytes r h = read_after_head Ttp1 bytes (Span ∷ []) (message_at bytes) r h ∙ one_test (applies bytes Span) (message_at bytes)

-- TTP2 in three: the head, the epoch, and then the span
pub read_of2-head_refused : (bytes : List ℕ) (e : PollFault) → head_read_of Ttp2 bytes ≡ Err e → read_of2 bytes ≡ Err e
unfolding read_of2 first_poll_fault2
read_of2-head_refused bytes e h = refused_by_head Ttp2 bytes (Epoch ∷ Span ∷ []) (message_at2 bytes) e h

pub read_of2-head : (bytes : List ℕ) (r : PollRequest) → head_read_of Ttp2 bytes ≡ Ok r → read_of2 bytes ≡ cond (applies_in Ttp2 bytes Epoch) (Err Epoch) (cond (applies_in Ttp2 bytes Span) (Err Span) (Ok (message_at2 bytes)))
unfolding read_of2 first_poll_fault2
read_of2-head bytes r h = read_after_head Ttp2 bytes (Epoch ∷ Span ∷ []) (message_at2 bytes) r h ∙ two_tests (applies_in Ttp2 bytes Epoch) (applies_in Ttp2 bytes Span) (message_at2 bytes)
