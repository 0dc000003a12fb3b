-- What is read is spelled so, each byte of it.
use Rattle.std.proofs.Common.{◌≡◌, ℕ, ◌+◌, ◌-◌, ◌^◌, ◌<◌, ◌≤◌, true, false, eqb, ltb, ◌&&◌, List, [], ◌∷◌, ◌++◌, length, take, drop, Ok, refl, sym, ap, subst, ◌∙◌, arith, inl, inr}
use Rattle.std.specs.Prelude.{nat_eq}
use Rattle.std.specs.List.{starts_with}
use Rattle.std.specs.Int.{w64, from_be_bytes, to_be_bytes}
use Rattle.std.proofs.lemmas.Bool.{not-false, or_cases, or_parts, and_cases, eqb-true, eqb-false, ltb-false, ne_eqb}
use Rattle.std.proofs.lemmas.Bool.Decides.{Decides-eqb}
use Rattle.std.proofs.lemmas.Slice.Eq.{starts_is}
use Rattle.std.proofs.lemmas.List.{take-append-drop, drop-drop, drop_all, length-take, length-drop, append_assoc}
use Rattle.std.proofs.Math.Seq.{drop-cons}
use Rattle.std.proofs.lemmas.Nat.{be_bytes_8}
use Rattle.tt_span.specs.Interval.{IsInterval}
use Rattle.tt_poll.specs.declared.faults.PollFault.TheVariants.{Epoch, Span}
use Rattle.tt_poll.specs.declared.format.Format.{Format}
use Rattle.tt_poll.specs.declared.format.Format.TheVariants.{Ttp1, Ttp2}
use Rattle.tt_poll.specs.declared.messages.Message.{Message}
use Rattle.tt_poll.specs.declared.messages.Message.TheVariants.{Request, Answer}
use Rattle.tt_poll.specs.declared.messages.Message2.{Message2}
use Rattle.tt_poll.specs.declared.messages.Message2.TheVariants as two
use Rattle.tt_poll.specs.Format.{magic_of, kind_of}
use Rattle.tt_poll.specs.Message.{max_machine, max_source, IsPoll, IsEpoch, IsRequest, IsAnswer, IsRequest2, IsAnswer2}
use Rattle.tt_poll.specs.Spelling.{IsMessage, IsMessage2, head_of, ends_of, spelling_of, spelling_of2}
use Rattle.tt_poll.specs.Reading.{IsBytes, number_at, kind_at, machine_at, source_byte_at, reserved_at, nonce_at, epoch_at, ends_at, span_at, span_at2, request_at, answer_at, message_at, request_at2, answer_at2, message_at2, are_no_span, applies, applies_in, head_faults, poll_faults, poll_faults2, read_of, read_of2}
use Rattle.tt_poll.proofs.Refusing.{NoneApplies, NoneApplies-append, fields_of_read, fields_of_read2}
use Rattle.tt_poll.proofs.Bytes.{IsBytes-drop, IsBytes-take}

-- bytes begin with the eight bytes of the number that they begin with
number_first : (bytes : List ℕ) → IsBytes bytes → 8 ≤ length bytes → bytes ≡ to_be_bytes w64 (from_be_bytes w64 (take 8 bytes)) ++ drop 8 bytes
number_first bytes fits long =
    let part : to_be_bytes w64 (from_be_bytes w64 (take 8 bytes)) ≡ take 8 bytes = be_bytes_8 (take 8 bytes) _ (omega (arith, length-take 8 bytes)) (IsBytes-take 8 bytes fits) refl in
    sym (take-append-drop 8 bytes) ∙ ap (λ (t : List ℕ). t ++ drop 8 bytes) (sym part)

-- the number in eight bytes fits them
pub number_fits : (bytes : List ℕ) → IsBytes bytes → from_be_bytes w64 bytes < 2 ^ 64
number_fits bytes fits = omega (arith, fits 0, fits 1, fits 2, fits 3, fits 4, fits 5, fits 6, fits 7)

-- bytes that begin with the magic have it in front
magic_first : (format : Format) (bytes : List ℕ) → starts_with nat_eq bytes (magic_of format) ≡ true → bytes ≡ magic_of format ++ drop 4 bytes
magic_first Ttp1 bytes begins = (starts_is Decides-eqb bytes (magic_of Ttp1) (starts_with nat_eq bytes (magic_of Ttp1)) refl).0 begins
magic_first Ttp2 bytes begins = (starts_is Decides-eqb bytes (magic_of Ttp2) (starts_with nat_eq bytes (magic_of Ttp2)) refl).0 begins

-- after it come four single bytes
four_next : (bytes : List ℕ) → 8 ≤ length bytes → drop 4 bytes ≡ kind_at bytes ∷ machine_at bytes ∷ source_byte_at bytes ∷ reserved_at bytes ∷ drop 8 bytes
four_next bytes long =
    let four = drop-cons bytes 4 0 (omega arith) in
    let five = drop-cons bytes 5 0 (omega arith) in
    let six = drop-cons bytes 6 0 (omega arith) in
    let seven = drop-cons bytes 7 0 (omega arith) in
    four ∙ ap (λ (t : List ℕ). kind_at bytes ∷ t) (five ∙ ap (λ (t : List ℕ). machine_at bytes ∷ t) (six ∙ ap (λ (t : List ℕ). source_byte_at bytes ∷ t) seven))

-- from place i on stand the eight bytes of the number there
number_next : (bytes : List ℕ) (i : ℕ) → IsBytes bytes → i + 8 ≤ length bytes → drop i bytes ≡ to_be_bytes w64 (number_at bytes i) ++ drop (i + 8) bytes
number_next bytes i fits long =
    let eight : i + 8 - i ≡ 8 = omega arith in
    number_first (drop i bytes) (IsBytes-drop i bytes fits) (omega (arith, length-drop i bytes))
    ∙ ap (λ (n : ℕ). to_be_bytes w64 (from_be_bytes w64 (take n (drop i bytes))) ++ drop 8 (drop i bytes)) (sym eight)
    ∙ ap (λ (t : List ℕ). to_be_bytes w64 (number_at bytes i) ++ t) (drop-drop 8 i bytes)

number_at-fits : (bytes : List ℕ) (i : ℕ) → IsBytes bytes → number_at bytes i < 2 ^ 64
number_at-fits bytes i fits = number_fits (take (i + 8 - i) (drop i bytes)) (IsBytes-take (i + 8 - i) (drop i bytes) (IsBytes-drop i bytes fits))

-- what no refusal says of the first sixteen bytes
record HasHead (format : Format) (bytes : List ℕ) (kind : ℕ) : Type 0 where
  head_is : bytes ≡ head_of format kind (machine_at bytes) (source_byte_at bytes) (nonce_at bytes) ++ drop 16 bytes
  poll : IsPoll (machine_at bytes) (source_byte_at bytes) (nonce_at bytes)

head_found : (format : Format) (bytes : List ℕ) (kind : ℕ) → IsBytes bytes → 16 ≤ length bytes → kind_of format (length bytes) ≡ kind → NoneApplies (applies_in format bytes) head_faults → HasHead format bytes kind
head_found format bytes kind fits long of_length none =
    let begins : starts_with nat_eq bytes (magic_of format) ≡ true = not-false _ none.1.0 in
    let kind-is : kind_at bytes ≡ kind = eqb-true _ _ (not-false _ none.1.1.0) ∙ of_length in
    let reserved-is : reserved_at bytes ≡ 0 = eqb-true _ _ (not-false _ none.1.1.1.0) in
    let numbers = or_parts (ltb max_machine (machine_at bytes)) (ltb max_source (source_byte_at bytes)) none.1.1.1.1.0 in
    let nonce-is = eqb-false (nonce_at bytes) 0 none.1.1.1.1.1.0 in
    let nonce_in : 0 < nonce_at bytes = omega arith in
    let rest : drop 4 bytes ≡ kind ∷ machine_at bytes ∷ source_byte_at bytes ∷ 0 ∷ (to_be_bytes w64 (nonce_at bytes) ++ drop 16 bytes) =
    four_next bytes (omega arith)
    ∙ ap (λ (k : ℕ). k ∷ machine_at bytes ∷ source_byte_at bytes ∷ reserved_at bytes ∷ drop 8 bytes) kind-is
    ∙ ap (λ (z : ℕ). kind ∷ machine_at bytes ∷ source_byte_at bytes ∷ z ∷ drop 8 bytes) reserved-is
    ∙ ap (λ (t : List ℕ). kind ∷ machine_at bytes ∷ source_byte_at bytes ∷ 0 ∷ t) (number_next bytes 8 fits (omega arith)) in
    record {
      head_is = magic_first format bytes begins ∙ ap (λ (t : List ℕ). magic_of format ++ t) rest ∙ sym (append_assoc (magic_of format) (kind ∷ machine_at bytes ∷ source_byte_at bytes ∷ 0 ∷ to_be_bytes w64 (nonce_at bytes)) (drop 16 bytes));
      poll = record { machine_in = ltb-false _ _ numbers.0; source_in = ltb-false _ _ numbers.1; nonce_in = nonce_in; nonce_fits = number_at-fits bytes 8 fits };
    }

-- bytes that end after sixteen more end with the ends of a span
ends_last : (bytes : List ℕ) (i : ℕ) → IsBytes bytes → length bytes ≡ i + 16 → drop i bytes ≡ ends_of (ends_at bytes i)
ends_last bytes i fits len =
    let lower = number_next bytes i fits (omega arith) in
    let upper : drop (i + 8) bytes ≡ to_be_bytes w64 (number_at bytes (i + 8)) ++ drop (i + 8 + 8) bytes = number_next bytes (i + 8) fits (omega arith) in
    let nothing : drop (i + 8 + 8) bytes ≡ [] = drop_all (i + 8 + 8) bytes (omega arith) in
    lower ∙ ap (λ (t : List ℕ). to_be_bytes w64 (number_at bytes i) ++ t) (upper ∙ ap (λ (t : List ℕ). to_be_bytes w64 (number_at bytes (i + 8)) ++ t) nothing)

-- the ends of an answer are a span where that is not refused
span_found : (bytes : List ℕ) (len i : ℕ) → length bytes ≡ len → (eqb (length bytes) len && are_no_span (ends_at bytes i)) ≡ false → IsInterval (ends_at bytes i)
span_found bytes len i len-is h =
    let ends : are_no_span (ends_at bytes i) ≡ false = elim (and_cases _ _ h) [
      | inl other ↦ absurd (eqb-false _ _ other len-is)
      | inr ends ↦ ends
    ] in
    let both = or_parts _ _ ends in
    record { ordered = ltb-false _ _ both.0; in_time = ltb-false _ _ both.1 }

request_found : (bytes : List ℕ) → length bytes ≡ 16 → HasHead Ttp1 bytes 1 → IsRequest (request_at bytes) × (bytes ≡ spelling_of (Request (request_at bytes)))
unfolding spelling_of
request_found bytes len head =
    let nothing : drop 16 bytes ≡ [] = drop_all 16 bytes (omega arith) in
    (head.poll, head.head_is ∙ ap (λ (t : List ℕ). head_of Ttp1 1 (machine_at bytes) (source_byte_at bytes) (nonce_at bytes) ++ t) nothing)

answer_found : (bytes : List ℕ) → IsBytes bytes → length bytes ≡ 32 → HasHead Ttp1 bytes 2 → IsInterval (span_at bytes) → IsAnswer (answer_at bytes) × (bytes ≡ spelling_of (Answer (answer_at bytes)))
unfolding spelling_of
answer_found bytes fits len head span =
    (record { poll = head.poll; span_in = span }, head.head_is ∙ ap (λ (t : List ℕ). head_of Ttp1 2 (machine_at bytes) (source_byte_at bytes) (nonce_at bytes) ++ t) (ends_last bytes 16 fits len))

-- bytes to which no refusal applies are the spelling of the message whose fields they have
spelled : (bytes : List ℕ) → IsBytes bytes → NoneApplies (applies bytes) poll_faults → IsMessage (message_at bytes) × (bytes ≡ spelling_of (message_at bytes))
spelled bytes fits h =
    let none = NoneApplies-append (applies bytes) head_faults (Span ∷ []) h in
    elim (or_cases _ _ (not-false _ none.0.0)) [
      | inl short ↦
          let len : length bytes ≡ 16 = eqb-true _ _ short in
          rw short (request_found bytes len (head_found Ttp1 bytes 1 fits (omega arith) (ap (kind_of Ttp1) len) none.0))
      | inr long ↦
          let len : length bytes ≡ 32 = eqb-true _ _ long in
          let other : eqb (length bytes) 16 ≡ false = ne_eqb _ _ (λ e. omega arith) in
          rw other (answer_found bytes fits len (head_found Ttp1 bytes 2 fits (omega arith) (ap (kind_of Ttp1) len) none.0) (span_found bytes 32 16 len none.1.0))
    ]

-- what is read is in range, and spelled so
pub spelling_of-read : (bytes : List ℕ) (m : Message) → IsBytes bytes → read_of bytes ≡ Ok m → IsMessage m × (bytes ≡ spelling_of m)
spelling_of-read bytes m fits e =
    let read = fields_of_read bytes m e in
    subst (λ (n : Message). IsMessage n × (bytes ≡ spelling_of n)) read.1 (spelled bytes fits read.0)

-- an epoch that is not refused is one
epoch_found : (bytes : List ℕ) → IsBytes bytes → eqb (epoch_at bytes) 0 ≡ false → IsEpoch (epoch_at bytes)
epoch_found bytes fits h =
    let not-zero = eqb-false (epoch_at bytes) 0 h in
    record { from_one = omega arith; fits = number_at-fits bytes 16 fits }

request_found2 : (bytes : List ℕ) → IsBytes bytes → length bytes ≡ 24 → HasHead Ttp2 bytes 1 → IsEpoch (epoch_at bytes) → IsRequest2 (request_at2 bytes) × (bytes ≡ spelling_of2 (two.Request (request_at2 bytes)))
unfolding spelling_of2
request_found2 bytes fits len head epoch =
    let rest : drop 16 bytes ≡ to_be_bytes w64 (epoch_at bytes) ++ drop 24 bytes = number_next bytes 16 fits (omega arith) in
    let nothing : drop 24 bytes ≡ [] = drop_all 24 bytes (omega arith) in (
      record { poll = head.poll; epoch_in = epoch },
      head.head_is ∙ ap (λ (t : List ℕ). head_of Ttp2 1 (machine_at bytes) (source_byte_at bytes) (nonce_at bytes) ++ t) (rest ∙ ap (λ (t : List ℕ). to_be_bytes w64 (epoch_at bytes) ++ t) nothing),
    )

answer_found2 : (bytes : List ℕ) → IsBytes bytes → length bytes ≡ 40 → HasHead Ttp2 bytes 2 → IsEpoch (epoch_at bytes) → IsInterval (span_at2 bytes) → IsAnswer2 (answer_at2 bytes) × (bytes ≡ spelling_of2 (two.Answer (answer_at2 bytes)))
unfolding spelling_of2
answer_found2 bytes fits len head epoch span =
    let rest : drop 16 bytes ≡ to_be_bytes w64 (epoch_at bytes) ++ drop 24 bytes = number_next bytes 16 fits (omega arith) in (
      record { poll = head.poll; epoch_in = epoch; span_in = span },
      head.head_is ∙ ap (λ (t : List ℕ). head_of Ttp2 2 (machine_at bytes) (source_byte_at bytes) (nonce_at bytes) ++ t) (rest ∙ ap (λ (t : List ℕ). to_be_bytes w64 (epoch_at bytes) ++ t) (ends_last bytes 24 fits len)),
    )

spelled2 : (bytes : List ℕ) → IsBytes bytes → NoneApplies (applies_in Ttp2 bytes) poll_faults2 → IsMessage2 (message_at2 bytes) × (bytes ≡ spelling_of2 (message_at2 bytes))
spelled2 bytes fits h =
    let none = NoneApplies-append (applies_in Ttp2 bytes) head_faults (Epoch ∷ Span ∷ []) h in
    let epoch = epoch_found bytes fits none.1.0 in
    elim (or_cases _ _ (not-false _ none.0.0)) [
      | inl short ↦
          let len : length bytes ≡ 24 = eqb-true _ _ short in
          rw short (request_found2 bytes fits len (head_found Ttp2 bytes 1 fits (omega arith) (ap (kind_of Ttp2) len) none.0) epoch)
      | inr long ↦
          let len : length bytes ≡ 40 = eqb-true _ _ long in
          let other : eqb (length bytes) 24 ≡ false = ne_eqb _ _ (λ e. omega arith) in
          rw other (answer_found2 bytes fits len (head_found Ttp2 bytes 2 fits (omega arith) (ap (kind_of Ttp2) len) none.0) epoch (span_found bytes 40 24 len none.1.1.0))
    ]

pub spelling_of2-read : (bytes : List ℕ) (m : Message2) → IsBytes bytes → read_of2 bytes ≡ Ok m → IsMessage2 m × (bytes ≡ spelling_of2 m)
spelling_of2-read bytes m fits e =
    let read = fields_of_read2 bytes m e in
    subst (λ (n : Message2). IsMessage2 n × (bytes ≡ spelling_of2 n)) read.1 (spelled2 bytes fits read.0)
