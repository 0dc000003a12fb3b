-- What is read from bytes as an answer.
use Rattle.std.proofs.Common.{◌≡◌, ℕ, ◌^◌, ◌<◌, ◌≤◌, Bool, true, false, cond, eqb, ltb, ◌||◌, ◌&&◌, not, List, length, Ok, inl, inr, refl, ap, subst, ◌∙◌, arith}
use Rattle.std.specs.Int.{w64, from_be_bytes, to_be_bytes}
use Rattle.std.proofs.lemmas.Bool.{cases_lt, not-false, or_cases, or_parts, and_cases, eqb-true, eqb-false, ltb-false}
use Rattle.std.proofs.lemmas.Nat.{from_be_bytes-to_be_bytes_8}
use Rattle.tt_span.specs.Time.{max_time}
use Rattle.tt_span.specs.Interval.{Interval, IsInterval}
use Rattle.tt_poll.specs.declared.messages.Message2.TheVariants.{Request, Answer}
use Rattle.tt_poll.specs.Message.{PollRequest2, PollAnswer2}
use Rattle.tt_poll.specs.Spelling.{spelling_of2}
use Rattle.tt_poll.specs.Reading.{number_at, span_at2, request_at2, answer_at2, are_no_span, read_of2}
use Rattle.tt_poll.proofs.Bytes.{IsBytes-high_first}
use Rattle.tt_poll.proofs.Finding.{number_fits}
use Rattle.tt_poll.proofs.Refusing.{fields_of_read2}

is_answer : (b : Bool) (r : PollRequest2) (a c : PollAnswer2) → cond b (Request r) (Answer a) ≡ Answer c → (b ≡ false) × (a ≡ c)
is_answer true r a c h = absurd cc
is_answer false r a c h = (refl, cc)

-- bytes as long as an answer end with no span of time
abbrev has_no_span : List ℕ → Bool
has_no_span bytes = eqb (length bytes) 40 && are_no_span (span_at2 bytes)

-- bytes that are read as an answer have its fields, are as long as one, and its span is one of time
answer_read : (bytes : List ℕ) (a : PollAnswer2) → read_of2 bytes ≡ Ok (Answer a)
    → (answer_at2 bytes ≡ a) × (not (eqb (length bytes) 24 || eqb (length bytes) 40) ≡ false) × (has_no_span bytes ≡ false) × (eqb (length bytes) 24 ≡ false)
answer_read bytes a h =
    let fields = fields_of_read2 bytes (Answer a) h in
    let kind = is_answer (eqb (length bytes) 24) (request_at2 bytes) (answer_at2 bytes) a fields.1 in
    (kind.1, fields.0.0, fields.0.1.1.1.1.1.1.1.0, kind.0)

span_of : (bytes : List ℕ) → length bytes ≡ 40 → has_no_span bytes ≡ false → IsInterval (span_at2 bytes)
span_of bytes len h =
    let ends : (ltb (number_at bytes 32) (number_at bytes 24) || ltb max_time (number_at bytes 32)) ≡ false = elim (and_cases _ _ h) [
      | inl other ↦ absurd (eqb-false _ _ other len)
      | inr ends ↦ ends
    ] in
    let both = or_parts _ _ ends in
    record { ordered = ltb-false _ _ both.0; in_time = ltb-false _ _ both.1 }

-- what is read as an answer has a span of time
pub answer_valid : (bytes : List ℕ) (a : PollAnswer2) → read_of2 bytes ≡ Ok (Answer a) → IsInterval a.span
answer_valid bytes a h =
    let read = answer_read bytes a h in
    let len : length bytes ≡ 40 = elim (or_cases _ _ (not-false _ read.1)) [
      | inl short ↦ absurd (eqb-false _ _ read.3 (eqb-true _ _ short))
      | inr long ↦ eqb-true _ _ long
    ] in
    subst (λ (b : PollAnswer2). IsInterval b.span) read.0 (span_of bytes len read.2)

-- a number that is spelled in eight bytes and read again does not become greater
number_back : (n : ℕ) → from_be_bytes w64 (to_be_bytes w64 n) ≤ n
number_back n =
    elim (cases_lt n (2 ^ 64)) [
      | inl lt ↦ let same = from_be_bytes-to_be_bytes_8 n lt in omega arith
      | inr ge ↦ let fits : from_be_bytes w64 (to_be_bytes w64 n) < 2 ^ 64 = number_fits (to_be_bytes w64 n) (IsBytes-high_first 8 n) in omega arith
    ]

-- what is read from the spelling of an answer: its span where that is one of time, its epoch where that fits eight bytes, and no greater nonce
pub record IsReadFrom (a b : PollAnswer2) : Type 0 where
  pub nonce : b.nonce ≤ a.nonce
  pub epoch : a.epoch < 2 ^ 64 → b.epoch ≡ a.epoch
  pub span : b.span ≡ a.span

spelled_nonce : (a : PollAnswer2) → (answer_at2 (spelling_of2 (Answer a))).nonce ≤ a.nonce
unfolding spelling_of2
spelled_nonce a = number_back a.nonce

spelled_epoch : (a : PollAnswer2) → a.epoch < 2 ^ 64 → (answer_at2 (spelling_of2 (Answer a))).epoch ≡ a.epoch
unfolding spelling_of2
spelled_epoch a fits = from_be_bytes-to_be_bytes_8 a.epoch fits

spelled_span : (a : PollAnswer2) → IsInterval a.span → (answer_at2 (spelling_of2 (Answer a))).span ≡ a.span
unfolding spelling_of2
spelled_span a valid =
    let lo : number_at (spelling_of2 (Answer a)) 24 ≡ a.span.lo = from_be_bytes-to_be_bytes_8 a.span.lo (omega (arith, valid.ordered, valid.in_time)) in
    let hi : number_at (spelling_of2 (Answer a)) 32 ≡ a.span.hi = from_be_bytes-to_be_bytes_8 a.span.hi (omega (arith, valid.in_time)) in
    let from_ends : ℕ → ℕ → Interval = λ x y. record { lo = x; hi = y } in
    ap (λ (x : ℕ). from_ends x (number_at (spelling_of2 (Answer a)) 32)) lo ∙ ap (λ (y : ℕ). from_ends a.span.lo y) hi

pub answer_back : (a b : PollAnswer2) → IsInterval a.span → read_of2 (spelling_of2 (Answer a)) ≡ Ok (Answer b) → IsReadFrom a b
answer_back a b valid h =
    let read = answer_read (spelling_of2 (Answer a)) b h in
    record {
      nonce = subst (λ (c : PollAnswer2). c.nonce ≤ a.nonce) read.0 (spelled_nonce a);
      epoch = λ fits. subst (λ (c : PollAnswer2). c.epoch ≡ a.epoch) read.0 (spelled_epoch a fits);
      span = subst (λ (c : PollAnswer2). c.span ≡ a.span) read.0 (spelled_span a valid);
    }
