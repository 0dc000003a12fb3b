-- What is moved is moved back.
use Rattle.std.proofs.Common.{◌≡◌, ℕ, ◌+◌, ◌-◌, ◌^◌, ◌<◌, ◌≤◌, eqb, List, length, Result, Ok, Err, refl, sym, ap, ◌∙◌, arith, inl, inr}
use Rattle.std.specs.Prelude.{◌↔◌}
use Rattle.std.proofs.lemmas.Bool.{not-false, or_cases, eqb-true, cases_lt, lt-ltb, le-ltb}
use Rattle.tt_span.specs.Interval.{Interval, IsInterval}
use Rattle.tt_poll.specs.declared.faults.PollFault.{PollFault}
use Rattle.tt_poll.specs.declared.messages.Message2.{Message2}
use Rattle.tt_poll.specs.declared.messages.Message2.TheVariants.{Request, Answer}
use Rattle.tt_poll.specs.Message.{PollRequest2, IsRequest2, answer_to2}
use Rattle.tt_poll.specs.Spelling.{IsMessage2, spelling_of2}
use Rattle.tt_poll.specs.Reading.{IsBytes, read_of2}
use Rattle.tt_poll.proofs.Bytes.{IsBytes-spelling_of2}
use Rattle.tt_poll.proofs.Refusing.{fields_of_read2}
use Rattle.tt_poll.proofs.Finding.{spelling_of2-read}
use Rattle.tt_poll.proofs.Taking.{read_of2-spelling_of2}
use Rattle.tt_wire.specs.Moving.{max_nonce, moved_nonce, back_nonce, nonce_of, with_nonce, respelled, moved, moved_back, moved_request}

-- a nonce of 64 bits that is not 0
pub record IsNonce (nonce : ℕ) : Type 0 where
  pub from_one : 0 < nonce
  pub fits : nonce < 2 ^ 64

-- ---- nonces

moved_nonce-below : (ahead nonce : ℕ) → nonce + ahead < 2 ^ 64 → moved_nonce ahead nonce ≡ nonce + ahead
moved_nonce-below ahead nonce below = rw (lt-ltb (nonce + ahead) (2 ^ 64) below) refl

moved_nonce-above : (ahead nonce : ℕ) → 2 ^ 64 ≤ nonce + ahead → moved_nonce ahead nonce ≡ nonce + ahead - max_nonce
moved_nonce-above ahead nonce above = rw (le-ltb (nonce + ahead) (2 ^ 64) above) refl

back_nonce-above : (ahead nonce : ℕ) → ahead < nonce → back_nonce ahead nonce ≡ nonce - ahead
back_nonce-above ahead nonce above = rw (lt-ltb ahead nonce above) refl

back_nonce-below : (ahead nonce : ℕ) → nonce ≤ ahead → back_nonce ahead nonce ≡ nonce + max_nonce - ahead
back_nonce-below ahead nonce below = rw (le-ltb ahead nonce below) refl

-- a function of nonces, and the one that undoes it
record Undoes (f g : ℕ → ℕ) (nonce : ℕ) : Type 0 where
  in_range : IsNonce (f nonce)
  back : g (f nonce) ≡ nonce

moved_nonce-undone : (ahead nonce : ℕ) → ahead < 2 ^ 64 → IsNonce nonce → Undoes (moved_nonce ahead) (back_nonce ahead) nonce
moved_nonce-undone ahead nonce fits is =
    elim (cases_lt (nonce + ahead) (2 ^ 64)) [
      | inl below ↦
          let to = moved_nonce-below ahead nonce below in
          let back = back_nonce-above ahead (nonce + ahead) (omega (arith, is.from_one)) in
          record {
            in_range = rw to (record { from_one = omega (arith, is.from_one); fits = below });
            back = ap (back_nonce ahead) to ∙ back ∙ omega arith;
          }
      | inr above ↦
          let to = moved_nonce-above ahead nonce above in
          let back = back_nonce-below ahead (nonce + ahead - max_nonce) (omega (arith, is.fits)) in
          record {
            in_range = rw to (record { from_one = omega arith; fits = omega (arith, is.fits) });
            back = ap (back_nonce ahead) to ∙ back ∙ omega arith;
          }
    ]

back_nonce-undone : (ahead nonce : ℕ) → ahead < 2 ^ 64 → IsNonce nonce → Undoes (back_nonce ahead) (moved_nonce ahead) nonce
back_nonce-undone ahead nonce fits is =
    elim (cases_lt ahead nonce) [
      | inl above ↦
          let to = back_nonce-above ahead nonce above in
          let back = moved_nonce-below ahead (nonce - ahead) (omega (arith, is.fits)) in
          record {
            in_range = rw to (record { from_one = omega arith; fits = omega (arith, is.fits) });
            back = ap (moved_nonce ahead) to ∙ back ∙ omega arith;
          }
      | inr below ↦
          let to = back_nonce-below ahead nonce below in
          let back = moved_nonce-above ahead (nonce + max_nonce - ahead) (omega (arith, is.from_one)) in
          record {
            in_range = rw to (record { from_one = omega (arith, is.from_one); fits = omega arith });
            back = ap (moved_nonce ahead) to ∙ back ∙ omega arith;
          }
    ]

-- ---- messages

nonce_in : (m : Message2) → IsMessage2 m → IsNonce (nonce_of m)
nonce_in (Request r) is = record { from_one = is.poll.nonce_in; fits = is.poll.nonce_fits }
nonce_in (Answer a) is = record { from_one = is.poll.nonce_in; fits = is.poll.nonce_fits }

-- a message in range is so with any other nonce
with_nonce-in : (m : Message2) (nonce : ℕ) → IsMessage2 m → IsNonce nonce → IsMessage2 (with_nonce m nonce)
with_nonce-in (Request r) nonce is other = record {
  poll = record { machine_in = is.poll.machine_in; source_in = is.poll.source_in; nonce_in = other.from_one; nonce_fits = other.fits };
  epoch_in = is.epoch_in;
}
with_nonce-in (Answer a) nonce is other = record {
  poll = record { machine_in = is.poll.machine_in; source_in = is.poll.source_in; nonce_in = other.from_one; nonce_fits = other.fits };
  epoch_in = is.epoch_in;
  span_in = is.span_in;
}

with_nonce-twice : (m : Message2) (g : ℕ → ℕ) (nonce : ℕ) → g nonce ≡ nonce_of m → with_nonce (with_nonce m nonce) (g (nonce_of (with_nonce m nonce))) ≡ m
with_nonce-twice (Request r) g nonce is = ap (λ (n : ℕ). Request (record r { nonce = n })) is
with_nonce-twice (Answer a) g nonce is = ap (λ (n : ℕ). Answer (record a { nonce = n })) is

length-spelling_of2-with_nonce : (m : Message2) (nonce : ℕ) → length (spelling_of2 (with_nonce m nonce)) ≡ length (spelling_of2 m)
unfolding spelling_of2
length-spelling_of2-with_nonce (Request r) nonce = refl
length-spelling_of2-with_nonce (Answer a) nonce = refl

-- ---- bytes

-- what a message in range is respelled as
respelled-message : (f : ℕ → ℕ) (m : Message2) → IsMessage2 m → respelled f (read_of2 (spelling_of2 m)) (spelling_of2 m) ≡ spelling_of2 (with_nonce m (f (nonce_of m)))
respelled-message f m is = ap (λ (r : Result Message2 PollFault). respelled f r (spelling_of2 m)) (read_of2-spelling_of2 m is)

respelled-undone : (f g : ℕ → ℕ) (bytes : List ℕ) (r : Result Message2 PollFault) → IsBytes bytes → r ≡ read_of2 bytes → ((nonce : ℕ) → IsNonce nonce → Undoes f g nonce)
    → respelled g (read_of2 (respelled f r bytes)) (respelled f r bytes) ≡ bytes
respelled-undone f g bytes (Err e) small is undoes = ap (λ (r : Result Message2 PollFault). respelled g r bytes) (sym is)
respelled-undone f g bytes (Ok m) small is undoes =
    let found = spelling_of2-read bytes m small (sym is) in
    let there = undoes (nonce_of m) (nonce_in m found.0) in
    respelled-message g (with_nonce m (f (nonce_of m))) (with_nonce-in m (f (nonce_of m)) found.0 there.in_range)
    ∙ ap spelling_of2 (with_nonce-twice m g (f (nonce_of m)) there.back)
    ∙ sym found.1

length-respelled : (f : ℕ → ℕ) (bytes : List ℕ) (r : Result Message2 PollFault) → IsBytes bytes → r ≡ read_of2 bytes → length (respelled f r bytes) ≡ length bytes
length-respelled f bytes (Err e) small is = refl
length-respelled f bytes (Ok m) small is =
    length-spelling_of2-with_nonce m (f (nonce_of m)) ∙ ap length (sym (spelling_of2-read bytes m small (sym is)).1)

pub moved_back-moved : (ahead : ℕ) (bytes : List ℕ) → ahead < 2 ^ 64 → IsBytes bytes → moved_back ahead (moved ahead bytes) ≡ bytes
unfolding moved moved_back
moved_back-moved ahead bytes fits small =
    respelled-undone (moved_nonce ahead) (back_nonce ahead) bytes (read_of2 bytes) small refl (λ nonce is. moved_nonce-undone ahead nonce fits is)

pub moved-moved_back : (ahead : ℕ) (bytes : List ℕ) → ahead < 2 ^ 64 → IsBytes bytes → moved ahead (moved_back ahead bytes) ≡ bytes
unfolding moved moved_back
moved-moved_back ahead bytes fits small =
    respelled-undone (back_nonce ahead) (moved_nonce ahead) bytes (read_of2 bytes) small refl (λ nonce is. back_nonce-undone ahead nonce fits is)

IsBytes-respelled : (f : ℕ → ℕ) (bytes : List ℕ) (r : Result Message2 PollFault) → IsBytes bytes → r ≡ read_of2 bytes → ((nonce : ℕ) → IsNonce nonce → IsNonce (f nonce)) → IsBytes (respelled f r bytes)
IsBytes-respelled f bytes (Err e) small is inside = small
IsBytes-respelled f bytes (Ok m) small is inside =
    let found = spelling_of2-read bytes m small (sym is) in
    IsBytes-spelling_of2 (with_nonce m (f (nonce_of m))) (with_nonce-in m (f (nonce_of m)) found.0 (inside (nonce_of m) (nonce_in m found.0)))

pub IsBytes-moved_back : (ahead : ℕ) (bytes : List ℕ) → ahead < 2 ^ 64 → IsBytes bytes → IsBytes (moved_back ahead bytes)
unfolding moved_back
IsBytes-moved_back ahead bytes fits small =
    IsBytes-respelled (back_nonce ahead) bytes (read_of2 bytes) small refl (λ nonce is. (back_nonce-undone ahead nonce fits is).in_range)

pub length-moved : (ahead : ℕ) (bytes : List ℕ) → IsBytes bytes → length (moved ahead bytes) ≡ length bytes
unfolding moved
length-moved ahead bytes small = length-respelled (moved_nonce ahead) bytes (read_of2 bytes) small refl

pub length-moved_back : (ahead : ℕ) (bytes : List ℕ) → IsBytes bytes → length (moved_back ahead bytes) ≡ length bytes
unfolding moved_back
length-moved_back ahead bytes small = length-respelled (back_nonce ahead) bytes (read_of2 bytes) small refl

-- ---- with nothing ahead, all stays

same_nonce : (f : ℕ → ℕ) (m : Message2) → f (nonce_of m) ≡ nonce_of m → with_nonce m (f (nonce_of m)) ≡ m
same_nonce f (Request r) is = ap (λ (n : ℕ). Request (record r { nonce = n })) is
same_nonce f (Answer a) is = ap (λ (n : ℕ). Answer (record a { nonce = n })) is

respelled-same : (f : ℕ → ℕ) (bytes : List ℕ) (r : Result Message2 PollFault) → IsBytes bytes → r ≡ read_of2 bytes → ((nonce : ℕ) → IsNonce nonce → f nonce ≡ nonce) → respelled f r bytes ≡ bytes
respelled-same f bytes (Err e) small is same = refl
respelled-same f bytes (Ok m) small is same =
    let found = spelling_of2-read bytes m small (sym is) in
    ap spelling_of2 (same_nonce f m (same (nonce_of m) (nonce_in m found.0))) ∙ sym found.1

moved_nonce-zero : (nonce : ℕ) → IsNonce nonce → moved_nonce 0 nonce ≡ nonce
moved_nonce-zero nonce is = moved_nonce-below 0 nonce (omega (arith, is.fits)) ∙ omega arith

back_nonce-zero : (nonce : ℕ) → IsNonce nonce → back_nonce 0 nonce ≡ nonce
back_nonce-zero nonce is = back_nonce-above 0 nonce is.from_one ∙ omega arith

pub moved-zero : (bytes : List ℕ) → IsBytes bytes → moved 0 bytes ≡ bytes
unfolding moved
moved-zero bytes small = respelled-same (moved_nonce 0) bytes (read_of2 bytes) small refl moved_nonce-zero

pub moved_back-zero : (bytes : List ℕ) → IsBytes bytes → moved_back 0 bytes ≡ bytes
unfolding moved_back
moved_back-zero bytes small = respelled-same (back_nonce 0) bytes (read_of2 bytes) small refl back_nonce-zero

-- ---- bytes of more than 40 stay

respelled-long : (f : ℕ → ℕ) (bytes : List ℕ) (r : Result Message2 PollFault) → 40 < length bytes → r ≡ read_of2 bytes → respelled f r bytes ≡ bytes
respelled-long f bytes (Err e) long is = refl
respelled-long f bytes (Ok m) long is =
    elim (or_cases (eqb (length bytes) 24) (eqb (length bytes) 40) (not-false _ (fields_of_read2 bytes m (sym is)).0.0)) [
      | inl short ↦ absurd (omega (arith, eqb-true (length bytes) 24 short))
      | inr short ↦ absurd (omega (arith, eqb-true (length bytes) 40 short))
    ]

pub moved-long : (ahead : ℕ) (bytes : List ℕ) → 40 < length bytes → moved ahead bytes ≡ bytes
unfolding moved
moved-long ahead bytes long = respelled-long (moved_nonce ahead) bytes (read_of2 bytes) long refl

-- ---- requests and answers

-- a request in range is moved to one
pub moved_request-in : (ahead : ℕ) (r : PollRequest2) → ahead < 2 ^ 64 → IsRequest2 r → IsRequest2 (moved_request ahead r)
moved_request-in ahead r fits is =
    let there = (moved_nonce-undone ahead r.nonce fits (nonce_in (Request r) is)).in_range in
    with_nonce-in (Request r) (moved_nonce ahead r.nonce) is there

pub moved-request : (ahead : ℕ) (r : PollRequest2) → IsRequest2 r → moved ahead (spelling_of2 (Request r)) ≡ spelling_of2 (Request (moved_request ahead r))
unfolding moved
moved-request ahead r is = respelled-message (moved_nonce ahead) (Request r) is

pub moved-request-below : (ahead : ℕ) (r : PollRequest2) → IsRequest2 r → r.nonce + ahead < 2 ^ 64 → moved ahead (spelling_of2 (Request r)) ≡ spelling_of2 (Request (record r { nonce = r.nonce + ahead }))
moved-request-below ahead r is below =
    moved-request ahead r is ∙ ap (λ (n : ℕ). spelling_of2 (Request (record r { nonce = n }))) (moved_nonce-below ahead r.nonce below)

moved-answer : (ahead : ℕ) (r : PollRequest2) (span : Interval) → IsRequest2 r → IsInterval span
    → moved ahead (spelling_of2 (Answer (answer_to2 r span))) ≡ spelling_of2 (Answer (answer_to2 (moved_request ahead r) span))
unfolding moved
moved-answer ahead r span is time =
    respelled-message (moved_nonce ahead) (Answer (answer_to2 r span)) (record { poll = is.poll; epoch_in = is.epoch_in; span_in = time })

-- the answer to the moved request is moved back to the answer to the request, and is the only one that is
pub moved_back-answer : (ahead : ℕ) (r : PollRequest2) (span : Interval) (bytes : List ℕ) → ahead < 2 ^ 64 → IsRequest2 r → IsInterval span → IsBytes bytes
    → (moved_back ahead bytes ≡ spelling_of2 (Answer (answer_to2 r span))) ↔ (bytes ≡ spelling_of2 (Answer (answer_to2 (moved_request ahead r) span)))
moved_back-answer ahead r span bytes fits is time small =
    let there = moved-answer ahead r span is time in
    let answer : IsMessage2 (Answer (answer_to2 r span)) = record { poll = is.poll; epoch_in = is.epoch_in; span_in = time } in (
      λ h. sym (moved-moved_back ahead bytes fits small) ∙ ap (moved ahead) h ∙ there,
      λ h. ap (moved_back ahead) (h ∙ sym there) ∙ moved_back-moved ahead (spelling_of2 (Answer (answer_to2 r span))) fits (IsBytes-spelling_of2 (Answer (answer_to2 r span)) answer),
    )
