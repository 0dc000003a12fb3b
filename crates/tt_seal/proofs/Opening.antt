-- What opens is a sealing, and a sealing opens.
use Rattle.std.proofs.Common.{◌≡◌, ℕ, ◌+◌, ◌<◌, ◌≤◌, ◌^◌, ◌||◌, ltb, List, ◌++◌, length, take, drop, Bool, true, false, cond, Option, Some, None, Result, Ok, Err, refl, ap, ◌∙◌, sym, subst, arith, inl, inr, lit<, append_assoc, length-append}
use Rattle.std.specs.Prelude.{IfOk, Contains}
use Rattle.std.specs.Int.{w32, to_be_bytes, from_be_bytes}
use Rattle.std.specs.Str.{bytes_eq}
use Rattle.std.proofs.lemmas.Bool.{or_from, le-ltb, ltb-false, cases_lt}
use Rattle.std.proofs.lemmas.List.{get_or-drop, get_or-take, get_or_past, length-take, length-take-le, length-drop, take-append-drop, take_at, drop_at}
use Rattle.std.proofs.lemmas.Nat.{be_bytes_4, from_be_bytes-to_be_bytes_4}
use Rattle.std.proofs.lemmas.Slice.Eq.{bytes_eq-Decides}
use Rattle.std.proofs.Math.Seq.{take-add}
use Rattle.sha2.specs.Sha256.{sha256}
use Rattle.sha2.proofs.Facts256.{length-sha256}
use Rattle.tt_seal.specs.Hmac.{hmac_sha256, outer_pad, inner_pad}
use Rattle.tt_seal.specs.declared.faults.SealFault.{SealFault}
use Rattle.tt_seal.specs.declared.faults.SealFault.TheVariants.{Length, WrongTag}
use Rattle.tt_seal.specs.declared.sealing.Opened.{Opened}
use Rattle.tt_seal.specs.Sealing.{SealKey, IsBytes, tagged_part, tag_of, sealing_of, key_with, HaveOwnNumbers, message_len, message_in, number_in, part_in, tag_in, opened_as, opened_under, opened_of, IsOpened}
use Rattle.tt_seal.proofs.Finding.{key_with-number, found_own}

-- a tag has 16 bytes
length-tag_of : (bytes part : List ℕ) → length (tag_of bytes part) ≡ 16
unfolding tag_of
length-tag_of bytes part = length-take-le 16 (hmac_sha256 bytes part) (rw (length-sha256 (outer_pad bytes ++ sha256 (inner_pad bytes ++ part))) (omega arith))

-- ---- what opens is a sealing

-- what is known where bytes open
record Opens (found : Option SealKey) (bytes : List ℕ) (opened : Opened) : Type 0 where
  key : SealKey
  known : found ≡ Some key
  same : tag_in bytes ≡ tag_of key.bytes (part_in bytes)
  is : opened_as (message_in bytes) (number_in bytes) ≡ opened

tag_passes : (t : Bool) (good opened : Opened) → cond t (Ok good) (Err WrongTag) ≡ Ok opened → (t ≡ true) × (good ≡ opened)
tag_passes true good opened h = (refl, cc)
tag_passes false good opened h = cc

opens_under : (found : Option SealKey) (bytes : List ℕ) (opened : Opened) → opened_under found bytes ≡ Ok opened → Opens found bytes opened
opens_under None bytes opened h = cc
opens_under (Some key) bytes opened h =
    let passed = tag_passes (bytes_eq (tag_in bytes) (tag_of key.bytes (part_in bytes))) (opened_as (message_in bytes) (number_in bytes)) opened h in
    record { key = key; known = refl; same = (bytes_eq-Decides (tag_in bytes) (tag_of key.bytes (part_in bytes))).0 passed.0; is = passed.1 }

not_refused : (b : Bool) (rest : Result Opened SealFault) (opened : Opened) → cond b (Err Length) rest ≡ Ok opened → (b ≡ false) × (rest ≡ Ok opened)
not_refused true rest opened h = cc
not_refused false rest opened h = (refl, h)

neither : (a b : Bool) → (a || b) ≡ false → (a ≡ false) × (b ≡ false)
neither true b h = cc
neither false b h = (refl, h)

small_take : (n : ℕ) (bytes : List ℕ) → IsBytes bytes → IsBytes (take n bytes)
small_take n bytes h i =
    elim (cases_lt i n) [
      | inl lt ↦ rw (get_or-take n bytes i 0 lt) (h i)
      | inr le ↦ rw (get_or_past (take n bytes) i 0 (omega (arith, length-take n bytes))) (lit< tt)
    ]

small_drop : (n : ℕ) (bytes : List ℕ) → IsBytes bytes → IsBytes (drop n bytes)
small_drop n bytes h i = rw get_or-drop (h (n + i))

-- the four bytes of the number are its spelling
number_spelled : (bytes : List ℕ) → IsBytes bytes → 20 ≤ length bytes → to_be_bytes w32 (number_in bytes) ≡ take 4 (drop (message_len bytes) bytes)
number_spelled bytes small long =
    let n = message_len bytes in
    let four : length (take 4 (drop n bytes)) ≡ 4 = length-take-le 4 (drop n bytes) (omega (arith, length-drop n bytes)) in
    be_bytes_4 (take 4 (drop n bytes)) (number_in bytes) four (small_take 4 (drop n bytes) (small_drop n bytes small)) refl

-- where the tag is right, the bytes are the sealing
is_sealing : (key : SealKey) (bytes : List ℕ) → key.number ≡ number_in bytes → IsBytes bytes → 20 ≤ length bytes → tag_in bytes ≡ tag_of key.bytes (part_in bytes)
    → bytes ≡ sealing_of (message_in bytes) key
unfolding sealing_of
is_sealing key bytes numbered small long same =
    let n = message_len bytes in
    let spelled : to_be_bytes w32 key.number ≡ take 4 (drop n bytes) = ap (λ (k : ℕ). to_be_bytes w32 k) numbered ∙ number_spelled bytes small long in
    let part : tagged_part (message_in bytes) key.number ≡ part_in bytes = ap (λ (t : List ℕ). message_in bytes ++ t) spelled ∙ sym (take-add n 4 bytes) in
    sym (take-append-drop (n + 4) bytes)
    ∙ ap (λ (t : List ℕ). part_in bytes ++ t) same
    ∙ ap (λ (p : List ℕ). p ++ tag_of key.bytes p) (sym part)

pub opened_of-found : (bytes : List ℕ) (keys : List SealKey) (opened : Opened) → IsBytes bytes → opened_of bytes keys ≡ Ok opened → IsOpened bytes keys opened
unfolding opened_of
opened_of-found bytes keys opened small h =
    let passed = not_refused (ltb (length bytes) 20 || ltb 60 (length bytes)) (opened_under (key_with keys (number_in bytes)) bytes) opened h in
    let bounds = neither (ltb (length bytes) 20) (ltb 60 (length bytes)) passed.0 in
    let long : 20 ≤ length bytes = ltb-false (length bytes) 20 bounds.0 in
    let short : length bytes ≤ 60 = ltb-false 60 (length bytes) bounds.1 in
    let opens = opens_under (key_with keys (number_in bytes)) bytes opened passed.1 in
    let numbered = key_with-number keys (number_in bytes) opens.key opens.known in
    subst (λ (o : Opened). IsOpened bytes keys o) opens.is (record {
      key = opens.key;
      known = opens.known;
      numbered = numbered;
      fits = omega (arith, length-take (message_len bytes) bytes);
      sealed = is_sealing opens.key bytes numbered small long opens.same;
    })

-- ---- a sealing opens

opened_under-some : (found : Option SealKey) (key : SealKey) (bytes : List ℕ) → found ≡ Some key → tag_in bytes ≡ tag_of key.bytes (part_in bytes)
    → opened_under found bytes ≡ Ok (opened_as (message_in bytes) (number_in bytes))
opened_under-some found key bytes known same =
    ap (λ (f : Option SealKey). opened_under f bytes) known
    ∙ rw ((bytes_eq-Decides (tag_in bytes) (tag_of key.bytes (part_in bytes))).1 same) refl

-- the parts of a sealing are what it was made of
record IsMadeOf (message : List ℕ) (key : SealKey) (bytes : List ℕ) : Type 0 where
  whole : length bytes ≡ length message + 20
  message_is : message_in bytes ≡ message
  number_is : number_in bytes ≡ key.number
  tag_is : tag_in bytes ≡ tag_of key.bytes (part_in bytes)

made_of : (message : List ℕ) (key : SealKey) → key.number < 2 ^ 32 → IsMadeOf message key (sealing_of message key)
unfolding sealing_of
made_of message key fits =
    let four = to_be_bytes w32 key.number in
    let part = message ++ four in
    let tag = tag_of key.bytes part in
    let bytes = part ++ tag in
    let part_len : length part ≡ length message + 4 = length-append message four in
    let whole : length bytes ≡ length message + 20 = omega (arith, length-append part tag, length-tag_of key.bytes part, part_len) in
    let n : message_len bytes ≡ length message = omega (arith, whole) in
    let split : bytes ≡ message ++ (four ++ tag) = append_assoc message four tag in
    let rest : drop (message_len bytes) bytes ≡ four ++ tag = rw (n, split) (drop_at message (four ++ tag) (length message) refl) in
    let front : part_in bytes ≡ part = take_at part tag (message_len bytes + 4) (omega (arith, n, part_len)) in
    record {
      whole = whole;
      message_is = rw (n, split) (take_at message (four ++ tag) (length message) refl);
      number_is = ap (λ (r : List ℕ). from_be_bytes w32 (take 4 r)) rest ∙ from_be_bytes-to_be_bytes_4 key.number fits;
      tag_is = drop_at part tag (message_len bytes + 4) (omega (arith, n, part_len)) ∙ ap (tag_of key.bytes) (sym front);
    }

pub opened_of-taken : (message : List ℕ) (keys : List SealKey) (key : SealKey) → length message ≤ 40 → key.number < 2 ^ 32 → HaveOwnNumbers keys → Contains keys key
    → opened_of (sealing_of message key) keys ≡ Ok (opened_as message key.number)
unfolding opened_of
opened_of-taken message keys key short fits own has =
    let bytes = sealing_of message key in
    let made = made_of message key fits in
    let fine : (ltb (length bytes) 20 || ltb 60 (length bytes)) ≡ false =
    or_from _ _ (le-ltb (length bytes) 20 (omega (arith, made.whole))) (le-ltb 60 (length bytes) (omega (arith, made.whole))) in
    ap (λ (b : Bool). cond b (Err Length) (opened_under (key_with keys (number_in bytes)) bytes)) fine
    ∙ opened_under-some (key_with keys (number_in bytes)) key bytes (ap (key_with keys) made.number_is ∙ found_own keys key own has) made.tag_is
    ∙ ap (λ (n : ℕ). Ok (opened_as (message_in bytes) n)) made.number_is
    ∙ ap (λ (m : List ℕ). Ok (opened_as m key.number)) made.message_is

pub found_as : (bytes : List ℕ) (keys : List SealKey) (r : Result Opened SealFault) → IsBytes bytes → r ≡ opened_of bytes keys → IfOk r (IsOpened bytes keys)
found_as bytes keys (Ok opened) small given = opened_of-found bytes keys opened small (sym given)
found_as bytes keys (Err fault) small given = tt
