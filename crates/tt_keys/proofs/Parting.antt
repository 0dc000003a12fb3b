-- The line of a key, in its parts.
use Rattle.std.proofs.Common.{◌≡◌, ◌≢◌, ℕ, ◌+◌, ◌%◌, ◌<◌, ◌≤◌, ◌^◌, List, [], ◌∷◌, ◌++◌, length, take, drop, Result, Ok, refl, ap, ◌∙◌, sym, subst, arith, append_assoc, length-append}
use Rattle.std.specs.Fmt.{decimal}
use Rattle.std.specs.Str.Parse.{digits_value}
use Rattle.std.proofs.lemmas.Fmt.{decimal_by_steps, decimal_is_IsNumeral}
use Rattle.std.proofs.lemmas.List.{take_at, drop_at, take-append-drop}
use Rattle.hex.specs.Hex.{lower_digits, encode_lower, decode_pairs, decode_sized}
use Rattle.hex.specs.declared.error.FromHexError.{FromHexError}
use Rattle.hex.proofs.HexLemmas.{length-encode_with, decode_pairs-encode_with, IsDigits-lower_digits}
use Rattle.tt_seal.specs.Sealing.{SealKey, IsBytes}
use Rattle.tt_keys.specs.Line.{IsEnding, IsKeyLine, IsNoKeyLine, IsSkipped, Lacks}
use Rattle.tt_keys.proofs.Cutting.{all_more, lacks_not, cut_once}

-- ---- hexadecimal digits

-- a key has 64 digits
digits_len : (bytes : List ℕ) → length bytes ≡ 32 → length (encode_lower bytes) ≡ 64
digits_len bytes len = omega (arith, length-encode_with lower_digits bytes)

decode_sized-pairs : (digits : List ℕ) → length digits ≡ 64 → decode_sized digits 32 ≡ decode_pairs 0 digits
decode_sized-pairs digits len = rw len refl

-- the digits of a key decode as its bytes
pub decodes : (digits bytes : List ℕ) → length bytes ≡ 32 → IsBytes bytes → digits ≡ encode_lower bytes → decode_sized digits 32 ≡ Ok bytes
decodes digits bytes len small is =
    decode_sized-pairs digits (ap length is ∙ digits_len bytes len)
    ∙ ap (decode_pairs 0) is
    ∙ decode_pairs-encode_with lower_digits IsDigits-lower_digits 0 bytes small

from_ok : (r : Result (List ℕ) FromHexError) (xs ys : List ℕ) → r ≡ Ok xs → r ≡ Ok ys → xs ≡ ys
from_ok r xs ys e f = cc

-- two keys with the same digits have the same bytes
same_bytes : (xs ys : List ℕ) → IsBytes xs → IsBytes ys → encode_lower xs ≡ encode_lower ys → xs ≡ ys
same_bytes xs ys small little e =
    from_ok (decode_pairs 0 (encode_lower xs)) xs ys
    (decode_pairs-encode_with lower_digits IsDigits-lower_digits 0 xs small)
    (ap (decode_pairs 0) e ∙ decode_pairs-encode_with lower_digits IsDigits-lower_digits 0 ys little)

-- ---- decimal digits

-- no digit is a blank
no_blank : (n : ℕ) → n < 2 ^ 32 → Lacks 32 (decimal n)
no_blank n fits =
    decimal_by_steps (λ k ds. Lacks 32 ds)
    (λ k small. (λ e. omega arith, tt))
    (λ k ds large lacks. all_more (λ other. other ≢ 32) ds (48 + k % 10) lacks (λ e. omega arith))
    n (omega arith)

-- the list begins with something else than `#`
record BeginsOtherwise (xs : List ℕ) : Type 0 where
  first : ℕ
  rest : List ℕ
  is : xs ≡ first ∷ rest
  other : first ≢ 35

digits_begin : (n : ℕ) → n < 2 ^ 32 → BeginsOtherwise (decimal n)
digits_begin n fits =
    decimal_by_steps (λ k ds. BeginsOtherwise ds)
    (λ k small. record { first = 48 + k; rest = []; is = refl; other = λ e. omega arith })
    (λ k ds large begins. record {
      first = begins.first;
      rest = begins.rest ++ (48 + k % 10) ∷ [];
      is = ap (λ (l : List ℕ). l ++ (48 + k % 10) ∷ []) begins.is;
      other = begins.other;
    })
    n (omega arith)

same_number : (n m : ℕ) → n < 2 ^ 32 → m < 2 ^ 32 → decimal n ≡ decimal m → n ≡ m
same_number n m fits small e =
    sym (decimal_is_IsNumeral n (omega arith)).1 ∙ ap (digits_value 10) e ∙ (decimal_is_IsNumeral m (omega arith)).1

-- ---- lines

-- a line in its parts: what stands before the first blank, and behind it
pub spelled : (line : List ℕ) (key : SealKey) (h : IsKeyLine line key) → line ≡ decimal key.number ++ 32 ∷ (encode_lower key.bytes ++ h.ending)
spelled line key h = h.is ∙ append_assoc (decimal key.number) (32 ∷ encode_lower key.bytes) h.ending

-- a line without a blank is no key's
pub none-uncut : (line : List ℕ) → Lacks 32 line → IsNoKeyLine line
none-uncut line lacks key h =
    lacks_not 32 (decimal key.number) (encode_lower key.bytes ++ h.ending) (subst (Lacks 32) (spelled line key h) lacks)

-- the parts of a key's line
pub record HasParts (numeral rest : List ℕ) (key : SealKey) (ending : List ℕ) : Type 0 where
  pub numeral_is : numeral ≡ decimal key.number
  pub rest_is : rest ≡ encode_lower key.bytes ++ ending
  pub long : 64 ≤ length rest
  pub digits_are : take 64 rest ≡ encode_lower key.bytes
  pub ending_is : drop 64 rest ≡ ending

pub parts : (line numeral rest : List ℕ) → Lacks 32 numeral → line ≡ numeral ++ 32 ∷ rest → (key : SealKey) (h : IsKeyLine line key) → HasParts numeral rest key h.ending
parts line numeral rest lacks is key h =
    let digits = encode_lower key.bytes in
    let len : length digits ≡ 64 = digits_len key.bytes h.in_range.whole in
    let both = cut_once 32 numeral rest (decimal key.number) (digits ++ h.ending) lacks (no_blank key.number h.in_range.number_fits) (sym is ∙ spelled line key h) in
    let rest_is : rest ≡ digits ++ h.ending = both.1 in
    record {
      numeral_is = both.0;
      rest_is = rest_is;
      long = omega (arith, len, ap length rest_is, length-append digits h.ending);
      digits_are = ap (take 64) rest_is ∙ take_at digits h.ending 64 len;
      ending_is = ap (drop 64) rest_is ∙ drop_at digits h.ending 64 len;
    }

-- parts that make a key's line
pub key_line : (line numeral rest : List ℕ) (n : ℕ) (bytes : List ℕ) → line ≡ numeral ++ 32 ∷ rest → numeral ≡ decimal n → n < 2 ^ 32 → take 64 rest ≡ encode_lower bytes
    → length bytes ≡ 32 → IsBytes bytes → IsEnding (drop 64 rest) → IsKeyLine line (record { number = n; bytes = bytes })
key_line line numeral rest n bytes is numeral_is fits digits_are len small ends =
    let rest_is : rest ≡ encode_lower bytes ++ drop 64 rest = sym (take-append-drop 64 rest) ∙ ap (λ (t : List ℕ). t ++ drop 64 rest) digits_are in
    record {
      in_range = record { number_fits = fits; whole = len };
      are_bytes = small;
      ending = drop 64 rest;
      ends = ends;
      is = is ∙ ap (λ (t : List ℕ). t ++ 32 ∷ rest) numeral_is ∙ ap (λ (t : List ℕ). decimal n ++ 32 ∷ t) rest_is
          ∙ sym (append_assoc (decimal n) (32 ∷ encode_lower bytes) (drop 64 rest));
    }

same_key : (key other : SealKey) → key.number ≡ other.number → key.bytes ≡ other.bytes → key ≡ other
same_key key other numbers bytes = λ i. record { number = numbers i; bytes = bytes i }

-- a line has one key at most
pub one_key : (line : List ℕ) (key other : SealKey) → IsKeyLine line key → IsKeyLine line other → key ≡ other
one_key line key other h k =
    let p = parts line (decimal key.number) (encode_lower key.bytes ++ h.ending) (no_blank key.number h.in_range.number_fits) (spelled line key h) other k in
    let len : length (encode_lower key.bytes) ≡ 64 = digits_len key.bytes h.in_range.whole in
    let digits : encode_lower key.bytes ≡ encode_lower other.bytes = sym (take_at (encode_lower key.bytes) h.ending 64 len) ∙ p.digits_are in
    same_key key other
    (same_number key.number other.number h.in_range.number_fits k.in_range.number_fits p.numeral_is)
    (same_bytes key.bytes other.bytes h.are_bytes k.are_bytes digits)

-- a line that is skipped is no key's
pub no_key : (line : List ℕ) (key : SealKey) → IsSkipped line → IsKeyLine line key → ⊥
no_key line key skipped h =
    let begins = digits_begin key.number h.in_range.number_fits in
    let is : line ≡ begins.first ∷ (begins.rest ++ 32 ∷ (encode_lower key.bytes ++ h.ending)) =
    spelled line key h ∙ ap (λ (l : List ℕ). l ++ 32 ∷ (encode_lower key.bytes ++ h.ending)) begins.is in
    begins.other (subst IsSkipped is skipped)
