-- Numbers in decimal.
use Rattle.std.proofs.Common.{◌≡◌, ◌≢◌, ℕ, ◌^◌, ◌<◌, ◌≤◌, ◌&&◌, true, nat_eq, nat_le, ◌⊎◌, inl, inr, List, [], ◌∷◌, length, get_or, Option, Some, None, Result, Ok, Err, refl, sym, ap, subst, ◌∙◌, arith, le-leb}
use Rattle.std.specs.Char.{digit_value}
use Rattle.std.specs.Cmp.Lexicographic.{pointwise, bytes_decides}
use Rattle.std.specs.Fmt.{decimal}
use Rattle.std.specs.Str.Parse.{AllDigits, IsNumeral, digits_value, without_leading_plus, ParsesUnsigned}
use Rattle.std.proofs.lemmas.Bool.{cases_Bool, cases_order, ne_eqb, and_parts, leb-true}
use Rattle.std.proofs.lemmas.Fmt.{decimal_is_IsNumeral, parse-decimal, decimal_digit, first_decimal, decimal-digits_value}
use Rattle.std.proofs.lemmas.Str.Parse.{IsNumeralModel, numerals_by_value, tells_digits}
use Rattle.tt_settings.specs.Numeral.{number_of}

own : IsNumeralModel (AllDigits 10) (digits_value 10)
own = numerals_by_value (AllDigits 10) tells_digits

-- the digits of a number are read as that number
pub number_of-decimal : (most : ℕ) (digits : List ℕ) (n : ℕ) → most < 2 ^ 64 → n ≤ most → digits ≡ decimal n → number_of most digits ≡ Some n
number_of-decimal most digits n word fits is =
    let value : digits_value 10 digits ≡ n = ap (digits_value 10) is ∙ (decimal_is_IsNumeral n (omega arith)).1 in
    let same : pointwise nat_eq digits (decimal n) ≡ true = (bytes_decides digits (decimal n)).1 is in
    let small : nat_le n most ≡ true = le-leb n most fits in
    rw (value, same, small)

-- a number that is read is written by the digits
pub number_of-some : (most : ℕ) (digits : List ℕ) (n : ℕ) → number_of most digits ≡ Some n → (digits ≡ decimal n) × (n ≤ most)
number_of-some most digits n h =
    elim (cases_Bool (pointwise nat_eq digits (decimal (digits_value 10 digits)) && nat_le (digits_value 10 digits) most)) [
      | inl both ↦
          let parts = and_parts (pointwise nat_eq digits (decimal (digits_value 10 digits))) (nat_le (digits_value 10 digits) most) both in
          let value : digits_value 10 digits ≡ n = cc (rw both at h) in
          let same : digits ≡ decimal (digits_value 10 digits) = (bytes_decides digits (decimal (digits_value 10 digits))).0 parts.0 in
          let small : digits_value 10 digits ≤ most = leb-true (digits_value 10 digits) most parts.1 in
          (same ∙ ap decimal value, omega arith)
      | inr none ↦ absurd (cc (rw none at h))
    ]

-- no number is read where no number has these digits
pub number_of-none : (most : ℕ) (digits : List ℕ) → ((n : ℕ) → n ≤ most → digits ≡ decimal n → ⊥) → None ≡ number_of most digits
number_of-none most digits never = by (number_of most digits) refl
  where
    by : (found : Option ℕ) → number_of most digits ≡ found → None ≡ number_of most digits
    by None h = sym h
    by (Some n) h = let k = number_of-some most digits n h in absurd (never n k.1 k.0)

first_digit : (ds : List ℕ) → AllDigits 10 ds → 0 < length ds → digit_value (get_or ds 0 0) < 10
first_digit [] all some = absurd (omega arith)
first_digit (c ∷ cs) all some = all.0

-- decimal digits begin with no plus
not_decimal-plus : (most : ℕ) (ds : List ℕ) → most < 2 ^ 64 → get_or ds 0 0 ≡ 43 → (n : ℕ) → n ≤ most → ds ≡ decimal n → ⊥
not_decimal-plus most ds word plus n fits is =
    let k = decimal_is_IsNumeral n (omega arith) in
    let front : get_or (decimal n) 0 0 ≡ 43 = sym (ap (λ xs. get_or xs 0 0) is) ∙ plus in
    let digit : digit_value 43 < 10 = subst (λ (c : ℕ). digit_value c < 10) front (first_digit (decimal n) k.0.1 k.0.0) in
    omega arith

-- and with a zero only where it stands alone
not_decimal-zero : (most : ℕ) (ds : List ℕ) → most < 2 ^ 64 → get_or ds 0 0 ≡ 48 → 1 < length ds → (n : ℕ) → n ≤ most → ds ≡ decimal n → ⊥
not_decimal-zero most ds word first more n fits is =
    let front : get_or ds 0 0 ≡ get_or (decimal n) 0 0 = ap (λ xs. get_or xs 0 0) is in
    elim (cases_order 0 n) [
      | inl none ↦
          let small : n < 10 = omega (arith, none) in
          omega (arith, ap length is, ap length (decimal_digit n small))
      | inr other ↦ elim other [
        | inl some ↦ omega (arith, first_decimal n some (omega arith), front)
        | inr never ↦ absurd (omega arith)
      ]
    ]

no_plus : (ds : List ℕ) → get_or ds 0 0 ≢ 43 → without_leading_plus ds ≡ ds
no_plus ds other = rw (ne_eqb (get_or ds 0 0) 43 other)

plain : (most : ℕ) (ds : List ℕ) → most < 2 ^ 64 → IsNumeral 10 ds → digits_value 10 ds < 2 ^ 64 → (get_or ds 0 0 ≡ 48 → length ds ≤ 1) → digits_value 10 ds ≤ most → number_of most ds ≡ Some (digits_value 10 ds)
plain most ds word numeral fits lead small =
    number_of-decimal most ds (digits_value 10 ds) word small (sym (decimal-digits_value own ds numeral.1 numeral.0 (λ first. omega (arith, lead first, numeral.0)) fits))

-- what is parsed is the number that the digits write
pub number_of-parsed : {E : Type 0} (most : ℕ) (ds : List ℕ) (read : Result ℕ E) (v : ℕ) → most < 2 ^ 64 → get_or ds 0 0 ≢ 43 → (get_or ds 0 0 ≡ 48 → length ds ≤ 1) → ParsesUnsigned 64 10 ds read → read ≡ Ok v → v ≤ most → Some v ≡ number_of most ds
number_of-parsed most ds (Ok x) v word other lead parses is small =
    let bare = no_plus ds other in
    let told = subst (λ (l : List ℕ). (IsNumeral 10 l × (digits_value 10 l < 2 ^ 64)) × (x ≡ digits_value 10 l)) bare parses in
    let same : x ≡ v = cc in
    let value : digits_value 10 ds ≡ v = sym told.1 ∙ same in
    sym (plain most ds word told.0.0 told.0.1 lead (omega arith) ∙ ap (λ n. Some n) value)
number_of-parsed most ds (Err e) v word other lead parses is small = absurd (cc)

-- what is not parsed writes none
pub number_of-unparsed : {E : Type 0} (most : ℕ) (ds : List ℕ) (read : Result ℕ E) (e : E) → most < 2 ^ 64 → ParsesUnsigned 64 10 ds read → read ≡ Err e → None ≡ number_of most ds
number_of-unparsed most ds read e word parses is = number_of-none most ds (λ n fits same. absurd (cc (is, parse-decimal 64 n ds read (omega arith) (omega arith) same parses)))

-- what begins with a plus, or with a zero before other digits, is no number
pub number_of-other : (most : ℕ) (ds : List ℕ) → most < 2 ^ 64 → (get_or ds 0 0 ≡ 43) ⊎ ((get_or ds 0 0 ≡ 48) × (1 < length ds)) → None ≡ number_of most ds
number_of-other most ds word (inl plus) = number_of-none most ds (not_decimal-plus most ds word plus)
number_of-other most ds word (inr zero_first) = number_of-none most ds (not_decimal-zero most ds word zero_first.0 zero_first.1)
