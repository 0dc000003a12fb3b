-- Decimal digits at the front of bytes.
use Rattle.std.proofs.Common.{◌≡◌, ℕ, cond, ◌+◌, ◌-◌, ◌*◌, ◌^◌, ◌<◌, ◌≤◌, inl, inr, List, [], ◌∷◌, ◌++◌, length, get_or, take, drop, sym, ◌∙◌, ap, subst, refl, arith, get_or-drop}
use Rattle.std.specs.Char.{digit_value}
use Rattle.std.specs.Fmt.{decimal}
use Rattle.std.specs.Str.Parse.{AllDigits, digits_value}
use Rattle.std.specs.Prelude.{nat_lt}
use Rattle.std.proofs.lemmas.Bool.{cases_order, cond-false, cond-true, le-ltb, lt-ltb}
use Rattle.std.proofs.lemmas.Fmt.{decimal_is_IsNumeral, decimal_injective, first_decimal, decimal_digit, decimal-digits_value}
use Rattle.std.proofs.lemmas.Int.Digits.{digits_value_more}
use Rattle.std.proofs.lemmas.List.{take-append-drop}
use Rattle.std.proofs.lemmas.Str.Parse.{IsNumeralModel, numerals_by_value, tells_digits, digits_value-take-le}
use Rattle.tt_text.specs.Reading.{ReadsNothing, Reads, NoDigit, IsNumber}

no_both : (v : ℕ) → 10 ≤ v → v < 10 → ⊥
no_both v more less = omega arith

-- digits end where something else begins
digits-append : (a b x y : List ℕ) → AllDigits 10 a → AllDigits 10 b → NoDigit x → NoDigit y → a ++ x ≡ b ++ y → (a ≡ b) × (x ≡ y)
digits-append [] [] x y all_a all_b no_x no_y e = (refl, e)
digits-append [] (c ∷ b) x y all_a all_b no_x no_y e =
    absurd (no_both (digit_value c) (subst (λ (l : List ℕ). 10 ≤ digit_value (get_or l 0 0)) e no_x) all_b.0)
digits-append (c ∷ a) [] x y all_a all_b no_x no_y e =
    absurd (no_both (digit_value c) (subst (λ (l : List ℕ). 10 ≤ digit_value (get_or l 0 0)) (sym e) no_y) all_a.0)
digits-append (c ∷ a) (d ∷ b) x y all_a all_b no_x no_y e =
    let heads : c ≡ d = cc in
    let tails : a ++ x ≡ b ++ y = cc in
    let rest : (a ≡ b) × (x ≡ y) = digits-append a b x y all_a.1 all_b.1 no_x no_y tails in
    (ap (λ h. h ∷ a) heads ∙ ap (λ t. d ∷ t) rest.0, rest.1)

all_digits-decimal : (n : ℕ) → IsNumber n → AllDigits 10 (decimal n)
all_digits-decimal n fits = (decimal_is_IsNumeral n fits).0.1

NoDigit-drop : (bytes : List ℕ) (len : ℕ) → 10 ≤ digit_value (get_or bytes len 0) → NoDigit (drop len bytes)
NoDigit-drop bytes len h =
    let here : len + 0 ≡ len = omega arith in
    subst (λ (c : ℕ). 10 ≤ digit_value c) (sym (get_or-drop len bytes 0 0 ∙ ap (λ i. get_or bytes i 0) here)) h

-- the digits at the front are the number there
pub Reads-digits : (bytes : List ℕ) (len n : ℕ) → IsNumber n → take len bytes ≡ decimal n → 10 ≤ digit_value (get_or bytes len 0) → Reads decimal IsNumber NoDigit bytes n (drop len bytes)
Reads-digits bytes len n fits same last =
    let whole : bytes ≡ decimal n ++ drop len bytes = sym (take-append-drop len bytes) ∙ ap (λ front. front ++ drop len bytes) same in
    record {
      fits = fits;
      follows = NoDigit-drop bytes len last;
      is = whole;
      only = λ w other fits' follows' is'.
          let both = digits-append (decimal w) (decimal n) other (drop len bytes) (all_digits-decimal w fits') (all_digits-decimal n fits) follows' (NoDigit-drop bytes len last) (sym is' ∙ whole) in
          (decimal_injective w n fits' fits both.0, both.1);
    }

-- where they spell no number, none is there
pub ReadsNothing-digits : (bytes : List ℕ) (len : ℕ) → AllDigits 10 (take len bytes) → 10 ≤ digit_value (get_or bytes len 0) → ((n : ℕ) → IsNumber n → take len bytes ≡ decimal n → ⊥) → ReadsNothing decimal IsNumber NoDigit bytes
ReadsNothing-digits bytes len all last none w other fits follows is =
    none w fits (digits-append (take len bytes) (decimal w) (drop len bytes) other all (all_digits-decimal w fits) (NoDigit-drop bytes len last) follows (take-append-drop len bytes ∙ is)).0

own : IsNumeralModel (AllDigits 10) (digits_value 10)
own = numerals_by_value (AllDigits 10) tells_digits

pub not_decimal-empty : (ds : List ℕ) (n : ℕ) → length ds ≡ 0 → IsNumber n → ds ≡ decimal n → ⊥
not_decimal-empty ds n none fits is =
    let some : 0 < length (decimal n) = (decimal_is_IsNumeral n fits).0.0 in
    omega (arith, some, ap length is)

pub not_decimal-zero : (ds : List ℕ) (n : ℕ) → get_or ds 0 0 ≡ 48 → 1 < length ds → IsNumber n → ds ≡ decimal n → ⊥
not_decimal-zero ds n first more fits is =
    let front : get_or ds 0 0 ≡ get_or (decimal n) 0 0 = ap (λ xs. get_or xs 0 0) is in
    elim (cases_order 0 n) [
      | inl none ↦
          let small : n < 10 = omega (arith, none) in
          omega (arith, ap length is, ap length (decimal_digit n small))
      | inr other ↦ elim other [
        | inl some ↦ omega (arith, first_decimal n some fits, front)
        | inr never ↦ absurd (omega arith)
      ]
    ]

-- more digits never make the value less
pub not_decimal-large : (ds : List ℕ) (n i v : ℕ) → i < length ds → v ≡ digits_value 10 (take i ds) → 2 ^ 64 ≤ v * 10 + digit_value (get_or ds i 0) → IsNumber n → ds ≡ decimal n → ⊥
not_decimal-large ds n i v inside so_far large fits is =
    let here : digits_value 10 (take (i + 1) ds) ≡ digits_value 10 (take i ds) * 10 + digit_value (get_or ds i 0) = digits_value_more 10 ds i inside in
    let le : digits_value 10 (take (i + 1) ds) ≤ digits_value 10 ds = digits_value-take-le 10 ds (i + 1) (omega arith) in
    let value : digits_value 10 ds ≡ n = ap (digits_value 10) is ∙ (decimal_is_IsNumeral n fits).1 in
    compare (digits_value 10 (take i ds)) v (digit_value (get_or ds i 0)) (digits_value 10 (take (i + 1) ds)) (digits_value 10 ds) so_far here large le value fits
  where
    compare : (w v d m t : ℕ) → v ≡ w → m ≡ w * 10 + d → 2 ^ 64 ≤ v * 10 + d → m ≤ t → t ≡ n → n < 2 ^ 64 → ⊥
    compare w v d m t a b c e f g = omega arith

pub decimal-whole : (ds : List ℕ) (v : ℕ) → AllDigits 10 ds → 0 < length ds → (get_or ds 0 0 ≡ 48 → length ds ≤ 1) → v ≡ digits_value 10 (take (length ds) ds) → take (length ds) ds ≡ ds → v < 2 ^ 64 → ds ≡ decimal v
decimal-whole ds v all some one_zero is whole fits =
    let same : v ≡ digits_value 10 ds = is ∙ ap (digits_value 10) whole in
    sym (ap decimal same ∙ decimal-digits_value own ds all some (λ first. omega (arith, one_zero first)) (subst (λ (n : ℕ). n < 2 ^ 64) same fits))

-- the value of a decimal digit
pub digit_value-digit : (c : ℕ) → 48 ≤ c → c ≤ 57 → digit_value c ≡ c - 48
digit_value-digit c low high =
    let rest : ℕ = cond (nat_lt c 65) 36 (cond (nat_lt c 91) (c - 55) (cond (nat_lt c 97) 36 (cond (nat_lt c 123) (c - 87) 36))) in
    cond-false (nat_lt c 48) 36 (cond (nat_lt c 58) (c - 48) rest) (le-ltb c 48 low) ∙ cond-true (nat_lt c 58) (c - 48) rest (lt-ltb c 58 (omega arith))
