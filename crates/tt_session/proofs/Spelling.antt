-- No two requests have one spelling.
use Rattle.std.proofs.Common.{◌≡◌, ◌≢◌, ℕ, ◌≤◌, List, [], ◌∷◌, ◌++◌, length, drop, get_or, refl, sym, ap, ◌∙◌, subst, arith, lit≤, append_assoc, add-zero}
use Rattle.std.specs.Char.{digit_value}
use Rattle.std.specs.Fmt.{decimal}
use Rattle.std.proofs.lemmas.List.{take_at, drop_at, get_or-append-add, append_cancel_left}
use Rattle.tt_text.specs.Line.{numbers_text}
use Rattle.tt_text.specs.Reading.{IsNumber, NoDigit}
use Rattle.tt_text.proofs.Digits.{Reads-digits}
use Rattle.tt_session.specs.Requests.{IsRequest, spelling_of, after_word, before_word, commit_word, lease_word}
use Rattle.tt_session.specs.declared.requests.Request.{Request}
use Rattle.tt_session.specs.declared.requests.Request.TheVariants.{Now, After, Before, Commit, Lease}

-- a number with no digit behind it is read in one way
decimal-only : (m n : ℕ) (xs ys : List ℕ) → IsNumber m → IsNumber n → NoDigit xs → NoDigit ys → decimal m ++ xs ≡ decimal n ++ ys → (n ≡ m) × (ys ≡ xs)
decimal-only m n xs ys first second after behind is =
    let bytes = decimal m ++ xs in
    let len = length (decimal m) in
    let next : get_or bytes len 0 ≡ get_or xs 0 0 = ap (λ k. get_or bytes k 0) (sym (add-zero len)) ∙ get_or-append-add (decimal m) xs 0 0 in
    let stops : 10 ≤ digit_value (get_or bytes len 0) = subst (λ b. 10 ≤ digit_value b) (sym next) after in
    let reads = Reads-digits bytes len m first (take_at (decimal m) xs len refl) stops in
    let only = reads.only n ys second behind is in
    (only.0, only.1 ∙ drop_at (decimal m) xs len refl)

-- neither a line feed nor a space is a digit
no_digit-end : NoDigit (10 ∷ [])
no_digit-end = lit≤ tt

no_digit-space : (rest : List ℕ) → NoDigit (32 ∷ rest)
no_digit-space rest = lit≤ tt

-- one number behind a word
one_number : (m n : ℕ) → IsNumber m → IsNumber n → numbers_text (m ∷ []) ≡ numbers_text (n ∷ []) → n ≡ m
one_number m n first second is =
    let same : decimal m ++ 10 ∷ [] ≡ decimal n ++ 10 ∷ [] = sym (append_assoc (decimal m) [] (10 ∷ [])) ∙ ap (drop 1) is ∙ append_assoc (decimal n) [] (10 ∷ []) in
    (decimal-only m n (10 ∷ []) (10 ∷ []) first second no_digit-end no_digit-end same).0

-- two numbers behind a word
two_numbers : (m k n l : ℕ) → IsNumber m → IsNumber k → IsNumber n → IsNumber l → numbers_text (m ∷ k ∷ []) ≡ numbers_text (n ∷ l ∷ []) → (n ≡ m) × (l ≡ k)
two_numbers m k n l first second third fourth is =
    let behind : ℕ → List ℕ = λ x. numbers_text (x ∷ []) in
    let same : decimal m ++ behind k ≡ decimal n ++ behind l =
    sym (append_assoc (decimal m) (32 ∷ (decimal k ++ [])) (10 ∷ [])) ∙ ap (drop 1) is ∙ append_assoc (decimal n) (32 ∷ (decimal l ++ [])) (10 ∷ []) in
    let both = decimal-only m n (behind k) (behind l) first third (no_digit-space (decimal k ++ [] ++ 10 ∷ [])) (no_digit-space (decimal l ++ [] ++ 10 ∷ [])) same in
    (both.0, one_number k l second fourth (sym both.1))

-- two spellings that begin with different bytes
apart : (a b : ℕ) (xs ys : List ℕ) → a ≢ b → a ∷ xs ≡ b ∷ ys → ⊥
apart a b xs ys other is = other (ap (λ l. get_or l 0 0) is)

-- no two requests have one spelling
pub one_request : (a b : Request) → IsRequest a → IsRequest b → spelling_of a ≡ spelling_of b → a ≡ b
one_request Now Now first second is = refl
one_request Now (After t) first second is = absurd (apart 110 97 _ _ (λ e. omega arith) is)
one_request Now (Before t) first second is = absurd (apart 110 98 _ _ (λ e. omega arith) is)
one_request Now (Commit n l) first second is = absurd (apart 110 99 _ _ (λ e. omega arith) is)
one_request Now (Lease n l) first second is = absurd (apart 110 108 _ _ (λ e. omega arith) is)
one_request (After t) Now first second is = absurd (apart 97 110 _ _ (λ e. omega arith) is)
one_request (After s) (After t) first second is = ap After (sym (one_number s t first second (append_cancel_left after_word _ _ is)))
one_request (After s) (Before t) first second is = absurd (apart 97 98 _ _ (λ e. omega arith) is)
one_request (After s) (Commit n l) first second is = absurd (apart 97 99 _ _ (λ e. omega arith) is)
one_request (After s) (Lease n l) first second is = absurd (apart 97 108 _ _ (λ e. omega arith) is)
one_request (Before t) Now first second is = absurd (apart 98 110 _ _ (λ e. omega arith) is)
one_request (Before s) (After t) first second is = absurd (apart 98 97 _ _ (λ e. omega arith) is)
one_request (Before s) (Before t) first second is = ap Before (sym (one_number s t first second (append_cancel_left before_word _ _ is)))
one_request (Before s) (Commit n l) first second is = absurd (apart 98 99 _ _ (λ e. omega arith) is)
one_request (Before s) (Lease n l) first second is = absurd (apart 98 108 _ _ (λ e. omega arith) is)
one_request (Commit m k) Now first second is = absurd (apart 99 110 _ _ (λ e. omega arith) is)
one_request (Commit m k) (After t) first second is = absurd (apart 99 97 _ _ (λ e. omega arith) is)
one_request (Commit m k) (Before t) first second is = absurd (apart 99 98 _ _ (λ e. omega arith) is)
one_request (Commit m k) (Commit n l) first second is =
    let same = two_numbers m k n l first.0 first.1 second.0 second.1 (append_cancel_left commit_word _ _ is) in
    let number = same.0 in
    let floor = same.1 in
    cc
one_request (Commit m k) (Lease n l) first second is = absurd (apart 99 108 _ _ (λ e. omega arith) is)
one_request (Lease m k) Now first second is = absurd (apart 108 110 _ _ (λ e. omega arith) is)
one_request (Lease m k) (After t) first second is = absurd (apart 108 97 _ _ (λ e. omega arith) is)
one_request (Lease m k) (Before t) first second is = absurd (apart 108 98 _ _ (λ e. omega arith) is)
one_request (Lease m k) (Commit n l) first second is = absurd (apart 108 99 _ _ (λ e. omega arith) is)
one_request (Lease m k) (Lease n l) first second is =
    let same = two_numbers m k n l first.0 first.1 second.0 second.1 (append_cancel_left lease_word _ _ is) in
    let low = same.0 in
    let high = same.1 in
    cc
