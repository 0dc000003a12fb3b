-- The numbers below a bound for which a test holds.
use Rattle.std.proofs.Common.{◌≡◌, ℕ, zero, suc, ◌+◌, Bool, true, false, cond, [], ◌∷◌, ◌++◌, arith, ap, ◌∙◌, append-nil}
use Rattle.std.specs.List.{filter, range_with_len}
use Rattle.std.proofs.lemmas.List.Elements.{filter-append}
use Rattle.tt_telemetry.specs.Records.{numbers_where}

range-more : (a n j : ℕ) → a + n ≡ j → range_with_len a (suc n) ≡ range_with_len a n ++ j ∷ []
range-more a zero j e = let same : a ≡ j = omega arith in ap (λ k. k ∷ []) same
range-more a (suc n) j e = ap (λ l. a ∷ l) (range-more (a + 1) n j (omega arith))

numbers-more : (test : ℕ → Bool) (n : ℕ) → numbers_where test (n + 1) ≡ numbers_where test n ++ cond (test n) (n ∷ []) []
numbers-more test n =
    let on : n + 1 ≡ suc n = omega arith in
    ap (λ (m : ℕ). filter test (range_with_len 0 m)) on ∙ ap (filter test) (range-more 0 n n (omega arith)) ∙ filter-append test (range_with_len 0 n) (n ∷ [])

-- one more number for which it holds
pub numbers-yes : (test : ℕ → Bool) (n : ℕ) → test n ≡ true → numbers_where test (n + 1) ≡ numbers_where test n ++ n ∷ []
numbers-yes test n so = numbers-more test n ∙ ap (λ (b : Bool). numbers_where test n ++ cond b (n ∷ []) []) so

-- one more number for which it does not hold
pub numbers-no : (test : ℕ → Bool) (n : ℕ) → test n ≡ false → numbers_where test (n + 1) ≡ numbers_where test n
numbers-no test n not = numbers-more test n ∙ ap (λ (b : Bool). numbers_where test n ++ cond b (n ∷ []) []) not ∙ append-nil (numbers_where test n)
