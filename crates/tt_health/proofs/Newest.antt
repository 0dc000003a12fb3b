-- The clock reading since which n sources have answered.
use Rattle.std.proofs.Common.{◌≡◌, ℕ, zero, suc, ◌+◌, ◌<◌, ◌≤◌, Bool, true, false, cond, max, min, length, take, List, [], ◌∷◌, Option, Some, None, inl, inr, refl, subst, ap, arith, ◌⊎◌}
use Rattle.std.specs.Prelude.{MatchOption, nat_le}
use Rattle.std.proofs.lemmas.Bool.{le-leb, lt-leb}
use Rattle.std.proofs.lemmas.List.Sums.{sum_by-cons}
use Rattle.std.proofs.lemmas.Grind.{common_steps}
use Rattle.std.proofs.lemmas.Bool.Decides.{nat_tests}
use Rattle.tt_health.specs.Answers.{IsNthNewest, TooFewAnswered, answered_since, has_answered_since, later_of, newest_among, nth_newest}
use Rattle.tt_health.specs.declared.answers.Answer.{Answer}

-- one of the answers came at this clock reading
abbrev pub Among : ℕ → List (Option Answer) → Type 0
Among m [] = ⊥
Among m (None ∷ some) = Among m some
Among m (Some answer ∷ some) = (m ≡ answer.received) ⊎ Among m some

-- each answer since a clock reading came at m or later
abbrev pub EachSince : ℕ → ℕ → List (Option Answer) → Type 0
EachSince m clock [] = Unit {0}
EachSince m clock (None ∷ some) = EachSince m clock some
EachSince m clock (Some answer ∷ some) = (clock ≤ answer.received → m ≤ answer.received) × EachSince m clock some

counted : (clock : ℕ) (last : Option Answer) (some : List (Option Answer)) → answered_since (last ∷ some) clock ≡ cond (has_answered_since clock last) 1 0 + answered_since some clock
counted clock last some = sum_by-cons (λ x. cond (has_answered_since clock x) 1 0) last some

counted_yes : (clock : ℕ) (answer : Answer) (some : List (Option Answer)) → clock ≤ answer.received → answered_since (Some answer ∷ some) clock ≡ answered_since some clock + 1
counted_yes clock answer some le =
    let one : ℕ = 1 in
    let e : cond (has_answered_since clock (Some answer)) one 0 ≡ one = ap (λ b. cond b one 0) (le-leb clock answer.received le) in
    omega (arith, counted clock (Some answer) some, e)

counted_no : (clock : ℕ) (answer : Answer) (some : List (Option Answer)) → answer.received < clock → answered_since (Some answer ∷ some) clock ≡ answered_since some clock
counted_no clock answer some lt =
    let none : ℕ = 0 in
    let e : cond (has_answered_since clock (Some answer)) 1 none ≡ none = ap (λ b. cond b 1 none) (lt-leb clock answer.received lt) in
    omega (arith, counted clock (Some answer) some, e)

counted_none : (clock : ℕ) (some : List (Option Answer)) → answered_since (None ∷ some) clock ≡ answered_since some clock
counted_none clock some = omega (arith, counted clock None some)

split : (a b : ℕ) → (a ≤ b) ⊎ (b < a)
split a b = grind arith

since_none : (m clock : ℕ) (some : List (Option Answer)) → answered_since some clock ≡ 0 → EachSince m clock some
since_none m clock [] none = tt
since_none m clock (None ∷ some) none = since_none m clock some (omega (arith, none, counted_none clock some))
since_none m clock (Some answer ∷ some) none =
    elim (split clock answer.received) [
      | inl le ↦ absurd (omega (arith, none, counted_yes clock answer some le))
      | inr lt ↦ (λ le. absurd (omega (arith, le, lt)), since_none m clock some (omega (arith, none, counted_no clock answer some lt)))
    ]

since_less : (l m clock : ℕ) (some : List (Option Answer)) → l ≤ m → EachSince m clock some → EachSince l clock some
since_less l m clock [] le each = tt
since_less l m clock (None ∷ some) le each = since_less l m clock some le each
since_less l m clock (Some answer ∷ some) le each = (λ since. let h : m ≤ answer.received = each.0 since in omega (arith, h, le), since_less l m clock some le each.1)

-- the first answer since a clock reading
pub record IsFirstSince (m clock : ℕ) (some : List (Option Answer)) : Type 0 where
  pub among : Among m some
  pub since : clock ≤ m
  pub each : EachSince m clock some

pub first_since : (clock : ℕ) (some : List (Option Answer)) → (answered_since some clock ≡ 0) ⊎ ((m : ℕ) × IsFirstSince m clock some)
first_since clock [] = inl refl
first_since clock (None ∷ some) =
    elim (first_since clock some) [
      | inl none ↦ inl (omega (arith, none, counted_none clock some))
      | inr first ↦ inr (first.0, record { among = first.1.among; since = first.1.since; each = first.1.each })
    ]
first_since clock (Some answer ∷ some) =
    elim (split clock answer.received) [
      | inr lt ↦ elim (first_since clock some) [
        | inl none ↦ inl (omega (arith, none, counted_no clock answer some lt))
        | inr first ↦ inr (first.0, record { among = inr first.1.among; since = first.1.since; each = (λ le. absurd (omega (arith, le, lt)), first.1.each) })
      ]
      | inl le ↦ elim (first_since clock some) [
        | inl none ↦ inr (answer.received, record { among = inl refl; since = le; each = (λ since. omega arith, since_none answer.received clock some none) })
        | inr first ↦ elim (split answer.received first.0) [
          | inl less ↦ inr (answer.received, record { among = inl refl; since = le; each = (λ since. omega arith, since_less answer.received first.0 clock some less first.1.each) })
          | inr more ↦ inr (first.0, record { among = inr first.1.among; since = first.1.since; each = (λ since. omega (arith, more), first.1.each) })
        ]
      ]
    ]

-- as many answers came since m as since the clock reading
pub counted_since : (m clock : ℕ) (some : List (Option Answer)) → EachSince m clock some → answered_since some clock ≤ answered_since some m
counted_since m clock [] each = omega arith
counted_since m clock (None ∷ some) each = omega (arith, counted_since m clock some each, counted_none clock some, counted_none m some)
counted_since m clock (Some answer ∷ some) each =
    elim (split clock answer.received) [
      | inl le ↦ omega (arith, counted_since m clock some each.1, counted_yes clock answer some le, counted_yes m answer some (each.0 le))
      | inr lt ↦ elim (split m answer.received) [
        | inl within ↦ omega (arith, counted_since m clock some each.1, counted_no clock answer some lt, counted_yes m answer some within)
        | inr before ↦ omega (arith, counted_since m clock some each.1, counted_no clock answer some lt, counted_no m answer some before)
      ]
    ]

-- what was found among some of the answers
abbrev Finds : List (Option Answer) → ℕ → List (Option Answer) → Option ℕ → Type 0
Finds answers n some found =
    MatchOption found ((m : ℕ) → Among m some → answered_since answers m < n)
    (λ r. (n ≤ answered_since answers r) × ((m : ℕ) → Among m some → n ≤ answered_since answers m → m ≤ r))

finds_none : (answers some : List (Option Answer)) (n : ℕ) (found : Option ℕ) → Finds answers n some found → Finds answers n (None ∷ some) found
finds_none answers some n None finds = finds
finds_none answers some n (Some r) finds = finds

finds_no : (answers some : List (Option Answer)) (answer : Answer) (n : ℕ) (found : Option ℕ) → answered_since answers answer.received < n → Finds answers n some found → Finds answers n (Some answer ∷ some) found
finds_no answers some answer n None few finds = λ m among. elim among [
  | inl is ↦ rw is few
  | inr among ↦ finds m among
]
finds_no answers some answer n (Some r) few finds = (
  finds.0,
  λ m among enough. elim among [
    | inl is ↦ let less : answered_since answers m < n = rw is few in absurd (omega (arith, less, enough))
    | inr among ↦ finds.1 m among enough
  ],
)

finds_yes : (answers some : List (Option Answer)) (answer : Answer) (n : ℕ) (found : Option ℕ) → n ≤ answered_since answers answer.received → Finds answers n some found → Finds answers n (Some answer ∷ some) (later_of answer.received found)
finds_yes answers some answer n None enough finds = (
  enough,
  λ m among many. elim among [
    | inl is ↦ omega (arith, is)
    | inr among ↦ absurd (omega (arith, many, finds m among))
  ],
)
finds_yes answers some answer n (Some r) enough finds =
    elim (split answer.received r) [
      | inl le ↦
          let same : max answer.received r ≡ r = omega (arith, le) in (
            rw same finds.0,
            λ m among many. elim among [
              | inl is ↦ omega (arith, is)
              | inr among ↦ let h : m ≤ r = finds.1 m among many in omega (arith, h)
            ],
          )
      | inr lt ↦
          let same : max answer.received r ≡ answer.received = omega (arith, lt) in (
            rw same enough,
            λ m among many. elim among [
              | inl is ↦ omega (arith, is)
              | inr among ↦ let h : m ≤ r = finds.1 m among many in omega (arith, h, lt)
            ],
          )
    ]

finds_by : (answers some : List (Option Answer)) (answer : Answer) (n : ℕ) (found : Option ℕ) (b : Bool) → nat_le n (answered_since answers answer.received) ≡ b → Finds answers n some found
    → Finds answers n (Some answer ∷ some) (cond b (later_of answer.received found) found)
finds_by answers some answer n found true is finds = finds_yes answers some answer n found (grind (arith, nat_tests)) finds
finds_by answers some answer n found false is finds = finds_no answers some answer n found (grind (arith, nat_tests)) finds

finds : (answers some : List (Option Answer)) (n : ℕ) → Finds answers n some (newest_among answers n some)
finds answers [] n = λ m among. absurd among
finds answers (None ∷ some) n = finds_none answers some n (newest_among answers n some) (finds answers some n)
finds answers (Some answer ∷ some) n = finds_by answers some answer n (newest_among answers n some) (nat_le n (answered_since answers answer.received)) refl (finds answers some n)

-- what was found among all answers is the n-th newest
found_is : (answers : List (Option Answer)) (n : ℕ) (found : Option ℕ) → 0 < n → Finds answers n answers found → MatchOption found (TooFewAnswered answers n) (λ clock. IsNthNewest answers n clock)
found_is answers n None positive finds =
    elim (first_since 0 answers) [
      | inl none ↦ inr (omega (arith, none, positive))
      | inr first ↦ inr (omega (arith, finds first.0 first.1.among, counted_since first.0 0 answers first.1.each))
    ]
found_is answers n (Some r) positive finds = record {
  enough = finds.0;
  greatest = λ other many. elim (first_since other answers) [
    | inl none ↦ absurd (omega (arith, none, many, positive))
    | inr first ↦
        let h : first.0 ≤ r = finds.1 first.0 first.1.among (omega (arith, many, counted_since first.0 other answers first.1.each)) in
        omega (arith, h, first.1.since)
  ];
}

pub found_among : (n : ℕ) (answers : List (Option Answer)) → ¬ (n ≡ 0) → newest_among answers n answers ≡ nth_newest answers n
found_among n answers positive = grind (arith, nat_tests)

pub nth_newest-is : (answers : List (Option Answer)) (n : ℕ) → MatchOption (nth_newest answers n) (TooFewAnswered answers n) (λ clock. IsNthNewest answers n clock)
nth_newest-is answers zero = inl refl
nth_newest-is answers (suc n) =
    subst (λ (r : Option ℕ). MatchOption r (TooFewAnswered answers (suc n)) (λ clock. IsNthNewest answers (suc n) clock)) (found_among (suc n) answers (omega arith))
    (found_is answers (suc n) (newest_among answers (suc n) answers) (omega arith) (finds answers answers (suc n)))

pub only_newest : (answers : List (Option Answer)) (n c d : ℕ) → IsNthNewest answers n c → IsNthNewest answers n d → c ≡ d
only_newest answers n c d first second =
    let up : c ≤ d = second.greatest c first.enough in
    let down : d ≤ c = first.greatest d second.enough in
    omega (arith, up, down)

-- the first answers of an array
pub taken_to : (answers : List (Option Answer)) (sources limit : ℕ) → length answers ≡ 16 → limit ≡ min sources 16 → take limit answers ≡ take sources answers
taken_to answers sources limit long is = grind (arith, common_steps)
