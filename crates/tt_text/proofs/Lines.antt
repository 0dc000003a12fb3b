-- Numbers behind a word, up to a line feed.
use Rattle.std.proofs.Common.{◌≡◌, ℕ, ◌<◌, ◌≤◌, List, [], ◌∷◌, ◌++◌, sym, ◌∙◌, ap, subst, refl, arith, append_assoc}
use Rattle.std.specs.Fmt.{decimal}
use Rattle.std.specs.List.{flat_map}
use Rattle.std.proofs.lemmas.List.{append_cancel_left}
use Rattle.std.proofs.lemmas.List.Elements.{All-nil, All-cons}
use Rattle.tt_span.specs.Time.{max_time}
use Rattle.tt_span.specs.Interval.{Interval, IsInterval}
use Rattle.tt_text.specs.Line.{space_and_number, numbers_text, ends_of}
use Rattle.tt_text.specs.Reading.{ReadsNothing, Reads, Anything, NoDigit, BeginsWith, IsNumber, AreNumbers}

-- lists with different heads are not the same
pub different-heads : (n m : ℕ) (a b : List ℕ) → n ∷ a ≡ m ∷ b → n < m → ⊥
different-heads n m a b e less =
    let heads : n ≡ m = cc in
    omega (arith, heads)

-- a line feed comes next
abbrev pub LineEnds : List ℕ → Type 0
LineEnds rest = BeginsWith (10 ∷ []) rest

-- what begins with a line feed does not begin with a space
pub no_space-at_end : (r : List ℕ) → LineEnds r → BeginsWith (32 ∷ []) r → ⊥
no_space-at_end r (a, e) (b, f) =
    different-heads 10 32 a b (sym e ∙ f) (omega arith)

pub begins-spaced : (n : ℕ) → BeginsWith (32 ∷ []) (space_and_number n)
begins-spaced n = (decimal n, refl)

-- neither a space nor a line feed is a digit
pub NoDigit-spaced : (numbers : List ℕ) (r : List ℕ) → LineEnds r → NoDigit (flat_map space_and_number numbers ++ r)
NoDigit-spaced [] r (a, e) = subst (λ (b : List ℕ). NoDigit b) (sym e) (omega arith)
NoDigit-spaced (n ∷ numbers) r h = omega arith

-- the numbers, and then the line feed
pub Reads-line_end : (bytes numbers rest end : List ℕ) → Reads (flat_map space_and_number) AreNumbers LineEnds bytes numbers rest → rest ≡ 10 ∷ end → Reads numbers_text AreNumbers Anything bytes numbers end
Reads-line_end bytes numbers rest end h is = record {
  fits = h.fits;
  follows = tt;
  is = h.is ∙ (ap (λ r. flat_map space_and_number numbers ++ r) is ∙ sym (append_assoc (flat_map space_and_number numbers) (10 ∷ []) end));
  only = λ w other fits follows is'.
      let both = h.only w (10 ∷ other) fits (other, refl) (is' ∙ append_assoc (flat_map space_and_number w) (10 ∷ []) other) in
      (both.0, append_cancel_left (10 ∷ []) other end (both.1 ∙ is));
}

pub ReadsNothing-line_end : (bytes : List ℕ) → ReadsNothing (flat_map space_and_number) AreNumbers LineEnds bytes → ReadsNothing numbers_text AreNumbers Anything bytes
ReadsNothing-line_end bytes none w other fits follows is =
    none w (10 ∷ other) fits (other, refl) (is ∙ append_assoc (flat_map space_and_number w) (10 ∷ []) other)

-- one number fits a line, and it is the only one that the line has
pub AreNumbers-alone : (n : ℕ) → IsNumber n → AreNumbers (n ∷ [])
AreNumbers-alone n fits = (omega arith, All-cons IsNumber n [] fits (All-nil IsNumber))

pub one-alone : (n m : ℕ) → n ∷ [] ≡ m ∷ [] → n ≡ m
one-alone n m e = cc

-- the two ends of a span fit a line, and no other span has them
pub AreNumbers-ends_of : (claim : Interval) → IsInterval claim → AreNumbers (ends_of claim)
AreNumbers-ends_of claim valid =
    let ordered : claim.lo ≤ claim.hi = valid.ordered in
    let in_time : claim.hi ≤ max_time = valid.in_time in
    (omega arith, All-cons IsNumber claim.lo (claim.hi ∷ []) (omega arith) (All-cons IsNumber claim.hi [] (omega arith) (All-nil IsNumber)))

pub one-ends_of : (a b : Interval) → ends_of a ≡ ends_of b → a ≡ b
one-ends_of a b e =
    let lo_same : a.lo ≡ b.lo = cc in
    let hi_same : a.hi ≡ b.hi = cc in
    let from_ends : ℕ → ℕ → Interval = λ lo hi. record { lo = lo; hi = hi } in
    ap (λ lo. from_ends lo a.hi) lo_same ∙ ap (λ hi. from_ends b.lo hi) hi_same
