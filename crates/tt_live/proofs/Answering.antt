-- Replies that a session may give, by their lines.
use Rattle.std.proofs.Common.{◌≡◌, ◌⊎◌, ◌≤◌, ℕ, List, [], ◌∷◌, inl, inr, refl, subst, ap, arith, slice_index_or}
use Rattle.std.proofs.lemmas.List.Elements.{All-cons, All-nil}
use Rattle.std.specs.Prelude.{codes}
use Rattle.tt_span.specs.Time.{max_time}
use Rattle.tt_text.specs.Line.{line_of}
use Rattle.tt_text.specs.Reading.{AreNumbers, IsLineOf, IsNumber}
use Rattle.tt_session.specs.Requests.{spelling_of}
use Rattle.tt_session.specs.declared.requests.Request.TheVariants as asks
use Rattle.tt_session.specs.declared.replies.LineReply.TheVariants as says
use Rattle.tt_live.specs.Exchange.{IsPending}
use Rattle.tt_live.specs.Replies.{GivesAsked, IsReading, IsYesOrNo, IsQuestion, TellsOf, TellsOfAsked}

-- one number is a list that a line can hold, and so are two
pub AreNumbers-one : (n : ℕ) → IsNumber n → AreNumbers (n ∷ [])
AreNumbers-one n fits = (omega arith, All-cons IsNumber n [] fits (All-nil IsNumber))

pub AreNumbers-two : (m n : ℕ) → IsNumber m → IsNumber n → AreNumbers (m ∷ n ∷ [])
AreNumbers-two m n first second = (omega arith, All-cons IsNumber m (n ∷ []) first (All-cons IsNumber n [] second (All-nil IsNumber)))

-- the numbers of a line are in range
pub first_fits : (word line : List ℕ) (m : ℕ) (rest : List ℕ) → IsLineOf word line (m ∷ rest) → IsNumber m
first_fits word line m rest is = is.fits.1 0 0 (omega arith)

pub second_fits : (word line : List ℕ) (m n : ℕ) → IsLineOf word line (m ∷ n ∷ []) → IsNumber n
second_fits word line m n is = is.fits.1 1 0 (omega arith)

-- a line of two numbers has no others
pub same_first : (word line : List ℕ) (m n a b : ℕ) → IsLineOf word line (m ∷ n ∷ []) → IsNumber a → IsNumber b → line ≡ line_of word (a ∷ b ∷ []) → a ≡ m
same_first word line m n a b is p q e = ap (λ (xs : List ℕ). slice_index_or xs 0 0) (is.only (a ∷ b ∷ []) (AreNumbers-two a b p q) e)

pub same_second : (word line : List ℕ) (m n a b : ℕ) → IsLineOf word line (m ∷ n ∷ []) → IsNumber a → IsNumber b → line ≡ line_of word (a ∷ b ∷ []) → b ≡ n
same_second word line m n a b is p q e = ap (λ (xs : List ℕ). slice_index_or xs 1 0) (is.only (a ∷ b ∷ []) (AreNumbers-two a b p q) e)

-- nor has a line of one
pub same_only : (word line : List ℕ) (m a : ℕ) → IsLineOf word line (m ∷ []) → IsNumber a → line ≡ line_of word (a ∷ []) → a ≡ m
same_only word line m a is p e = ap (λ (xs : List ℕ). slice_index_or xs 0 0) (is.only (a ∷ []) (AreNumbers-one a p) e)

-- a reading is told by its ends
pub reading_of : (reply : List ℕ) (lo hi : ℕ) → IsLineOf (codes "now") reply (lo ∷ hi ∷ []) → (lo ≤ hi) × (hi ≤ max_time) → IsReading reply
reading_of reply lo hi is fits = (record { lo = lo; hi = hi }, record { ordered = fits.0; in_time = fits.1 }, is.is)

pub ends_of_reading : (reply : List ℕ) (lo hi : ℕ) → IsLineOf (codes "now") reply (lo ∷ hi ∷ []) → IsReading reply → (lo ≤ hi) × (hi ≤ max_time)
ends_of_reading reply lo hi is (reading, fits, told) =
    let ordered : reading.lo ≤ reading.hi = fits.ordered in
    let in_time : reading.hi ≤ max_time = fits.in_time in
    let low = same_first (codes "now") reply lo hi reading.lo reading.hi is (omega (arith, ordered, in_time)) (omega (arith, in_time)) told in
    let high = same_second (codes "now") reply lo hi reading.lo reading.hi is (omega (arith, ordered, in_time)) (omega (arith, in_time)) told in
    (omega (arith, ordered, low, high), omega (arith, in_time, high))

-- a reply tells of the commit that a line asks for just where it tells of the number there
pub told_of_asked : (line reply : List ℕ) (number floor : ℕ) → IsLineOf (codes "commit") line (number ∷ floor ∷ []) → TellsOf number reply → TellsOfAsked line reply
told_of_asked line reply number floor is tells =
    (number, floor, (first_fits (codes "commit") line number (floor ∷ []) is, second_fits (codes "commit") line number floor is), is.is, tells)

pub asked_of_told : (line reply : List ℕ) (number floor : ℕ) → IsLineOf (codes "commit") line (number ∷ floor ∷ []) → TellsOfAsked line reply → TellsOf number reply
asked_of_told line reply number floor is (named, low, fits, asked, tells) =
    subst (λ (n : ℕ). TellsOf n reply) (same_first (codes "commit") line number floor named low is fits.0 fits.1 asked) tells

-- what a reply gives that a line asks for, by what is asked
pub gives_reading : (line reply : List ℕ) → line ≡ spelling_of asks.Now → IsReading reply → GivesAsked line reply
gives_reading line reply asked (reading, fits, told) = (asks.Now, says.Now reading, tt, fits, asked, told, tt)

pub gives_yes_or_no : (line reply : List ℕ) → IsQuestion line → IsYesOrNo reply → GivesAsked line reply
gives_yes_or_no line reply (time, fits, inl asked) (inl told) = (asks.After time, says.Yes, fits, tt, asked, told, tt)
gives_yes_or_no line reply (time, fits, inl asked) (inr told) = (asks.After time, says.No, fits, tt, asked, told, tt)
gives_yes_or_no line reply (time, fits, inr asked) (inl told) = (asks.Before time, says.Yes, fits, tt, asked, told, tt)
gives_yes_or_no line reply (time, fits, inr asked) (inr told) = (asks.Before time, says.No, fits, tt, asked, told, tt)

pub gives_commit : (line reply : List ℕ) → TellsOfAsked line reply → GivesAsked line reply
gives_commit line reply (number, floor, fits, asked, (stamp, fits', inl told)) =
    (asks.Commit number floor, says.Committed number stamp, fits, (fits.0, fits'), asked, told, refl)
gives_commit line reply (number, floor, fits, asked, (stamp, fits', inr told)) =
    (asks.Commit number floor, says.Waiting number stamp, fits, (fits.0, fits'), asked, told, refl)

-- and nothing else is given
pub what_is_given : (line reply : List ℕ) → GivesAsked line reply
    → ((line ≡ spelling_of asks.Now) × IsReading reply) ⊎ ((IsQuestion line × IsYesOrNo reply) ⊎ TellsOfAsked line reply)
what_is_given line reply (asks.Now, says.Now reading, fits, fits', asked, told, suits) = inl (asked, (reading, fits', told))
what_is_given line reply (asks.After time, says.Yes, fits, fits', asked, told, suits) = inr (inl ((time, fits, inl asked), inl told))
what_is_given line reply (asks.After time, says.No, fits, fits', asked, told, suits) = inr (inl ((time, fits, inl asked), inr told))
what_is_given line reply (asks.Before time, says.Yes, fits, fits', asked, told, suits) = inr (inl ((time, fits, inr asked), inl told))
what_is_given line reply (asks.Before time, says.No, fits, fits', asked, told, suits) = inr (inl ((time, fits, inr asked), inr told))
what_is_given line reply (asks.Commit number floor, says.Committed named stamp, fits, fits', asked, told, suits) =
    inr (inr (number, floor, fits, asked, (stamp, fits'.1, inl (subst (λ (n : ℕ). reply ≡ line_of (codes "committed") (n ∷ stamp ∷ [])) suits told))))
what_is_given line reply (asks.Commit number floor, says.Waiting named stamp, fits, fits', asked, told, suits) =
    inr (inr (number, floor, fits, asked, (stamp, fits'.1, inr (subst (λ (n : ℕ). reply ≡ line_of (codes "waiting") (n ∷ stamp ∷ [])) suits told))))
what_is_given line reply (_, _, fits, fits', asked, told, suits) = absurd suits

pub only_commit : (line reply : List ℕ) → ((line ≡ spelling_of asks.Now) × IsReading reply → ⊥) → (IsQuestion line × IsYesOrNo reply → ⊥)
    → GivesAsked line reply → TellsOfAsked line reply
only_commit line reply no_now no_question gives = elim (what_is_given line reply gives) [
  | inl now ↦ absurd (no_now now)
  | inr (inl question) ↦ absurd (no_question question)
  | inr (inr commit) ↦ commit
]

-- a commit is pending just where the reply says so of the number in its line
pub pending_of : (line reply : List ℕ) (number floor : ℕ) → IsLineOf (codes "commit") line (number ∷ floor ∷ [])
    → (stamp : ℕ) × IsNumber stamp × (reply ≡ line_of (codes "waiting") (number ∷ stamp ∷ [])) → IsPending line reply
pending_of line reply number floor is (stamp, fits, told) = record {
  number = number;
  floor = floor;
  stamp = stamp;
  is_number = first_fits (codes "commit") line number (floor ∷ []) is;
  is_floor = second_fits (codes "commit") line number floor is;
  is_stamp = fits;
  asked = is.is;
  told = told;
}

pub named_of_pending : (line reply : List ℕ) (number floor : ℕ) → IsLineOf (codes "commit") line (number ∷ floor ∷ []) → IsPending line reply
    → (stamp : ℕ) × IsNumber stamp × (reply ≡ line_of (codes "waiting") (number ∷ stamp ∷ []))
named_of_pending line reply number floor is p = (
  p.stamp,
  p.is_stamp,
  subst (λ (n : ℕ). reply ≡ line_of (codes "waiting") (n ∷ p.stamp ∷ [])) (same_first (codes "commit") line number floor p.number p.floor is p.is_number p.is_floor p.asked) p.told,
)
