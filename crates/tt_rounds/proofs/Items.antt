-- The elements of a list at their places.
use Rattle.std.proofs.Common.{◌≡◌, ◌<◌, ℕ, List, length, get_or, All, sym, subst}
use Rattle.std.proofs.lemmas.List.Elements.{All-get_or}

-- what holds of all holds of one at its place
pub item-at : {A : Type 0} (Holds : A → Type 0) (xs : List A) (i : ℕ) (x : A) → x ≡ get_or xs i x → i < length xs → All Holds xs → Holds x
item-at Holds xs i x is within all = subst Holds (sym is) (All-get_or Holds xs i x within all)
