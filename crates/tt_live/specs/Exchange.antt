-- What a reply is, and what it means for whoever sent the line.
use Rattle.std.specs.Prelude.{◌≡◌, ◌≢◌, ◌<◌, ◌≤◌, ℕ, List, [], ◌∷◌, ◌++◌, length, take, All, codes}
use Rattle.tt_text.specs.Line.{line_of}
use Rattle.tt_text.specs.Reading.{IsNumber}

-- None of these bytes is a line feed.
abbrev pub HasNoEnd : List ℕ → Type 0
HasNoEnd bytes = All (λ byte. byte ≢ 10) bytes

-- A reply: bytes without a line feed, and then one, 128 at most.
pub record IsReply (reply : List ℕ) : Type 0 where
  pub front : List ℕ
  pub no_end : HasNoEnd front
  pub ended : reply ≡ front ++ 10 ∷ []
  pub short : length reply ≤ 128

-- What is still to come ends before a reply does: 128 bytes at most, and no line feed.
abbrev pub IsCutOff : List ℕ → Type 0
IsCutOff bytes = HasNoEnd bytes × (length bytes ≤ 128)

-- What is still to come is longer than a reply: the first 128 bytes have no line feed, and there are more.
abbrev pub IsTooLong : List ℕ → Type 0
IsTooLong bytes = HasNoEnd (take 128 bytes) × (128 < length bytes)

-- The reply that says that nothing is published yet.
abbrev pub nothing_yet : List ℕ
nothing_yet = codes "refused 801\n"

-- The line asks for a commit, and the reply says of that commit that it is not committed yet.
pub record IsPending (line reply : List ℕ) : Type 0 where
  pub number : ℕ
  pub floor : ℕ
  pub stamp : ℕ
  pub is_number : IsNumber number
  pub is_floor : IsNumber floor
  pub is_stamp : IsNumber stamp
  pub asked : line ≡ line_of (codes "commit") (number ∷ floor ∷ [])
  pub told : reply ≡ line_of (codes "waiting") (number ∷ stamp ∷ [])
