-- Stretches between ends in ascending order.
use Rattle.std.specs.Prelude.{◌≡◌, ℕ, ◌+◌, ◌<◌, ◌≤◌, ◌⊎◌, nat_lt, List, length, count_by, All, Contains}
use Rattle.std.specs.List.Sorted.{IsNonDecreasing}
use Rattle.tt_span.specs.Time.{max_time}
use Rattle.tt_span.specs.Sources.{max_sources}
use Rattle.tt_cert.specs.declared.certificate.Stretch.{Stretch}
use Rattle.tt_cert.specs.Valid.{AreSideBySide}

-- how many of the ends lie before x
abbrev pub count_before : List ℕ → ℕ → ℕ
count_before ends x = count_by (λ end. nat_lt end x) ends

-- the lower and the upper ends of some spans, each in ascending order
pub record AreEnds (lows highs : List ℕ) : Type 0 where
  pub few_lows : length lows ≤ max_sources
  pub few_highs : length highs ≤ max_sources
  pub lows_ascend : IsNonDecreasing lows
  pub highs_ascend : IsNonDecreasing highs
  pub in_time : All (λ high. high ≤ max_time) highs
  pub begun_first : (x : ℕ) → count_before highs x ≤ count_before lows (x + 1)

-- t is a lower end, or comes just after an upper end
abbrev pub IsEndCut : List ℕ → List ℕ → ℕ → Type 0
IsEndCut lows highs t = Contains lows t ⊎ ((high : ℕ) × Contains highs high × (high + 1 ≡ t))

-- the stretch begins at start or at such a cut, no cut lies further on in it, and it names how many spans have begun at
-- its first time and not ended before it
pub record IsEndPiece (lows highs : List ℕ) (start : ℕ) (s : Stretch) : Type 0 where
  pub begins : (s.from ≡ start) ⊎ IsEndCut lows highs s.from
  pub uncut : (t : ℕ) → s.from < t → t ≤ s.to → IsEndCut lows highs t → ⊥
  pub named : s.depth + count_before highs s.from ≡ count_before lows (s.from + 1)

-- the stretches lie side by side from start up to stop - 1, cut at every such cut and nowhere else
pub record AreEndPieces (lows highs : List ℕ) (start stop : ℕ) (stretches : List Stretch) : Type 0 where
  pub side_by_side : AreSideBySide stretches start stop
  pub pieces : All (IsEndPiece lows highs start) stretches

-- next comes after from, no cut lies between them, and next is a cut or the end of the part
pub record IsNextCut (lows highs : List ℕ) (from stop next : ℕ) : Type 0 where
  pub later : from < next
  pub within : next ≤ stop
  pub uncut : (t : ℕ) → from < t → t < next → IsEndCut lows highs t → ⊥
  pub cut : (next ≡ stop) ⊎ IsEndCut lows highs next
