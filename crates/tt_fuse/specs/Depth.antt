-- In how many spans a time lies, and the fusion found by trying each end of each span.
use Rattle.std.specs.Prelude.{ℕ, ◌-◌, Bool, ◌&&◌, nat_le, List, [], ◌∷◌, map, filter, count_by, length, min, max, Option, Some, None}
use Rattle.tt_span.specs.Interval.{Interval}

-- whether the span holds x
abbrev pub holds : ℕ → Interval → Bool
holds x span = nat_le span.lo x && nat_le x span.hi

-- how many of the spans hold x
abbrev pub depth : List Interval → ℕ → ℕ
depth spans x = count_by (holds x) spans

-- whether x lies in all of the spans but f, or in more
abbrev pub is_deep : List Interval → ℕ → ℕ → Bool
is_deep spans f x = nat_le (length spans - f) (depth spans x)

-- the lesser of a number and another that may be there
abbrev pub lesser_of : ℕ → Option ℕ → Option ℕ
lesser_of x None = Some x
lesser_of x (Some y) = Some (min x y)

-- the greater of a number and another that may be there
abbrev pub greater_of : ℕ → Option ℕ → Option ℕ
greater_of x None = Some x
greater_of x (Some y) = Some (max x y)

-- the least of the numbers, if there are any
abbrev pub least_of : List ℕ → Option ℕ
least_of [] = None
least_of (x ∷ xs) = lesser_of x (least_of xs)

-- the greatest of the numbers, if there are any
abbrev pub greatest_of : List ℕ → Option ℕ
greatest_of [] = None
greatest_of (x ∷ xs) = greater_of x (greatest_of xs)

-- the lower ends of the spans
abbrev pub lower_ends : List Interval → List ℕ
lower_ends spans = map (λ span. span.lo) spans

-- the upper ends of the spans
abbrev pub upper_ends : List Interval → List ℕ
upper_ends spans = map (λ span. span.hi) spans

-- the interval between two ends, if both are there
abbrev pub between : Option ℕ → Option ℕ → Option Interval
between None hi = None
between (Some lo) None = None
between (Some lo) (Some hi) = Some (record { lo = lo; hi = hi })

-- the fusion, slowly: from the least lower end that is deep enough to the greatest upper end that is
abbrev pub slow_fusion : List Interval → ℕ → Option Interval
slow_fusion spans f =
    between (least_of (filter (is_deep spans f) (lower_ends spans))) (greatest_of (filter (is_deep spans f) (upper_ends spans)))
