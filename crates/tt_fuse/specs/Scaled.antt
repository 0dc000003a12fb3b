-- Scaled keys: the ends of statements, so that ageing does not change their order. They count millionths of a nanosecond.
use Rattle.std.specs.Prelude.{◌≡◌, ℕ, suc, ℤ, pos, negsuc, ◌+◌, ◌-◌, ◌*◌, ◌/◌, ◌≤◌, ◌+ℤ◌, ◌-ℤ◌, ◌≤ℤ◌, Bool, List, [], ◌∷◌, map, slice_index_or, Option, Some, None, count_by, All}
use Rattle.std.specs.List.Sorted.{IsNonDecreasingBy}
use Rattle.tt_span.specs.Time.{cut}
use Rattle.tt_span.specs.Statement.{Statement}
use Rattle.tt_fuse.specs.Stated.{Stated, IsStated}

-- how far keys go down at most, and up: the greatest drift and the greatest time, in millionths of a nanosecond
abbrev pub key_bound : ℕ
key_bound = 4400000000000000000000000

-- a key as a number, counted from the least
abbrev pub key_number : ℤ → ℕ
key_number (pos n) = n + key_bound
key_number (negsuc n) = key_bound - (n + 1)

-- a key of some statement lies between these
abbrev pub IsKey : ℤ → Type 0
IsKey key = (pos 0 ≤ℤ (key +ℤ pos key_bound)) × (key ≤ℤ pos key_bound)

-- keys in ascending order
pub record AreSortedKeys (keys : List ℤ) : Type 0 where
  pub in_range : All IsKey keys
  pub ascend : IsNonDecreasingBy key_number keys

-- the key of a lower end that was received at a clock reading: the end less what the slowest clock has gone on by until then
unfoldable pub low_key_of : ℕ → ℕ → ℕ → ℤ
low_key_of ppm lo got = pos (lo * 1000000) -ℤ pos (got * (1000000 - ppm))

-- the key of an upper end that was asked for at a clock reading: the end less what the fastest clock has gone on by until then
unfoldable pub high_key_of : ℕ → ℕ → ℕ → ℤ
high_key_of ppm hi sent = pos (hi * 1000000) -ℤ pos (sent * (1000000 + ppm))

-- the lower end of a key at a clock reading, in nanoseconds: rounded down, and cut at the greatest time
unfoldable pub low_end_of : ℕ → ℕ → ℤ → ℕ
low_end_of ppm clock key = cut ((key_number key + clock * (1000000 - ppm) - key_bound) / 1000000)

-- the upper end of a key at a clock reading, in nanoseconds: rounded up, and cut at the greatest time
unfoldable pub high_end_of : ℕ → ℕ → ℤ → ℕ
high_end_of ppm clock key = cut ((key_number key + clock * (1000000 + ppm) - key_bound + 999999) / 1000000)

-- at a clock reading, the lower end of the k-th start is not above the upper end of the k-th end, both by their keys
abbrev pub AreOrderedAt : ℕ → ℕ → List ℤ → List ℤ → ℕ → Type 0
AreOrderedAt ppm clock starts ends k = low_end_of ppm clock (slice_index_or starts k (pos 0)) ≤ high_end_of ppm clock (slice_index_or ends k (pos 0))

-- the keys, without the sources beside them
abbrev pub keys_in : List (ℤ × ℕ) → List ℤ
keys_in entries = map (λ entry. entry.0) entries

-- the sources, without their keys
abbrev pub sources_in : List (ℤ × ℕ) → List ℕ
sources_in entries = map (λ entry. entry.1) entries

-- the key of each statement beside its source, where the first place is that of source i
abbrev pub keys_from : (Statement → ℤ) → ℕ → List (Option Statement) → List (ℤ × ℕ)
keys_from key_of i [] = []
keys_from key_of i (None ∷ statements) = keys_from key_of (suc i) statements
keys_from key_of i (Some statement ∷ statements) = (key_of statement, i) ∷ keys_from key_of (suc i) statements

-- these are the keys of the statements, each beside its source and as often as it stands: as many of either pass any test
pub record AreKeysOf (s : Stated) (lows highs : List (ℤ × ℕ)) : Type 0 where
  pub stated : IsStated s
  pub low_keys : (p : ℤ × ℕ → Bool) → count_by p lows ≡ count_by p (keys_from (λ statement. low_key_of s.drift statement.span.lo statement.got) 0 s.statements)
  pub high_keys : (p : ℤ × ℕ → Bool) → count_by p highs ≡ count_by p (keys_from (λ statement. high_key_of s.drift statement.span.hi statement.sent) 0 s.statements)
