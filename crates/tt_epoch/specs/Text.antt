-- The text of an epoch file.
use Rattle.std.specs.Prelude.{ℕ, ◌<◌, ◌^◌, List, [], ◌∷◌, ◌++◌, codes}
use Rattle.std.specs.Fmt.{decimal}

-- a number that an epoch file can hold
abbrev pub IsEpoch : ℕ → Type 0
IsEpoch n = n < 2 ^ 64

-- what stands in front of the number: a name, and the version of the format
abbrev pub head : List ℕ
head = codes "tt-epoch 1 "

-- the one text of an epoch: the head, the decimal digits with no zero in front, and a line feed
abbrev pub text_of : ℕ → List ℕ
text_of epoch = head ++ (decimal epoch ++ 10 ∷ [])
