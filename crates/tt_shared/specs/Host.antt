-- What the kernel says of the clock of a process, in `/proc/self/timens_offsets`.
use Rattle.std.specs.Prelude.{ℕ, List, [], ◌∷◌, ◌==◌, Bool, if◌then◌else◌, nat_eq, length, take, drop, Option, Some, None, is_some}
use Rattle.std.specs.Option.{option_and_then}
use Rattle.std.specs.Cmp.Lexicographic.{pointwise}

-- the bytes behind this text, if they begin with it
abbrev pub after_text : List ℕ → List ℕ → Option (List ℕ)
after_text text bytes = if pointwise nat_eq (take (length text) bytes) text then Some (drop (length text) bytes) else None

-- the bytes behind the spaces at the front
abbrev pub after_spaces : List ℕ → List ℕ
after_spaces [] = []
after_spaces (b ∷ bs) = if b == 32 then after_spaces bs else (b ∷ bs)

-- the bytes behind a space, more spaces or none, and the digit 0, if they begin so
abbrev pub after_zero : List ℕ → Option (List ℕ)
after_zero bytes = option_and_then (λ rest. after_text (48 ∷ []) (after_spaces rest)) (after_text (32 ∷ []) bytes)

-- the first line is `monotonic`, and two zeros, each behind a space or more: the monotonic clock of the process is that of the host
abbrev pub is_host_clock : List ℕ → Bool
is_host_clock text =
    is_some (option_and_then (after_text (10 ∷ [])) (option_and_then after_zero (option_and_then after_zero
    (after_text (109 ∷ 111 ∷ 110 ∷ 111 ∷ 116 ∷ 111 ∷ 110 ∷ 105 ∷ 99 ∷ []) text))))
