-- What one more read adds to those before it.
use Rattle.std.proofs.Common.{◌≡◌, ◌<◌, ◌+◌, ℕ, List, length, Option, None, Some, IfSome, inl, inr, arith, ap, length-append}
use Rattle.std.specs.Io.KnownBytes.{Consumes}
use Rattle.tt_stream.specs.Counts.{CountsOn, count_after}

-- one more call
pub CountsOn-more : (calls before mid after : ℕ) → CountsOn calls before mid → after ≡ count_after mid 1 → CountsOn (calls + 1) before after
CountsOn-more calls before mid after (inl rose) step = grind arith
CountsOn-more calls before mid after (inr stands) step = inr (omega arith)

-- more bytes were read than some number, so there were more
pub longer : (old mid new : Option (List ℕ)) (done piece : List ℕ) (n : ℕ) → Consumes old mid done → Consumes mid new piece → n < length done + length piece
    → IfSome old (λ all. n < length all)
longer None mid new done piece n first second more = tt
longer (Some xs) None new done piece n first second more = absurd first
longer (Some xs) (Some ys) None done piece n first second more = absurd second
longer (Some xs) (Some ys) (Some zs) done piece n first second more =
    omega (arith, ap length first, ap length second, length-append done ys, length-append piece zs)
