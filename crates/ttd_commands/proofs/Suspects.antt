-- The line that names the suspects.
use Rattle.std.proofs.Common.{◌≡◌, ℕ, List, [], ◌∷◌, length, Result, Ok, Err, refl, arith}
use Rattle.std.specs.Prelude.{◌++◌, OnOk, codes, if◌then◌else◌}
use Rattle.std.specs.Result.{is_ok}
use Rattle.tt_text.specs.Line.{line_of}
use Rattle.ttd_commands.specs.Fuse.{suspects_line, suspects_word}

-- the line of suspects, where there are none, and where there are some
pub suspects_line-none : (xs : List ℕ) → length xs ≡ 0 → suspects_line xs ≡ codes "suspects none\n"
suspects_line-none [] e = refl
suspects_line-none (x ∷ xs) e = absurd (omega (arith, e))

pub suspects_line-some : (xs : List ℕ) → (length xs ≡ 0 → ⊥) → suspects_line xs ≡ line_of suspects_word xs
suspects_line-some [] some = absurd (some refl)
suspects_line-some (x ∷ xs) some = refl

-- what was appended, where it was
pub on_ok-appended : {T E : Type 0} (r : Result T E) (new old bytes : List ℕ) → new ≡ (if is_ok r then old ++ bytes else old) → OnOk r (new ≡ old ++ bytes)
on_ok-appended (Ok x) new old bytes is = is
on_ok-appended (Err e) new old bytes is = tt
