-- Numbers that a line can hold.
use Rattle.std.proofs.Common.{ℕ, [], ◌∷◌, arith}
use Rattle.std.proofs.lemmas.List.Elements.{All-cons, All-nil}
use Rattle.tt_text.specs.Reading.{AreNumbers, IsNumber}

-- two numbers are a list that a line can hold
pub AreNumbers-two : (m n : ℕ) → IsNumber m → IsNumber n → AreNumbers (m ∷ n ∷ [])
AreNumbers-two m n first second = (omega arith, All-cons IsNumber m (n ∷ []) first (All-cons IsNumber n [] second (All-nil IsNumber)))
