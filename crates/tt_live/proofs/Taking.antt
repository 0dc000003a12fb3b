-- How a reply is taken, one byte after the other.
use Rattle.std.proofs.Common.{◌≡◌, ℕ, List, [], ◌∷◌, length, take, Option, None, Some, IfSome, arith, ap, sym, subst, length-append}
use Rattle.std.proofs.Math.Seq.{take-append_seam}
use Rattle.std.specs.Io.KnownBytes.{Consumes}
use Rattle.tt_live.specs.Exchange.{HasNoEnd, IsTooLong}

-- where 128 bytes have no line feed and another came, a reply is too long
pub too_long : (old mid new : Option (List ℕ)) (reply : List ℕ) (byte : ℕ) → Consumes old mid reply → Consumes mid new (byte ∷ []) → HasNoEnd reply → length reply ≡ 128
    → IfSome old IsTooLong
too_long None mid new reply byte first second no_end full = tt
too_long (Some xs) None new reply byte first second no_end full = absurd first
too_long (Some xs) (Some ys) None reply byte first second no_end full = absurd second
too_long (Some xs) (Some ys) (Some zs) reply byte first second no_end full =
    let front : take 128 xs ≡ reply = subst (λ (n : ℕ). take n xs ≡ reply) full (subst (λ (ws : List ℕ). take (length reply) ws ≡ reply) (sym first) (take-append_seam reply ys)) in
    (subst HasNoEnd (sym front) no_end, omega (arith, ap length first, ap length second, length-append reply ys, full))
