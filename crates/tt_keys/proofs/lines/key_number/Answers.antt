use Rattle.std.proofs.Common.{◌≡◌, ℕ, sym, ◌∙◌, arith}
use Rattle.std.proofs.lemmas.Fmt.{decimal_injective}
use Rattle.tt_keys.proofs.lines.key_number.Goals as goal

pub returns-in_default : goal.returns-in_default
returns-in_default c = λ n fits is. c.in_default.ensures.read n (omega (arith, fits)) is

pub returns-in_default-try_from : goal.returns-in_default-try_from
returns-in_default-try_from c = λ n fits is.
    let same : c.in-Some.number ≡ n = decimal_injective c.in-Some.number n c.in-Some.ensures.read.0 (omega (arith, fits)) (sym c.in-Some.ensures.read.1 ∙ is) in
    omega (arith, fits, same, c.in_default-try_from.ensures)
