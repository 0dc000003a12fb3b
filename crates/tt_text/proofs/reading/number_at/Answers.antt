use Rattle.std.proofs.Common.{◌≡◌, ◌-◌, ℕ, List, length, take, drop, subst, ap, arith, length-drop}
use Rattle.std.specs.Fmt.{decimal}
use Rattle.std.proofs.lemmas.List.{drop-drop, take_rest}
use Rattle.tt_text.specs.Reading.{Reads, ReadsNothing, NoDigit, IsNumber}
use Rattle.tt_text.proofs.Digits.{Reads-digits, ReadsNothing-digits}
use Rattle.tt_text.proofs.reading.number_at.Goals as goal

pub returns-in_err-number : goal.returns-in_err-number
returns-in_err-number c =
    let text = c.args.text.now in
    let shown : List ℕ = take (length text - c.args.at) (drop c.args.at text) in
    rw c.from_residual.ensures (subst (λ (b : List ℕ). ReadsNothing decimal IsNumber NoDigit b) (take_rest text c.args.at) (ReadsNothing-digits shown c.digits_len-len.result c.digits_len-len.ensures.digits c.digits_len-len.ensures.last c.in_err-number.ensures))

pub returns : goal.returns
returns c =
    let text = c.args.text.now in
    let at = c.args.at in
    let shown : List ℕ = take (length text - at) (drop at text) in
    let whole : shown ≡ drop at text = take_rest text at in
    let len : ℕ = c.digits_len-len.result in
    let n : ℕ = c.in_ok-number.number in
    let read : Reads decimal IsNumber NoDigit (drop at text) n (drop len (drop at text)) = subst (λ (b : List ℕ). Reads decimal IsNumber NoDigit b n (drop len b)) whole (Reads-digits shown len n c.in_ok-number.ensures.0 c.in_ok-number.ensures.1 c.digits_len-len.ensures.last) in (
      omega (arith, c.digits_len-len.ensures.within, ap length whole, length-drop at text, c.requires),
      subst (λ (rest : List ℕ). Reads decimal IsNumber NoDigit (drop at text) n rest) (drop-drop len at text) read,
    )
