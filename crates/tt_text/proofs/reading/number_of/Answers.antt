use Rattle.std.proofs.Common.{◌≡◌, ◌<◌, ◌≤◌, ◌+◌, ◌*◌, ◌-◌, ◌^◌, inl, inr, length, get_or, take, sym, ◌∙◌, ap, arith}
use Rattle.std.specs.Char.{digit_value}
use Rattle.std.specs.Str.Parse.{digits_value}
use Rattle.std.proofs.lemmas.Bool.{cases_lt, eqb-true}
use Rattle.std.proofs.lemmas.Bool.Decides.{nat_tests}
use Rattle.std.proofs.lemmas.Int.Digits.{digits_value_more}
use Rattle.std.proofs.lemmas.List.{take_all}
use Rattle.std.proofs.lemmas.Str.Parse.{digit_at}
use Rattle.tt_text.proofs.Digits.{not_decimal-empty, not_decimal-zero, not_decimal-large, decimal-whole, digit_value-digit}
use Rattle.tt_text.proofs.reading.number_of.Goals as goal
use Rattle.tt_text.proofs.reading.number_of.Goals.{then-is_empty-via-then-is_empty, then-is_empty-via-else-is_empty+then-digits-gt1}

pub returns-then-is_empty : goal.returns-then-is_empty
returns-then-is_empty c n fits is =
    let ds = c.args.digits.now in
    elim c.then-is_empty.branch [
      | then-is_empty-via-then-is_empty w ↦ not_decimal-empty ds n (eqb-true (length ds) 0 (sym c.is_empty.ensures ∙ w.if-is_empty.true)) fits is
      | then-is_empty-via-else-is_empty+then-digits-gt1 w ↦ not_decimal-zero ds n w.if-digits-gt1.true.0 w.if-digits-gt1.true.1 fits is
    ]

pub returns-in_err-checked_mul : goal.returns-in_err-checked_mul
returns-in_err-checked_mul c =
    let ds = c.args.digits.now in
    let i = c.loop-digit.digit-index in
    rw c.from_residual.ensures (λ n fits is.
    elim (cases_lt (c.loop-digit.number * 10) (2 ^ 64)) [
      | inl small ↦ absurd (c.in_err-checked_mul.ensures small)
      | inr large ↦ not_decimal-large ds n i c.loop-digit.number c.loop-digit-test.true c.loop-digit.invariant.1 (omega arith) fits is
    ])

pub overflow_sub-digit : goal.overflow_sub-digit
overflow_sub-digit c =
    let h = digit_at c.args.digits.now c.loop-digit.digit-index c.requires c.loop-digit-test.true in
    omega (arith, h)

pub returns-in_err-number : goal.returns-in_err-number
returns-in_err-number c =
    let ds = c.args.digits.now in
    let i = c.loop-digit.digit-index in
    let h = digit_at ds i c.requires c.loop-digit-test.true in
    let d : digit_value (get_or ds i 0) ≡ get_or ds i 0 - 48 = digit_value-digit (get_or ds i 0) (omega (arith, h)) (omega (arith, h)) in
    rw c.from_residual-in_err-number.ensures (λ n fits is.
    elim (cases_lt (c.in_ok-checked_mul.field-0 + c.from.result) (2 ^ 64)) [
      | inl small ↦ absurd (c.in_err-number.ensures small)
      | inr large ↦ not_decimal-large ds n i c.loop-digit.number c.loop-digit-test.true c.loop-digit.invariant.1 (omega (arith, large, d, c.in_ok-checked_mul.ensures.1, c.from.ensures)) fits is
    ])

pub loop-digit-preserved : goal.loop-digit-preserved
loop-digit-preserved c =
    let ds = c.args.digits.now in
    let i = c.loop-digit.digit-index in
    let h = digit_at ds i c.requires c.loop-digit-test.true in
    let d : digit_value (get_or ds i 0) ≡ get_or ds i 0 - 48 = digit_value-digit (get_or ds i 0) (omega (arith, h)) (omega (arith, h)) in
    let so_far : c.loop-digit.number ≡ digits_value 10 (take i ds) = c.loop-digit.invariant.1 in
    let same : c.in_ok-number.number ≡ digits_value 10 (take i ds) * 10 + digit_value (get_or ds i 0) = omega (arith, so_far, d, c.in_ok-number.ensures.1, c.in_ok-checked_mul.ensures.1, c.from.ensures) in
    (omega (arith, c.in_ok-number.ensures.0, c.in_ok-number.ensures.1), same ∙ sym (digits_value_more 10 ds i c.loop-digit-test.true))

pub returns : goal.returns
returns c =
    let ds = c.args.digits.now in
    let some : 0 < length ds = grind (arith, nat_tests, c.is_empty.ensures, c.if-is_empty.false) in
    let all : take (length ds) ds ≡ ds = take_all (length ds) ds (omega arith) in
    let at_end : c.loop-digit.digit-index ≡ length ds = omega arith in
    let one_zero : get_or ds 0 0 ≡ 48 → length ds ≤ 1 = λ first. elim c.if-digits-gt1.either [ inl both ↦ both.1 | inr other ↦ absurd (other first) ] in
    (c.loop-digit.invariant.0, decimal-whole ds c.loop-digit.number c.requires some one_zero (c.loop-digit.invariant.1 ∙ ap (λ i. digits_value 10 (take i ds)) at_end) all c.loop-digit.invariant.0)
