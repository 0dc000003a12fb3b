use Rattle.std.proofs.Common.{◌≡◌, ◌<◌, ℕ, List, [], ◌∷◌, length, drop, sym, ◌∙◌, arith}
use Rattle.std.proofs.lemmas.Bool.{eqb-true, eqb-false}
use Rattle.tt_text.specs.Line.{space_and_number}
use Rattle.tt_text.specs.Reading.{BeginsWith, NoDigit, NoWord, IsNumber}
use Rattle.tt_text.proofs.Fronts.{BeginsWith-from_after, NoWord-from_after, further-ReadsUpTo}
use Rattle.tt_text.proofs.Many.{AreReadSoFar-push, ReadsNothing-bad_item, ReadsNothing-full, ReadsNothing-bad_end, Reads-many}
use Rattle.tt_text.proofs.Lines.{LineEnds, no_space-at_end, begins-spaced, NoDigit-spaced, Reads-line_end, ReadsNothing-line_end}
use Rattle.tt_text.proofs.reading.numbers_at.Goals as goal

pub returns-in_err-number : goal.returns-in_err-number
returns-in_err-number c =
    let text = c.args.text.now in
    let bytes : List ℕ = drop c.args.at text in
    let rest : List ℕ = drop c.loop-numbers.place text in
    let more : BeginsWith (32 ∷ []) rest = BeginsWith-from_after (32 ∷ []) rest text c.after.result c.after.ensures.found (sym c.is_some.ensures ∙ c.loop-numbers-test.true) in
    rw c.from_residual.ensures (ReadsNothing-line_end bytes (ReadsNothing-bad_item space_and_number IsNumber NoDigit LineEnds 16 (32 ∷ []) begins-spaced no_space-at_end NoDigit-spaced bytes c.loop-numbers.numbers.items rest c.loop-numbers.invariant.1 more c.in_err-number.ensures))

pub returns-then-is_full : goal.returns-then-is_full
returns-then-is_full c =
    let text = c.args.text.now in
    let bytes : List ℕ = drop c.args.at text in
    let rest : List ℕ = drop c.loop-numbers.place text in
    let found : List ℕ = c.loop-numbers.numbers.items in
    let more : BeginsWith (32 ∷ []) rest = BeginsWith-from_after (32 ∷ []) rest text c.after.result c.after.ensures.found (sym c.is_some.ensures ∙ c.loop-numbers-test.true) in
    let full : length found ≡ 16 = eqb-true (length found) 16 (sym c.is_full.ensures.value ∙ c.if-is_full.true) in
    ReadsNothing-line_end bytes (ReadsNothing-full space_and_number IsNumber NoDigit LineEnds 16 (32 ∷ []) begins-spaced no_space-at_end NoDigit-spaced bytes found rest c.loop-numbers.invariant.1 more (omega arith))

pub loop-numbers-smaller : goal.loop-numbers-smaller
loop-numbers-smaller c =
    omega (arith, c.in_ok-number.ensures.0, further-ReadsUpTo space_and_number IsNumber NoDigit c.args.text.now c.loop-numbers.place c.in_ok-number.next c.in_ok-number.number c.loop-numbers.invariant.0 (omega arith) c.in_ok-number.ensures)

pub loop-numbers-preserved : goal.loop-numbers-preserved
loop-numbers-preserved c =
    let text = c.args.text.now in
    let bytes : List ℕ = drop c.args.at text in
    let rest : List ℕ = drop c.loop-numbers.place text in
    let found : List ℕ = c.loop-numbers.numbers.items in
    let other : length found ≡ 16 → ⊥ = eqb-false (length found) 16 (sym c.is_full.ensures.value ∙ c.if-is_full.false) in
    let room : length found < 16 = omega (arith, other, c.is_full.ensures.fits) in (
      c.in_ok-number.ensures.0,
      rw c.push.ensures.items (AreReadSoFar-push space_and_number IsNumber NoDigit LineEnds 16 (32 ∷ []) begins-spaced no_space-at_end NoDigit-spaced bytes found rest c.loop-numbers.invariant.1 c.in_ok-number.number (drop c.in_ok-number.next text) room c.in_ok-number.ensures.1),
    )

pub returns-in_err-end : goal.returns-in_err-end
returns-in_err-end c =
    let text = c.args.text.now in
    let bytes : List ℕ = drop c.args.at text in
    let rest : List ℕ = drop c.loop-numbers.place text in
    let none : NoWord (32 ∷ []) rest = NoWord-from_after (32 ∷ []) rest text c.after.result c.after.ensures.found (sym c.is_some.ensures ∙ c.loop-numbers-test.false) in
    rw c.from_residual-in_err-end.ensures (ReadsNothing-line_end bytes (ReadsNothing-bad_end space_and_number IsNumber NoDigit LineEnds 16 (32 ∷ []) begins-spaced no_space-at_end NoDigit-spaced bytes c.loop-numbers.numbers.items rest c.loop-numbers.invariant.1 (λ b. none b.0 b.1) (λ ends. c.in_err-end.ensures.found ends.0 ends.1)))

pub returns : goal.returns
returns c =
    let text = c.args.text.now in
    let bytes : List ℕ = drop c.args.at text in
    let rest : List ℕ = drop c.loop-numbers.place text in
    let found : List ℕ = c.loop-numbers.numbers.items in
    let end : List ℕ = drop c.in_ok-end.end text in
    let none : NoWord (32 ∷ []) rest = NoWord-from_after (32 ∷ []) rest text c.after.result c.after.ensures.found (sym c.is_some.ensures ∙ c.loop-numbers-test.false) in (
      c.in_ok-end.ensures.found.0,
      Reads-line_end bytes found rest end (Reads-many space_and_number IsNumber NoDigit LineEnds 16 (32 ∷ []) begins-spaced no_space-at_end NoDigit-spaced bytes found rest c.loop-numbers.invariant.1 (λ b. none b.0 b.1) (end, c.in_ok-end.ensures.found.1)) c.in_ok-end.ensures.found.1,
    )
