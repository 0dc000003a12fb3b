use Rattle.std.proofs.Common.{◌≡◌, ◌<◌, ℕ, List, length, drop, sym, ◌∙◌, arith}
use Rattle.std.proofs.lemmas.Bool.{eqb-true, eqb-false}
use Rattle.tt_cert.specs.declared.certificate.Stretch.{Stretch}
use Rattle.tt_cert.specs.Text.{stretch_line, IsStretch}
use Rattle.tt_text.specs.Reading.{BeginsWith, Anything, NoWord}
use Rattle.tt_text.proofs.Fronts.{BeginsWith-from_after, NoWord-from_after, further-ReadsUpTo}
use Rattle.tt_text.proofs.Many.{AreReadSoFar-push, ReadsNothing-bad_item, ReadsNothing-full, Reads-many}
use Rattle.tt_cert.proofs.Parts.{begins-stretch, not_both, anything_goes_on, some-stretch_line}
use Rattle.tt_cert.proofs.reading.stretches_at.Goals as goal

pub returns-in_err-stretch : goal.returns-in_err-stretch
returns-in_err-stretch c =
    let text = c.args.text.now in
    let word = c.args.word.now in
    let bytes : List ℕ = drop c.args.at text in
    let rest : List ℕ = drop c.loop-found.place text in
    let more : BeginsWith word rest = BeginsWith-from_after word rest text c.after.result c.after.ensures.found (sym c.is_some.ensures ∙ c.loop-found-test.true) in
    rw c.from_residual.ensures (ReadsNothing-bad_item (stretch_line word) IsStretch Anything (NoWord word) 33 word (begins-stretch word) (not_both word) (anything_goes_on word) bytes c.loop-found.found.items rest c.loop-found.invariant.1 more c.in_err-stretch.ensures)

pub returns-then-is_full : goal.returns-then-is_full
returns-then-is_full c =
    let text = c.args.text.now in
    let word = c.args.word.now in
    let bytes : List ℕ = drop c.args.at text in
    let rest : List ℕ = drop c.loop-found.place text in
    let found : List Stretch = c.loop-found.found.items in
    let more : BeginsWith word rest = BeginsWith-from_after word rest text c.after.result c.after.ensures.found (sym c.is_some.ensures ∙ c.loop-found-test.true) in
    let full : length found ≡ 33 = eqb-true (length found) 33 (sym c.is_full.ensures.value ∙ c.if-is_full.true) in
    ReadsNothing-full (stretch_line word) IsStretch Anything (NoWord word) 33 word (begins-stretch word) (not_both word) (anything_goes_on word) bytes found rest c.loop-found.invariant.1 more (omega arith)

pub loop-found-smaller : goal.loop-found-smaller
loop-found-smaller c =
    omega (arith, c.in_ok-stretch.ensures.0, further-ReadsUpTo (stretch_line c.args.word.now) IsStretch Anything c.args.text.now c.loop-found.place c.in_ok-stretch.next c.in_ok-stretch.stretch c.loop-found.invariant.0 (some-stretch_line c.args.word.now c.in_ok-stretch.stretch) c.in_ok-stretch.ensures)

pub loop-found-preserved : goal.loop-found-preserved
loop-found-preserved c =
    let text = c.args.text.now in
    let word = c.args.word.now in
    let bytes : List ℕ = drop c.args.at text in
    let rest : List ℕ = drop c.loop-found.place text in
    let found : List Stretch = c.loop-found.found.items in
    let other : length found ≡ 33 → ⊥ = eqb-false (length found) 33 (sym c.is_full.ensures.value ∙ c.if-is_full.false) in
    let room : length found < 33 = omega (arith, other, c.is_full.ensures.fits) in (
      c.in_ok-stretch.ensures.0,
      rw c.push.ensures.items (AreReadSoFar-push (stretch_line word) IsStretch Anything (NoWord word) 33 word (begins-stretch word) (not_both word) (anything_goes_on word) bytes found rest c.loop-found.invariant.1 c.in_ok-stretch.stretch (drop c.in_ok-stretch.next text) room c.in_ok-stretch.ensures.1),
    )

pub returns : goal.returns
returns c =
    let text = c.args.text.now in
    let word = c.args.word.now in
    let bytes : List ℕ = drop c.args.at text in
    let rest : List ℕ = drop c.loop-found.place text in
    let none : NoWord word rest = NoWord-from_after word rest text c.after.result c.after.ensures.found (sym c.is_some.ensures ∙ c.loop-found-test.false) in (
      c.loop-found.invariant.0,
      Reads-many (stretch_line word) IsStretch Anything (NoWord word) 33 word (begins-stretch word) (not_both word) (anything_goes_on word) bytes c.loop-found.found.items rest c.loop-found.invariant.1 (λ b. none b.0 b.1) none,
    )
