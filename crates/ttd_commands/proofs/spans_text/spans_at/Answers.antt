use Rattle.std.proofs.Common.{◌<◌, ℕ, List, length, drop, inl, refl, sym, arith, length-drop}
use Rattle.std.proofs.lemmas.List.{drop_all}
use Rattle.ttd_commands.specs.SpansText.{span_word}
use Rattle.ttd_commands.proofs.Lines.{AreFoundSoFar-push, AreNoSpans-bad_line, AreSpansOf-end}
use Rattle.ttd_commands.proofs.spans_text.spans_at.Goals as goal

pub returns-in_default : goal.returns-in_default
returns-in_default c =
    let text = c.args.text.now in
    let rest : List ℕ = drop c.loop-place.place text in
    inl (refl, AreNoSpans-bad_line (drop c.args.at text) c.loop-place.spans.items rest c.loop-place.invariant.1 (omega (arith, length-drop c.loop-place.place text, c.loop-place-test.true)) c.in_default.ensures)

pub loop-place-smaller : goal.loop-place-smaller
loop-place-smaller c =
    let read = c.in-Some.ensures in
    omega (arith, read.0, c.text_laws.ensures.further span_word c.args.text.now c.loop-place.place _ _ c.loop-place.invariant.0 read)

pub loop-place-preserved : goal.loop-place-preserved
loop-place-preserved c =
    let text = c.args.text.now in
    let rest : List ℕ = drop c.loop-place.place text in
    let more : 0 < length rest = omega (arith, length-drop c.loop-place.place text, c.loop-place-test.true) in
    let read = c.in-Some.ensures in
    let pushed = c.push.ensures.items in
    let done = c.in_ok-map_err.ensures.variant in (
      read.0,
      rw (pushed, sym done) (AreFoundSoFar-push (drop c.args.at text) c.loop-place.spans.items rest c.loop-place.invariant.1 _ _ more read.1),
    )

pub returns : goal.returns
returns c =
    let text = c.args.text.now in
    AreSpansOf-end (drop c.args.at text) c.loop-place.spans.items (drop c.loop-place.place text) c.loop-place.invariant.1 (drop_all c.loop-place.place text c.loop-place-test.false)
