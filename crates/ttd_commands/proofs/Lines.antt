-- The lines of spans, read one after another.
use Rattle.std.proofs.Common.{◌≡◌, ℕ, ◌<◌, List, [], ◌∷◌, ◌++◌, length, sym, ◌∙◌, ap, refl, arith, append_assoc, length-append}
use Rattle.std.specs.Prelude.{All}
use Rattle.std.specs.List.{flat_map}
use Rattle.std.proofs.lemmas.List.{append-nil, flat_map_more}
use Rattle.std.proofs.lemmas.List.Elements.{All-head, All-tail, All-nil, All-push}
use Rattle.tt_span.specs.Interval.{Interval, IsInterval}
use Rattle.tt_cert.specs.Reading.{Anything, IsNumber, Reads, ReadsNothing}
use Rattle.tt_cert.specs.Text.{ends_of, numbers_text}
use Rattle.ttd_commands.specs.SpansText.{AreNoSpans, AreSpansOf, IsNoSpansText, IsSpansText, faulty_line, span_line, span_word}

-- some spans are found, and what is left are the lines of the others
pub record AreFoundSoFar (lines : List ℕ) (found : List Interval) (rest : List ℕ) : Type 0 where
  pub fits : All IsInterval found
  pub is : lines ≡ flat_map span_line found ++ rest
  pub only : (spans : List Interval) → All IsInterval spans → lines ≡ flat_map span_line spans →
      (others : List Interval) × All IsInterval others × (spans ≡ found ++ others) × (rest ≡ flat_map span_line others)

some-line : (span : Interval) → 0 < length (span_line span)
some-line span =
    omega (arith, length-append span_word (numbers_text (ends_of span)))

module _ (lines : List ℕ) where
  pub AreFoundSoFar-none : AreFoundSoFar lines [] lines
  AreFoundSoFar-none = record {
    fits = All-nil IsInterval;
    is = refl;
    only = λ spans fits is. (spans, fits, refl, is);
  }

  module _ (found : List Interval) (rest : List ℕ) (so_far : AreFoundSoFar lines found rest) where
    -- one more line
    pub AreFoundSoFar-push : (span : Interval) (next : List ℕ) → 0 < length rest → Reads span_line IsInterval Anything rest span next → AreFoundSoFar lines (found ++ span ∷ []) next
    AreFoundSoFar-push span next more h =
        let one : flat_map span_line (found ++ span ∷ []) ≡ flat_map span_line found ++ span_line span = sym (flat_map_more span_line [] found span) in
        record {
          fits = All-push IsInterval found span so_far.fits h.fits;
          is = so_far.is ∙ (ap (λ r. flat_map span_line found ++ r) h.is ∙ (sym (append_assoc (flat_map span_line found) (span_line span) next) ∙ ap (λ b. b ++ next) (sym one)));
          only = λ spans fits is. split spans (so_far.only spans fits is);
        }
      where
        split : (spans : List Interval) → (others : List Interval) × All IsInterval others × (spans ≡ found ++ others) × (rest ≡ flat_map span_line others) → (others : List Interval) × All IsInterval others × (spans ≡ (found ++ span ∷ []) ++ others) × (next ≡ flat_map span_line others)
        split spans ([], fits, same, is) = absurd (omega (arith, more, ap length is))
        split spans (w ∷ ws, fits, same, is) =
            let both = h.only w (flat_map span_line ws) (All-head IsInterval w ws fits) tt is in
            (ws, All-tail IsInterval w ws fits, same ∙ (ap (λ u. found ++ u ∷ ws) both.0 ∙ sym (append_assoc found (span ∷ []) ws)), sym both.1)

    -- a line that is none
    pub AreNoSpans-bad_line : 0 < length rest → ReadsNothing span_line IsInterval Anything rest → AreNoSpans lines
    AreNoSpans-bad_line more none spans fits is = bad (so_far.only spans fits is)
      where
        bad : (others : List Interval) × All IsInterval others × (spans ≡ found ++ others) × (rest ≡ flat_map span_line others) → ⊥
        bad ([], fits', same, is') = omega (arith, more, ap length is')
        bad (w ∷ ws, fits', same, is') = none w (flat_map span_line ws) (All-head IsInterval w ws fits') tt is'

    -- the end of the lines
    pub AreSpansOf-end : rest ≡ [] → AreSpansOf lines found
    AreSpansOf-end end = record {
      spans_are = so_far.fits;
      is = so_far.is ∙ (ap (λ r. flat_map span_line found ++ r) end ∙ append-nil (flat_map span_line found));
      only = λ spans fits is. last spans (so_far.only spans fits is);
    }
      where
        last : (spans : List Interval) → (others : List Interval) × All IsInterval others × (spans ≡ found ++ others) × (rest ≡ flat_map span_line others) → spans ≡ found
        last spans ([], fits', same, is') = same ∙ append-nil found
        last spans (w ∷ ws, fits', same, is') =
            absurd (omega (arith, some-line w, length-append (span_line w) (flat_map span_line ws), ap length (sym is' ∙ end)))

-- the whole text
module _ (text : List ℕ) where
  -- the line of the number comes first
  abbrev pub FaultyRead : ℕ → List ℕ → Type 0
  FaultyRead f rest = Reads faulty_line IsNumber Anything text f rest

  pub IsNoSpansText-bad_faulty : ReadsNothing faulty_line IsNumber Anything text → IsNoSpansText text
  IsNoSpansText-bad_faulty none f spans h = none f (flat_map span_line spans) h.fits tt h.is

  module _ (f : ℕ) (rest : List ℕ) (h : FaultyRead f rest) where
    pub IsNoSpansText-bad_spans : AreNoSpans rest → IsNoSpansText text
    IsNoSpansText-bad_spans none g spans w =
        none spans w.spans_are (sym (h.only g (flat_map span_line spans) w.fits tt w.is).1)

    module _ (found : List Interval) (are : AreSpansOf rest found) where
      pub IsSpansText-read : IsSpansText text f found
      IsSpansText-read = record {
        fits = h.fits;
        spans_are = are.spans_are;
        is = h.is ∙ ap (λ r. faulty_line f ++ r) are.is;
      }

      pub only-read : (g : ℕ) (spans : List Interval) → IsSpansText text g spans → (g ≡ f) × (spans ≡ found)
      only-read g spans w =
          let both = h.only g (flat_map span_line spans) w.fits tt w.is in
          (both.0, are.only spans w.spans_are (sym both.1))
