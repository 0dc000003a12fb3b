-- The spans of sources as text.
use Rattle.std.specs.Prelude.{◌≡◌, ◌⊎◌, ℕ, ◌<◌, ◌^◌, List, [], ◌∷◌, ◌++◌, All, codes}
use Rattle.std.specs.List.{flat_map}
use Rattle.tt_span.specs.Interval.{Interval, IsInterval}
use Rattle.tt_cert.specs.Text.{line_of, ends_of}
use Rattle.ttd_commands.specs.declared.faults.Fault.{Fault}
use Rattle.ttd_commands.specs.declared.faults.Fault.TheVariants.{BadInput, Memory}

-- The word of the line that says how many sources may be wrong.
abbrev pub faulty_word : List ℕ
faulty_word = codes "faulty"

-- The word of a source's line.
abbrev pub span_word : List ℕ
span_word = codes "span"

-- The line that says how many sources may be wrong.
abbrev pub faulty_line : ℕ → List ℕ
faulty_line f = line_of faulty_word (f ∷ [])

-- The line of a source's span.
abbrev pub span_line : Interval → List ℕ
span_line span = line_of span_word (ends_of span)

-- The one text of how many sources may be wrong, and of the span of each source.
abbrev pub spans_text_of : ℕ → List Interval → List ℕ
spans_text_of f spans = faulty_line f ++ flat_map span_line spans

-- The text is that of this number, which fits 64 bits, and of these spans, each of which is one.
pub record IsSpansText (text : List ℕ) (f : ℕ) (spans : List Interval) : Type 0 where
  pub fits : f < 2 ^ 64
  pub spans_are : All IsInterval spans
  pub is : text ≡ spans_text_of f spans

-- The text is that of no number and no spans.
abbrev pub IsNoSpansText : List ℕ → Type 0
IsNoSpansText text = (f : ℕ) (spans : List Interval) → IsSpansText text f spans → ⊥

-- These spans, and no others, have these lines.
pub record AreSpansOf (lines : List ℕ) (spans : List Interval) : Type 0 where
  pub spans_are : All IsInterval spans
  pub is : lines ≡ flat_map span_line spans
  pub only : (others : List Interval) → All IsInterval others → lines ≡ flat_map span_line others → others ≡ spans

-- No spans have these lines.
abbrev pub AreNoSpans : List ℕ → Type 0
AreNoSpans lines = (spans : List Interval) → All IsInterval spans → lines ≡ flat_map span_line spans → ⊥

-- Why spans were not read: the text is bad, or memory was refused.
abbrev pub IsReadingFault : Type 0 → Fault → Type 0
IsReadingFault bad fault = ((fault ≡ BadInput) × bad) ⊎ (fault ≡ Memory)
