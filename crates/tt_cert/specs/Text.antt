-- Certificates as text.
use Rattle.std.specs.Prelude.{ℕ, ◌<◌, ◌≤◌, List, [], ◌∷◌, ◌++◌, length, All, codes}
use Rattle.std.specs.List.{flat_map}
use Rattle.tt_span.specs.Time.{max_time}
use Rattle.tt_span.specs.Interval.{Interval, IsInterval}
use Rattle.tt_span.specs.Sources.{max_sources}
pub use Rattle.tt_text.specs.Line.{space_and_number, numbers_text, line_of, ends_of}
use Rattle.tt_cert.specs.declared.certificate.Stretch.{Stretch}
use Rattle.tt_cert.specs.Proof.{Proof}

-- the three numbers of a stretch's line
abbrev pub numbers_of : Stretch → List ℕ
numbers_of s = s.from ∷ s.to ∷ s.depth ∷ []

-- the line of a stretch
abbrev pub stretch_line : List ℕ → Stretch → List ℕ
stretch_line word s = line_of word (numbers_of s)

-- the word of the claim's line
abbrev pub claim_word : List ℕ
claim_word = codes "claim"

-- the word of the line of the left set
abbrev pub left_word : List ℕ
left_word = codes "left"

-- the word of the line of the right set
abbrev pub right_word : List ℕ
right_word = codes "right"

-- the word of the line of a stretch below the claim
abbrev pub below_word : List ℕ
below_word = codes "below"

-- the word of the line of a stretch above the claim
abbrev pub above_word : List ℕ
above_word = codes "above"

-- the one text of a claim and its certificate
abbrev pub text_of : Interval → Proof → List ℕ
text_of claim proof =
    line_of claim_word (ends_of claim)
    ++ (line_of left_word proof.left
    ++ (line_of right_word proof.right
    ++ (flat_map (stretch_line below_word) proof.below
    ++ flat_map (stretch_line above_word) proof.above)))

-- source numbers that a line can hold
pub record AreSources (sources : List ℕ) : Type 0 where
  pub some : 0 < length sources
  pub few : length sources ≤ max_sources
  pub bytes : All (λ i. i ≤ 255) sources

-- a stretch that a line can hold
pub record IsStretch (s : Stretch) : Type 0 where
  pub ordered : s.from ≤ s.to
  pub in_time : s.to ≤ max_time
  pub byte : s.depth ≤ 255

-- stretches that a text can hold on one side
abbrev pub AreStretches : List Stretch → Type 0
AreStretches stretches = (length stretches ≤ 33) × All IsStretch stretches

-- the two times of a stretch are the ends of a span
abbrev pub IsSpan : Stretch → Type 0
IsSpan s = (s.from ≤ s.to) × (s.to ≤ max_time)

-- a certificate that names sources for both ends, and whose stretches are spans
pub record IsReadable (proof : Proof) : Type 0 where
  pub left : 0 < length proof.left
  pub right : 0 < length proof.right
  pub below : All IsSpan proof.below
  pub above : All IsSpan proof.above

-- a claim and a certificate that have a text
pub record HasText (claim : Interval) (proof : Proof) : Type 0 where
  pub claim_is : IsInterval claim
  pub left : AreSources proof.left
  pub right : AreSources proof.right
  pub below : AreStretches proof.below
  pub above : AreStretches proof.above
