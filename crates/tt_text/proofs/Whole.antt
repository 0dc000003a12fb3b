-- Lines that are the whole of some bytes.
use Rattle.std.proofs.Common.{◌≡◌, ◌≢◌, ℕ, ◌<◌, ◌≤◌, List, [], ◌++◌, length, drop, sym, ap, ◌∙◌, arith, append-nil, length-drop}
use Rattle.std.proofs.lemmas.List.{drop_all}
use Rattle.tt_text.specs.Line.{line_of}
use Rattle.tt_text.specs.Reading.{ReadsNothing, Reads, Anything, AreNumbers, IsLineOf}

-- what reads nothing at the front is no whole line
pub no_line : (word line : List ℕ) → ReadsNothing (line_of word) AreNumbers Anything line → (numbers : List ℕ) → AreNumbers numbers → line ≢ line_of word numbers
no_line word line none numbers fits is = none numbers [] fits tt (is ∙ sym (append-nil (line_of word numbers)))

-- where something stands behind the line, the whole is no line
pub no_line_further : (word line found : List ℕ) (end : ℕ) → end < length line → Reads (line_of word) AreNumbers Anything line found (drop end line)
    → (numbers : List ℕ) → AreNumbers numbers → line ≢ line_of word numbers
no_line_further word line found end more reads numbers fits is =
    let same = reads.only numbers [] fits tt (is ∙ sym (append-nil (line_of word numbers))) in
    absurd (omega (arith, ap length same.1, length-drop end line))

-- where nothing stands behind the line, it is the whole
pub whole_line : (word line found : List ℕ) (end : ℕ) → length line ≤ end → Reads (line_of word) AreNumbers Anything line found (drop end line) → IsLineOf word line found
whole_line word line found end none reads =
    let rest : drop end line ≡ [] = drop_all end line none in
    record {
      fits = reads.fits;
      is = reads.is ∙ ap (λ l. line_of word found ++ l) rest ∙ append-nil (line_of word found);
      only = λ others fits is. (reads.only others [] fits tt (is ∙ sym (append-nil (line_of word others)))).0;
    }
