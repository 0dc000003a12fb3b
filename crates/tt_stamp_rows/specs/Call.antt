-- What a table of pending commits is asked.
use Rattle.std.specs.Prelude.{◌≡◌, ◌⊎◌, ℕ, List, [], ◌∷◌, codes}
use Rattle.tt_text.specs.Line.{line_of}
use Rattle.tt_stamp_rows.specs.declared.calls.Call.{Call}
use Rattle.tt_stamp_rows.specs.declared.calls.Call.TheVariants.{Open, Begin, End, Watermark, Readable, Release}

-- the line asks this
abbrev pub Asks : List ℕ → Call → Type 0
Asks line Open = line ≡ line_of (codes "table") []
Asks line (Begin reading floor) = line ≡ line_of (codes "begin") (reading.lo ∷ reading.hi ∷ floor ∷ [])
Asks line (End s) = (line ≡ line_of (codes "written") (s ∷ [])) ⊎ (line ≡ line_of (codes "given_up") (s ∷ []))
Asks line (Watermark earliest) = line ≡ line_of (codes "watermark") (earliest ∷ [])
Asks line (Readable t earliest) = line ≡ line_of (codes "readable") (t ∷ earliest ∷ [])
Asks line (Release s earliest) = line ≡ line_of (codes "release") (s ∷ earliest ∷ [])
