-- A text that was refused is that of no record.
use Rattle.std.proofs.Common.{◌≡◌, ◌<◌, ◌^◌, ℕ, List, [], ◌∷◌, length, inl, inr, refl, arith}
use Rattle.std.specs.Prelude.{◌≢◌, Option, Some, None, codes}
use Rattle.std.proofs.lemmas.List.Elements.{All-cons, All-nil}
use Rattle.tt_text.specs.Line.{line_of}
use Rattle.tt_text.specs.Reading.{AreNumbers, IsNumber}
use Rattle.tt_health.specs.Pause.{IsBreakRecord, IsFirstText, IsMoment, IsTextOf, text_with}
use Rattle.tt_health.specs.declared.pauses.BreakMoment.{BreakMoment}
use Rattle.tt_health.specs.declared.pauses.BreakRecord.{BreakRecord}
use Rattle.tt_health.proofs.pauses.record_of.Goals as goal

-- no such count of numbers stands behind a word
abbrev RefusesAll : List ℕ → List ℕ → ℕ → Type 0
RefusesAll word text count = (numbers : List ℕ) → AreNumbers numbers → length numbers ≡ count → text ≢ line_of word numbers

two_numbers : (a b : ℕ) → a < 2 ^ 64 → b < 2 ^ 64 → AreNumbers (a ∷ b ∷ [])
two_numbers a b la lb = (omega arith, All-cons IsNumber a (b ∷ []) la (All-cons IsNumber b [] lb (All-nil IsNumber)))

three_numbers : (a b c : ℕ) → a < 2 ^ 64 → b < 2 ^ 64 → c < 2 ^ 64 → AreNumbers (a ∷ b ∷ c ∷ [])
three_numbers a b c la lb lc = (omega arith, All-cons IsNumber a (b ∷ c ∷ []) la (All-cons IsNumber b (c ∷ []) lb (All-cons IsNumber c [] lc (All-nil IsNumber))))

five_numbers : (a b c d e : ℕ) → a < 2 ^ 64 → b < 2 ^ 64 → c < 2 ^ 64 → d < 2 ^ 64 → e < 2 ^ 64 → AreNumbers (a ∷ b ∷ c ∷ d ∷ e ∷ [])
five_numbers a b c d e la lb lc ld le = (
  omega arith,
  All-cons IsNumber a (b ∷ c ∷ d ∷ e ∷ []) la
      (All-cons IsNumber b (c ∷ d ∷ e ∷ []) lb (All-cons IsNumber c (d ∷ e ∷ []) lc (All-cons IsNumber d (e ∷ []) ld (All-cons IsNumber e [] le (All-nil IsNumber))))),
)

-- the text is not that of the second or third version
not_written : (text : List ℕ) (breaks clock total : ℕ) (moment : Option BreakMoment) → breaks < 2 ^ 64 → clock < 2 ^ 64 → total < 2 ^ 64 → IsMoment moment
    → RefusesAll (codes "tt-break 3") text 5 → RefusesAll (codes "tt-break 2") text 3 → text ≢ text_with breaks clock total moment
not_written text breaks clock total None lb lc lt lm third second is = second (breaks ∷ clock ∷ total ∷ []) (three_numbers breaks clock total lb lc lt) refl is
not_written text breaks clock total (Some moment) lb lc lt lm third second is =
    third (breaks ∷ clock ∷ total ∷ moment.time ∷ moment.reason ∷ []) (five_numbers breaks clock total moment.time moment.reason lb lc lt lm.0 lm.1) refl is

-- nor is it that of the first
refused : (text : List ℕ) (last : BreakRecord) → IsBreakRecord last → RefusesAll (codes "tt-break 3") text 5 → RefusesAll (codes "tt-break 2") text 3 → RefusesAll (codes "tt-break 1") text 2
    → IsTextOf text last → ⊥
refused text last fits third second first (inl is) = not_written text last.breaks last.clock last.total last.moment fits.breaks fits.clock fits.total fits.moment third second is
refused text last fits third second first (inr is) = first (last.breaks ∷ last.clock ∷ []) (two_numbers last.breaks last.clock fits.breaks fits.clock) refl is.is

pub returns-in_default-numbers_of-2 : goal.returns-in_default-numbers_of-2
returns-in_default-numbers_of-2 c = record { read = λ last fits is. refused c.args.text.now last fits c.in_default.ensures c.in_default-numbers_of.ensures c.in_default-numbers_of-2.ensures is }
