-- What `fuse` answers to its input.
use Rattle.std.specs.Prelude.{◌≡◌, ℕ, ◌+◌, ◌*◌, ◌<◌, ◌≤◌, List, [], ◌∷◌, ◌++◌, length, Result, Ok, Err, codes}
use Rattle.tt_span.specs.Interval.{Interval}
use Rattle.tt_fuse.specs.declared.fusion.FuseFault.{FuseFault}
use Rattle.tt_fuse.specs.declared.fusion.FuseFault.TheVariants.{NoSource, TooMany, TooFew, NoPoint}
use Rattle.tt_fuse.specs.Fusion.{CanBeFused, HasNoPossibleTime, IsFusion}
use Rattle.tt_fuse.specs.Suspect.{AreSuspects}
use Rattle.tt_cert.specs.Proof.{Proof}
use Rattle.tt_cert.specs.Canonical.{IsCanonical}
use Rattle.tt_cert.specs.Text.{line_of, text_of}
use Rattle.ttd_commands.specs.declared.faults.Fault.{Fault}
use Rattle.ttd_commands.specs.declared.faults.Fault.TheVariants.{BadInput, Fusion}
use Rattle.ttd_commands.specs.SpansText.{IsNoSpansText, IsSpansText}

-- The fusion of the spans, or the first reason why there is none.
abbrev pub IsFused : List Interval → ℕ → Result Interval FuseFault → Type 0
IsFused spans f (Ok claim) = CanBeFused (length spans) f × IsFusion spans f claim
IsFused spans f (Err NoSource) = length spans ≡ 0
IsFused spans f (Err TooMany) = 16 < length spans
IsFused spans f (Err TooFew) = (0 < length spans) × (length spans ≤ 16) × (length spans < 2 * f + 1)
IsFused spans f (Err NoPoint) = CanBeFused (length spans) f × HasNoPossibleTime spans f

-- The word of the line that names the suspects.
abbrev pub suspects_word : List ℕ
suspects_word = codes "suspects"

-- The line that names the suspects, or says that there are none.
abbrev pub suspects_line : List ℕ → List ℕ
suspects_line [] = suspects_word ++ (codes " none" ++ 10 ∷ [])
suspects_line (i ∷ others) = line_of suspects_word (i ∷ others)

-- The text of the claim with its canonical certificate, and then the line of its suspects.
pub record IsFusionText (spans : List Interval) (f : ℕ) (claim : Interval) (text : List ℕ) : Type 0 where
  pub certificate : Proof
  pub suspects : List ℕ
  pub canonical : IsCanonical spans f claim certificate
  pub exact : AreSuspects spans claim suspects
  pub is : text ≡ text_of claim certificate ++ suspects_line suspects

-- The reply tells this fusion, or this reason why there is none.
abbrev pub Tells : List Interval → ℕ → Result Interval FuseFault → Result (List ℕ) Fault → Type 0
Tells spans f (Ok claim) reply = (text : List ℕ) × IsFusionText spans f claim text × (reply ≡ Ok text)
Tells spans f (Err fault) reply = reply ≡ Err (Fusion fault)

-- The reply tells the fusion of the spans, or the first reason why there is none.
abbrev pub TellsFusion : List Interval → ℕ → Result (List ℕ) Fault → Type 0
TellsFusion spans f reply = (fused : Result Interval FuseFault) × IsFused spans f fused × Tells spans f fused reply

-- What `fuse` answers to an input: that it is no spans text, or the fusion of its spans.
pub record IsFuseReply (input : List ℕ) (reply : Result (List ℕ) Fault) : Type 0 where
  pub bad : IsNoSpansText input → reply ≡ Err BadInput
  pub read : (f : ℕ) (spans : List Interval) → IsSpansText input f spans → TellsFusion spans f reply
