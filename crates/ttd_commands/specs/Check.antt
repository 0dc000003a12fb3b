-- What `check` answers to its input.
use Rattle.std.specs.Prelude.{◌≡◌, ◌⊎◌, ℕ, ◌-◌, ◌<◌, List, [], ◌∷◌, ◌++◌, length, take, drop, slice_index, Result, Ok, Err, codes}
use Rattle.tt_span.specs.Interval.{Interval}
use Rattle.tt_cert.specs.declared.faults.CertFault.{CertFault}
use Rattle.tt_cert.specs.declared.faults.CertFault.TheVariants.{BadText}
use Rattle.tt_cert.specs.Proof.{Proof}
use Rattle.tt_cert.specs.Reading.{BeginsWith}
use Rattle.tt_cert.specs.Text.{HasText, claim_word, text_of}
use Rattle.tt_cert.specs.Valid.{IsVerdict}
use Rattle.ttd_commands.specs.declared.faults.Fault.{Fault}
use Rattle.ttd_commands.specs.declared.faults.Fault.TheVariants.{BadInput, Certificate}
use Rattle.ttd_commands.specs.SpansText.{IsNoSpansText, IsSpansText}

-- A line begins at that place: at the start, or behind a line feed.
abbrev pub BeginsLine : List ℕ → ℕ → Type 0
BeginsLine text at = (at ≡ 0) ⊎ (slice_index text (at - 1) ≡ 10)

-- A line that begins with `claim` begins at that place.
abbrev pub IsClaimLine : List ℕ → ℕ → Type 0
IsClaimLine text at = BeginsLine text at × BeginsWith claim_word (drop at text)

-- The place of the first line that begins with `claim`, or the end of the text where there is none.
pub record IsClaimPlace (text : List ℕ) (at : ℕ) : Type 0 where
  pub here : IsClaimLine text at ⊎ (at ≡ length text)
  pub none_before : (k : ℕ) → k < at → IsClaimLine text k → ⊥

-- The text is that of no claim with a certificate.
abbrev pub IsNoCertificateText : List ℕ → Type 0
IsNoCertificateText text = (claim : Interval) (certificate : Proof) → HasText claim certificate → text ≡ text_of claim certificate → ⊥

-- The line that says that a certificate proves its claim.
abbrev pub valid_line : List ℕ
valid_line = codes "valid" ++ 10 ∷ []

-- The reply that tells what a look at the certificate answers.
abbrev pub verdict_reply : Result (Unit {0}) CertFault → Result (List ℕ) Fault
verdict_reply (Ok done) = Ok valid_line
verdict_reply (Err fault) = Err (Certificate fault)

-- The reply tells whether the certificate proves the claim, or the first fault in it.
abbrev pub TellsVerdict : List Interval → ℕ → Interval → Proof → Result (List ℕ) Fault → Type 0
TellsVerdict spans f claim certificate reply =
    (verdict : Result (Unit {0}) CertFault) × IsVerdict spans f claim certificate verdict × (reply ≡ verdict_reply verdict)

-- The reply to a text behind the spans: that it is no certificate text, or what a look at the certificate answers.
pub record JudgesText (spans : List Interval) (f : ℕ) (text : List ℕ) (reply : Result (List ℕ) Fault) : Type 0 where
  pub bad : IsNoCertificateText text → reply ≡ Err (Certificate BadText)
  pub read : (claim : Interval) (certificate : Proof) → HasText claim certificate → text ≡ text_of claim certificate →
      TellsVerdict spans f claim certificate reply

-- The reply to two texts: that the first is no spans text, or what is to be said of the second.
pub record JudgesTexts (front rest : List ℕ) (reply : Result (List ℕ) Fault) : Type 0 where
  pub bad : IsNoSpansText front → reply ≡ Err BadInput
  pub read : (f : ℕ) (spans : List Interval) → IsSpansText front f spans → JudgesText spans f rest reply

-- What `check` answers to an input: the spans text ends, and the certificate text begins, at the first line that begins with `claim`.
abbrev pub IsCheckReply : List ℕ → Result (List ℕ) Fault → Type 0
IsCheckReply input reply = (at : ℕ) × IsClaimPlace input at × JudgesTexts (take at input) (drop at input) reply
