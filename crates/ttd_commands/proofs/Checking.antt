-- What `check` replies.
use Rattle.std.proofs.Common.{◌≡◌, ℕ, List, take, drop, Result, Ok, Err, inl, inr, refl, ap, ◌∙◌, subst}
use Rattle.std.specs.Prelude.{IfErr, IfOk, IsOk, ◌↔◌}
use Rattle.std.specs.Result.{result_map_both}
use Rattle.tt_span.specs.Interval.{Interval}
use Rattle.tt_cert.specs.declared.faults.CertFault.{CertFault}
use Rattle.tt_cert.specs.Proof.{Proof}
use Rattle.tt_cert.specs.Text.{HasText, text_of}
use Rattle.tt_cert.specs.Valid.{IsCertificate, IsFirstFault, IsVerdict}
use Rattle.ttd_commands.specs.declared.faults.Fault.{Fault}
use Rattle.ttd_commands.specs.declared.faults.Fault.TheVariants.{Certificate, Memory}
use Rattle.ttd_commands.specs.Check.{IsCheckReply, IsClaimPlace, JudgesText, JudgesTexts, TellsVerdict, valid_line}
use Rattle.ttd_commands.specs.Command.{HasReply}
use Rattle.ttd_commands.specs.SpansText.{IsSpansText}

-- what `check` of the crate below answers is a verdict
pub IsVerdict-from : (spans : List Interval) (f : ℕ) (claim : Interval) (proof : Proof) (r : Result (Unit {0}) CertFault) → IsOk r ↔ IsCertificate spans f claim proof → IfErr r (λ fault. IsFirstFault spans f claim proof fault) → IsVerdict spans f claim proof r
IsVerdict-from spans f claim proof (Ok u) both first = both.0 refl
IsVerdict-from spans f claim proof (Err e) both first = first

-- a text that was read
module _ (spans : List Interval) (f : ℕ) (text : List ℕ) (r : Result (Interval × Proof) CertFault) (only : (claim : Interval) (proof : Proof) → HasText claim proof → text ≡ text_of claim proof → r ≡ Ok (claim, proof)) where
  module _ (claim : Interval) (proof : Proof) (has : HasText claim proof) (same : text ≡ text_of claim proof) (ok : r ≡ Ok (claim, proof)) where
    judged : (reply : Result (List ℕ) Fault) → TellsVerdict spans f claim proof reply → JudgesText spans f text reply
    judged reply tells = record {
      bad = λ none. absurd (none claim proof has same);
      read = λ claim' proof' has' same'.
          let there : r ≡ Ok (claim', proof') = only claim' proof' has' same' in
          let pairs : (claim, proof) ≡ (claim', proof') = cc in
          subst (λ (p : Interval × Proof). TellsVerdict spans f p.0 p.1 reply) pairs tells;
    }

    pub JudgesText-refused : (e : CertFault) (fault : Fault) (result : Result (Unit {0}) Fault) → IsVerdict spans f claim proof (Err e) → result ≡ Err fault → fault ≡ Certificate e → JudgesText spans f text (result_map_both (λ _. valid_line) (λ fault. fault) result)
    JudgesText-refused e fault result verdict is from =
        let refused : result ≡ Err (Certificate e) = is ∙ ap Err from in
        rw refused (judged (Err (Certificate e)) (Err e, verdict, refl))

module _ {T : Type 0} (text_of : T → List ℕ) (input : List ℕ) (at : ℕ) (place : IsClaimPlace input at) (front rest : List ℕ) (front_is : front ≡ take at input) (rest_is : rest ≡ drop at input) where
  replied : (reply : Result (List ℕ) Fault) → JudgesTexts front rest reply → IsCheckReply input reply
  replied reply judges =
      (at, place, subst (λ (b : List ℕ). JudgesTexts (take at input) b reply) rest_is (subst (λ (a : List ℕ). JudgesTexts a rest reply) front_is judges))

  module _ (f : ℕ) (spans : List Interval) (h : IsSpansText front f spans) (only : (g : ℕ) (others : List Interval) → IsSpansText front g others → (g ≡ f) × (others ≡ spans)) where
    told : (reply : Result (List ℕ) Fault) → JudgesText spans f rest reply → IsCheckReply input reply
    told reply judges = replied reply (record {
      bad = λ none. absurd (none f spans h);
      read = λ g others w. let same = only g others w in rw (same.0, same.1) judges;
    })

    -- a certificate that is refused
    pub check-refused : (fault : Fault) (result : Result T Fault) → JudgesText spans f rest (Err fault) → result ≡ Err fault → HasReply text_of (IsCheckReply input) result
    check-refused fault result judges is = inl (rw is (told (Err fault) judges))

    -- one that is valid
    pub check-valid : (result : Result T Fault) → JudgesText spans f rest (Ok valid_line) → IfOk result (λ t. text_of t ≡ valid_line) → IfErr result (λ fault. fault ≡ Memory) → HasReply text_of (IsCheckReply input) result
    check-valid (Ok t) judges ok err = inl (told (Ok (text_of t)) (rw ok judges))
    check-valid (Err e) judges ok err = inr (ap Err err)
