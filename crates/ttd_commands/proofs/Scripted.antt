-- What is replied to an input that has to be a script.
use Rattle.std.proofs.Common.{◌≡◌, ◌∙◌, ℕ, List, Result, Ok, inl, inr, refl, sym, ap, subst}
use Rattle.std.specs.Prelude.{Err, IsUtf8}
use Rattle.std.specs.Result.{result_map_both}
use Rattle.tt_script.specs.declared.faults.ScriptFault.{ScriptFault}
use Rattle.tt_script.specs.Fault.{IsTextRefusal}
use Rattle.tt_script.specs.Script.{Scenario, script_in}
use Rattle.ttd_commands.specs.declared.faults.Fault.{Fault}
use Rattle.ttd_commands.specs.declared.faults.Fault.TheVariants.{BadInput}
use Rattle.ttd_commands.specs.Answer.{Answer}
use Rattle.ttd_commands.specs.Command.{HasReply}
use Rattle.ttd_commands.specs.Scripted.{IsScriptFault, IsScriptReply, IsScriptText, TellsScript, script_fault_of}

module _ {T : Type 0} (shows : T → Answer) (Tells : Scenario → Result Answer Fault → Type 0) (input : List ℕ) (result : Result T Fault) where
  -- what is told of the script
  pub script_replied : (script : Scenario) → IsScriptText input script → HasReply shows (Tells script) result → HasReply shows (IsScriptReply Tells input) result
  script_replied script text (inr memory) = inr memory
  script_replied script text (inl told) =
      inl (record {
        bad = λ no. absurd (no text.utf8);
        read = λ yes. subst (λ (s : Result Scenario ScriptFault). TellsScript Tells s (result_map_both shows (λ fault. fault) result)) (sym text.is) told;
      })

  -- why there is no script
  pub script_refused : (fault : Fault) → result ≡ Err fault → IsScriptFault input fault → HasReply shows (IsScriptReply Tells input) result
  script_refused fault is (inl (not_text, bad)) =
      let refused : result ≡ Err BadInput = cc in
      inl (record { bad = λ not_utf8. rw refused refl; read = λ utf8. absurd (not_text utf8) })
  script_refused fault is (inr (inl (text, (script_fault, told, is_in, shown, named)))) =
      let refused : result ≡ Err (script_fault_of told) = cc in
      inl (record {
        bad = λ not_text. absurd (not_text text);
        read = λ utf8. subst (λ (s : Result Scenario ScriptFault). TellsScript Tells s (result_map_both shows (λ fault. fault) result)) (sym is_in) (told, shown, rw refused refl);
      })
  script_refused fault is (inr (inr memory)) = inr (let wrong : result ≡ Err fault = is in cc)

-- the script that was read
pub text_read : (input text : List ℕ) (script : Scenario) → text ≡ input → IsUtf8 input → script_in text ≡ Ok script → IsScriptText input script
text_read input text script same utf8 is = record { utf8 = utf8; is = rw same at is }

-- why none was read
pub text_refused : (input text : List ℕ) (told : ScriptFault) (fault : Fault) → text ≡ input → IsUtf8 input → IsTextRefusal (script_in text) told → fault ≡ script_fault_of told
    → IsScriptFault input fault
text_refused input text told fault same utf8 (inl memory) named = inr (inr (named ∙ ap script_fault_of memory))
text_refused input text told fault same utf8 (inr (refused, is, shown)) named =
    let found : script_in input ≡ Err refused = rw same at is in
    inr (inl (utf8, (refused, told, found, shown, named)))
