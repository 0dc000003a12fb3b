-- What is told of a text that is refused.
use Rattle.std.proofs.Common.{◌≡◌, ℕ, List, None, Ok, inl, inr, refl}
use Rattle.arrayvec.specs.ArrayString.{ArrayString}
use Rattle.toml.specs.Data.{Members}
use Rattle.toml.specs.Parse.{parse_document}
use Rattle.tt_script.specs.declared.faults.ScriptFault.{ScriptFault}
use Rattle.tt_script.specs.declared.faults.ScriptFault.TheVariants as script
use Rattle.tt_script.specs.Fault.{IsTold, IsRefusal, IsTextRefusal, not_toml}
use Rattle.tt_script.specs.Script.{document_in, script_of, script_in}

-- a refusal may be told as it is
told_itself : (fault : ScriptFault) → IsTold fault fault
told_itself (script.NotToml reason) = (reason, refl)
told_itself (script.MissingKey place) = refl
told_itself (script.WrongValue misfit) = refl
told_itself (script.UnknownStep event) = refl
told_itself script.TooManyEvents = refl
told_itself script.Memory = refl

-- a text that is no document is no script
pub document_refused : (text : List ℕ) (told : ScriptFault) → IsTextRefusal (document_in text) told → IsTextRefusal (script_in text) told
document_refused text told (inl memory) = inl memory
document_refused text told (inr (fault, is, shown)) = inr (fault, rw is refl, shown)

-- nor is a document whose script is refused
pub script_refused : (text : List ℕ) (t : Members) (told : ScriptFault) → document_in text ≡ Ok t → IsRefusal (script_of t) told → IsTextRefusal (script_in text) told
script_refused text t told is (inl memory) = inl memory
script_refused text t told is (inr refused) = inr (told, rw is refused, told_itself told)

-- a text that is no document is told in any words
pub not_document : (text : List ℕ) (reason : ArrayString) → parse_document text ≡ None → IsTextRefusal (document_in text) (script.NotToml reason)
not_document text reason none = inr (not_toml, rw none refl, (reason, refl))
