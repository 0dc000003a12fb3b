use Rattle.std.proofs.Common.{◌≡◌, ℕ, ◌*◌, ◌<◌, ◌/◌, List, length, Result, Ok, Err, refl, arith}
use Rattle.std.proofs.lemmas.Bool.Decides.{nat_tests}
use Rattle.hex.proofs.HexLemmas.{decode_of-ok}
use Rattle.hex.specs.Hex.{decode_of}
use Rattle.hex.specs.declared.error.FromHexError.{FromHexError}
use Rattle.tt_script.specs.declared.keys.Key.TheVariants as key
use Rattle.tt_script.specs.declared.faults.Part.{Part}
use Rattle.tt_script.specs.Fault.{wrong}
use Rattle.tt_script.specs.Events.{payload_if}
use Rattle.tt_script.proofs.events.payload_of.Goals as goal

-- more than 64 bytes are no payload
payload_if-long : (p : Part) (bytes : List ℕ) → 64 < length bytes → Err (wrong p key.Bytes) ≡ payload_if p (Ok bytes)
payload_if-long p bytes more = grind (arith, nat_tests)

-- nor is a text of more than 128 digits
payload_if-digits : (p : Part) (text : List ℕ) (read : Result (List ℕ) FromHexError) → decode_of text ≡ read → 64 < length text / 2 → Err (wrong p key.Bytes) ≡ payload_if p read
payload_if-digits p text (Ok bytes) h more =
    let twice : length text ≡ 2 * length bytes = (decode_of-ok text bytes h).2 in
    payload_if-long p bytes (omega arith)
payload_if-digits p text (Err e) h more = refl

pub returns-then-length-gt-MAX_PAYLOAD : goal.returns-then-length-gt-MAX_PAYLOAD
returns-then-length-gt-MAX_PAYLOAD c = rw c.wrong.ensures (payload_if-digits c.args.part c.args.text.now (decode_of c.args.text.now) refl (omega arith))
