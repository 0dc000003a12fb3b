use Rattle.std.specs.Prelude.{codes, string_bytes}
use Rattle.tt_text.specs.Line.{space_and_number}
use Rattle.tt_audit.specs.Text.{breach_text}
use Rattle.tt_audit.proofs.Appending.{OnOk-three}
use Rattle.tt_audit.proofs.writing.push_broken.Goals as goal

pub returns : goal.returns
returns c =
    OnOk-three c.push_breach.result (string_bytes c.args.text.now) _ _ _ (codes "premise broken") (space_and_number c.args.broken.now.event) (breach_text c.args.broken.now.breach)
    c.in_ok-push_str.ensures.bytes c.in_ok-write.ensures.bytes c.push_breach.ensures
