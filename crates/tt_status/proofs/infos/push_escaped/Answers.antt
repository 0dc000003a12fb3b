use Rattle.std.proofs.Common.{◌++◌, ℕ, List, flat_map, sym, ap, ◌∙◌, map-id}
use Rattle.std.specs.Prelude.{string_bytes}
use Rattle.std.proofs.lemmas.Iterator.{YieldsList-from_chars}
use Rattle.std.proofs.lemmas.Iterator.Consumers.{YieldsList-end}
use Rattle.tt_status.specs.Info.{escaped_char}
use Rattle.tt_status.proofs.infos.push_escaped.Goals as goal

pub returns : goal.returns
returns c =
    let end = YieldsList-end (YieldsList-from_chars c.args.plain.now c.utf8.plain cc) c.loop-letter.yielded _ c.loop-letter.yielded_by _ _ c.in-None.is c.next.ensures.steps in
    c.loop-letter.invariant ∙ ap (λ (letters : List ℕ). string_bytes c.args.text.now ++ flat_map escaped_char letters) (sym (map-id c.loop-letter.yielded) ∙ end.0)
