use Rattle.std.proofs.Common.{◌≡◌, ◌++◌, List, ℕ, map, take, sym, ap, ◌∙◌}
use Rattle.std.specs.Prelude.{string_bytes}
use Rattle.tt_status.specs.Info.{info_text, infos_text}
use Rattle.tt_status.proofs.Appending.{then}
use Rattle.tt_status.proofs.Numbered.{infos_more}
use Rattle.tt_status.proofs.infos.push_infos.Goals as goal

pub loop-source-preserved : goal.loop-source-preserved
loop-source-preserved c =
    let machine = c.args.machine in
    let addresses = c.args.addresses.now in
    let source = c.loop-source.source in
    let address = c.index-addresses-source.result in
    let old = string_bytes c.args.text.now in
    let before = infos_text machine (map string_bytes (take source addresses)) in
    let value : c.as_str.result.now ≡ string_bytes address = c.as_str.ensures.value in
    let pushed : string_bytes c.push_info.new.text ≡ string_bytes c.loop-source.text ++ info_text machine source (string_bytes address) =
    c.in_ok-push_info.ensures ∙ ap (λ (t : List ℕ). string_bytes c.loop-source.text ++ info_text machine source t) value in
    then old _ _ before (info_text machine source (string_bytes address)) c.loop-source.invariant pushed
    ∙ ap (λ (t : List ℕ). old ++ t) (sym (infos_more string_bytes machine source addresses address c.loop-source-test.true c.index-addresses-source.is))
