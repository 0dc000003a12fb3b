use Rattle.std.proofs.Common.{rules, ◌≡◌, ◌++◌}
use Rattle.std.specs.Prelude.{OnOk, codes, string_bytes}
use Rattle.tt_status.proofs.Appending.{then, then_on_ok}
use Rattle.tt_status.proofs.infos.push_info.Goals as goal

pub returns : goal.returns
returns c =
    let old = string_bytes c.args.text.now in
    let last : OnOk c.push_str.result (string_bytes c.push_str.new.self ≡ string_bytes c.push_address_label.new.text ++ codes "} 1\n") = search rules in
    then_on_ok c.push_str.result old _ _ _ _
    (then old _ _ _ _ (then old _ _ _ _ c.in_ok-push_begun.ensures c.in_ok-push_number.ensures) c.in_ok-push_address_label.ensures)
    last
