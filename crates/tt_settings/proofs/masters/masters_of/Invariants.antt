use Rattle.std.proofs.Common.{◌≡◌, drop}
use Rattle.toml.specs.View.{items_view}
use Rattle.tt_settings.specs.Lookup.{each}
use Rattle.tt_settings.specs.Master.{member_in}
use Rattle.tt_settings.proofs.Items.{after}
use Rattle.tt_settings.proofs.masters.masters_of.Given as goal

abbrev pub invariant-loop-item : goal.invariant-loop-item
invariant-loop-item l =
    each (member_in l.list) (items_view l.item-items)
    ≡ after l.masters.items (each (member_in l.list) (items_view (drop l.item-index l.item-items)))
