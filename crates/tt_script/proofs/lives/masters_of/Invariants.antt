use Rattle.std.proofs.Common.{◌≡◌, length, drop}
use Rattle.toml.specs.View.{items_view}
use Rattle.tt_script.specs.Lookup.{each}
use Rattle.tt_script.specs.Lives.{master_of}
use Rattle.tt_script.proofs.Items.{after}
use Rattle.tt_script.proofs.lives.masters_of.Given as goal

abbrev pub invariant-loop-item : goal.invariant-loop-item
invariant-loop-item l =
    each master_of 0 (items_view l.item-items)
    ≡ after l.masters.items (each master_of (length l.masters.items) (items_view (drop l.item-index l.item-items)))
