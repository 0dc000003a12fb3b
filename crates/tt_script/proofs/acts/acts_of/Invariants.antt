use Rattle.std.proofs.Common.{◌≡◌, length, drop}
use Rattle.toml.specs.View.{items_view}
use Rattle.tt_script.specs.Lookup.{each}
use Rattle.tt_script.specs.Acts.{act_at}
use Rattle.tt_script.proofs.Items.{after}
use Rattle.tt_script.proofs.acts.acts_of.Given as goal

abbrev pub invariant-loop-item : goal.invariant-loop-item
invariant-loop-item l =
    each (act_at l.part) 0 (items_view l.item-items)
    ≡ after l.acts.items (each (act_at l.part) (length l.acts.items) (items_view (drop l.item-index l.item-items)))
