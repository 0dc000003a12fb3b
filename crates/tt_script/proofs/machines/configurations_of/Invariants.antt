use Rattle.std.proofs.Common.{◌≡◌, length, drop}
use Rattle.toml.specs.View.{items_view}
use Rattle.tt_script.specs.Lookup.{each}
use Rattle.tt_script.specs.Machines.{machine_in}
use Rattle.tt_script.proofs.Items.{after}
use Rattle.tt_script.proofs.machines.configurations_of.Given as goal

abbrev pub invariant-loop-item : goal.invariant-loop-item
invariant-loop-item l =
    each machine_in 0 (items_view l.item-items)
    ≡ after l.configs.items (each machine_in (length l.configs.items) (items_view (drop l.item-index l.item-items)))
