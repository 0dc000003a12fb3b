use Rattle.std.proofs.Common.{◌≡◌, length, drop}
use Rattle.toml.specs.View.{items_view}
use Rattle.tt_script.specs.Lookup.{each}
use Rattle.tt_script.specs.Lives.{line_at}
use Rattle.tt_script.proofs.Items.{after}
use Rattle.tt_script.proofs.lives.lines_of.Given as goal

abbrev pub invariant-loop-item : goal.invariant-loop-item
invariant-loop-item l =
    each (line_at l.part) 0 (items_view l.item-items)
    ≡ after l.lines.items (each (line_at l.part) (length l.lines.items) (items_view (drop l.item-index l.item-items)))
