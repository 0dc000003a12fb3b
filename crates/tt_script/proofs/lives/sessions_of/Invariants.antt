use Rattle.std.proofs.Common.{◌≡◌, length, drop}
use Rattle.toml.specs.View.{items_view}
use Rattle.tt_script.specs.Lookup.{each}
use Rattle.tt_script.specs.Lives.{session_in}
use Rattle.tt_script.proofs.Items.{after}
use Rattle.tt_script.proofs.lives.sessions_of.Given as goal

abbrev pub invariant-loop-item : goal.invariant-loop-item
invariant-loop-item l =
    each session_in 0 (items_view l.item-items)
    ≡ after l.sessions.items (each session_in (length l.sessions.items) (items_view (drop l.item-index l.item-items)))
