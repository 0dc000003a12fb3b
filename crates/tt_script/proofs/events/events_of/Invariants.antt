use Rattle.std.proofs.Common.{◌≡◌, length, drop}
use Rattle.toml.specs.View.{items_view}
use Rattle.tt_script.specs.Lookup.{each}
use Rattle.tt_script.specs.Events.{event_of}
use Rattle.tt_script.proofs.Items.{after}
use Rattle.tt_script.proofs.events.events_of.Given as goal

abbrev pub invariant-loop-item : goal.invariant-loop-item
invariant-loop-item l =
    each event_of 0 (items_view l.item-items)
    ≡ after l.events.items (each event_of (length l.events.items) (items_view (drop l.item-index l.item-items)))
