use Rattle.std.proofs.Common.{◌≡◌, drop}
use Rattle.toml.specs.View.{items_view}
use Rattle.tt_script.specs.Lookup.{are_tables}
use Rattle.tt_script.proofs.lookups.are_tables.Given as goal

abbrev pub invariant-loop-item : goal.invariant-loop-item
invariant-loop-item l = are_tables (items_view l.item-items) ≡ are_tables (items_view (drop l.item-index l.item-items))
