-- No name so far is unknown.
use Rattle.std.proofs.Common.{◌≡◌}
use Rattle.toml.specs.View.{members_view}
use Rattle.tt_settings.specs.Key.{unknown_among}
use Rattle.tt_settings.proofs.lookups.unknown_among.Given as goal

abbrev pub invariant-loop-name : goal.invariant-loop-name
invariant-loop-name l = unknown_among l.keys (members_view l.table.entries) ≡ unknown_among l.keys (members_view l.name-iterator)
