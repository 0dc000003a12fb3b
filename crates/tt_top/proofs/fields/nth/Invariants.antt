use Rattle.std.proofs.Common.{◌≡◌}
use Rattle.std.specs.Option.{option_map}
use Rattle.tt_top.specs.Field.{nth_behind}
use Rattle.tt_top.proofs.fields.nth.Given as goal

abbrev pub invariant-loop-line : goal.invariant-loop-line
invariant-loop-line l = option_map (λ rest. rest.now) l.rest ≡ nth_behind l.words l._line l.text
