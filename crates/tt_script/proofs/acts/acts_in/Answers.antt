use Rattle.toml.specs.View.{view, array_view}
use Rattle.tt_script.proofs.Counts.{length-acts}
use Rattle.tt_script.proofs.acts.acts_in.Goals as goal

pub invariant_of-result : goal.invariant_of-result
invariant_of-result c =
    length-acts c.args.part (view c.args.value.now) (array_view c.in_ok-act_items_in.field-0.now) c.in_ok-items.items.items c.in_ok-act_items_in.ensures c.in_ok-items.ensures
