use Rattle.toml.specs.View.{table_view}
use Rattle.tt_script.proofs.Counts.{length-machines, length-events}
use Rattle.tt_script.proofs.scripts.script_of.Goals as goal

pub invariant_of-result : goal.invariant_of-result
invariant_of-result c =
    let machines = length-machines (table_view c.args.table.now) c.in_ok-machines_in.field-0.items c.in_ok-machines_in.ensures in
    record {
      some_machine = machines.0;
      few_machines = machines.1;
      few_events = length-events (table_view c.args.table.now) c.in_ok-events_in.field-0.items c.in_ok-events_in.ensures;
    }
