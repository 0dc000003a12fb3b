-- How many machines, events and acts a script has.
use Rattle.std.proofs.Common.{◌≡◌, ◌<◌, ◌≤◌, ◌&&◌, true, nat_le, inl, inr, List, [], length, Option, Some, None, Ok, arith}
use Rattle.std.proofs.lemmas.Bool.{cases_Bool, and_parts, leb-true}
use Rattle.toml.specs.Data.{Data, Items, no_items, item, Members, as_array}
use Rattle.tt_daemon.specs.Config.{Configuration}
use Rattle.tt_world.specs.declared.events.Event.{Event}
use Rattle.tt_master.specs.declared.acts.Act.{Act}
use Rattle.tt_script.specs.declared.keys.Key.{Key}
use Rattle.tt_script.specs.declared.keys.Key.TheVariants as key
use Rattle.tt_script.specs.declared.faults.Part.{Part}
use Rattle.tt_script.specs.declared.faults.Part.TheVariants as part
use Rattle.tt_script.specs.Key.{rule_of}
use Rattle.tt_script.specs.Lookup.{found_at, value_at, count_of, has_few, are_tables, each, typed_value}
use Rattle.tt_script.specs.Fault.{◌>>=◌}
use Rattle.tt_script.specs.Machines.{machine_in, machines_if, machine_items_in, machines_in}
use Rattle.tt_script.specs.Events.{event_of, events_if, event_items_in, events_of, events_in}
use Rattle.tt_script.specs.Acts.{act_at, acts_if, act_items_in}
use Rattle.tt_script.proofs.Items.{both_steps, length-each}

-- as many items as a key takes
few_items : (key : Key) (items : Items) → has_few key items ≡ true → ((rule_of key).range.least ≤ count_of items) × (count_of items ≤ (rule_of key).range.most)
few_items key items h =
    let parts = and_parts (nat_le (rule_of key).range.least (count_of items)) (nat_le (count_of items) (rule_of key).range.most) h in
    (leb-true (rule_of key).range.least (count_of items) parts.0, leb-true (count_of items) (rule_of key).range.most parts.1)

count_of-acts_if : (p : Part) (items found : Items) → acts_if p items ≡ Ok found → (1 ≤ count_of found) × (count_of found ≤ 64)
count_of-acts_if p items found h =
    elim (cases_Bool (has_few key.Acts items)) [
      | inl few ↦
          let same : items ≡ found = cc (rw few at h) in
          rw (← same) (few_items key.Acts items few)
      | inr neither ↦ absurd (cc (rw neither at h))
    ]

-- a master has from 1 to 64 acts
pub length-acts : (p : Part) (d : Data) (items : Items) (acts : List Act) → act_items_in p d ≡ Ok items → each (act_at p) 0 items ≡ Ok acts → (0 < length acts) × (length acts ≤ 64)
length-acts p d items acts listed read =
    let step = both_steps (typed_value p key.Acts (as_array d)) (acts_if p) items listed in
    let few = count_of-acts_if p step.0 items step.2 in
    let same = length-each (act_at p) 0 items acts read in
    (omega arith, omega arith)

count_of-machines_if : (items found : Items) → machines_if items ≡ Ok found → (1 ≤ count_of found) × (count_of found ≤ 8)
count_of-machines_if no_items found h = absurd (cc)
count_of-machines_if (item d rest) found h =
    elim (cases_Bool (are_tables (item d rest) && has_few key.Machines (item d rest))) [
      | inl both ↦
          let same : item d rest ≡ found = cc (rw both at h) in
          rw (← same) (few_items key.Machines (item d rest) (and_parts (are_tables (item d rest)) (has_few key.Machines (item d rest)) both).1)
      | inr neither ↦ absurd (cc (rw neither at h))
    ]

-- a script has from 1 to 8 machines
pub length-machines : (t : Members) (configs : List Configuration) → machines_in t ≡ Ok configs → (0 < length configs) × (length configs ≤ 8)
length-machines t configs h =
    let whole = both_steps (machine_items_in t) (each machine_in 0) configs h in
    let value = both_steps (value_at part.Document key.Machines t) (λ d. typed_value part.Document key.Machines (as_array d) >>= machines_if) whole.0 whole.1 in
    let listed = both_steps (typed_value part.Document key.Machines (as_array value.0)) machines_if whole.0 value.2 in
    let few = count_of-machines_if listed.0 whole.0 listed.2 in
    let same = length-each machine_in 0 whole.0 configs whole.2 in
    (omega arith, omega arith)

count_of-events_if : (items found : Items) → events_if items ≡ Ok found → count_of found ≤ 4096
count_of-events_if items found h =
    elim (cases_Bool (are_tables items)) [
      | inl tables ↦ elim (cases_Bool (has_few key.Events items)) [
        | inl few ↦
            let same : items ≡ found = cc (rw (few) at (rw tables at h)) in
            rw (← same) (few_items key.Events items few).1
        | inr many ↦ absurd (cc (rw many at (rw tables at h)))
      ]
      | inr others ↦ absurd (cc (rw others at h))
    ]

length-events_of : (value : Option Data) (events : List Event) → events_of value ≡ Ok events → length events ≤ 4096
length-events_of None events h = let none : [] ≡ events = cc in rw (← none) (omega arith)
length-events_of (Some d) events h =
    let whole = both_steps (event_items_in d) (each event_of 0) events h in
    let listed = both_steps (typed_value part.Document key.Events (as_array d)) events_if whole.0 whole.1 in
    let few = count_of-events_if listed.0 whole.0 listed.2 in
    let same = length-each event_of 0 whole.0 events whole.2 in
    omega arith

-- a script has at most 4,096 events
pub length-events : (t : Members) (events : List Event) → events_in t ≡ Ok events → length events ≤ 4096
length-events t events h = length-events_of (found_at key.Events t) events h
