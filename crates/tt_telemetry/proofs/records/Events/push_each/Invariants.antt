-- The events of the sources so far were added.
use Rattle.std.proofs.Common.{◌≡◌, ◌+◌, ◌++◌, map, take}
use Rattle.tt_telemetry.specs.Records.{event_about, events_in}
use Rattle.tt_telemetry.proofs.records.Events.push_each.Given as goal

abbrev pub invariant-loop-source : goal.invariant-loop-source
invariant-loop-source l =
    record {
      events : events_in l.self ≡ events_in l.initial.self ++ map (event_about l.about) (take l.source-index l.sources);
      count : l.self.count ≡ l.initial.self.count + l.source-index;
    }
