use Rattle.std.proofs.Common.{◌≡◌, ◌-◌, ◌<◌, [], map, vec_len, vec_capacity}
use Rattle.std.specs.List.{range_with_len}
use Rattle.tt_stamp.specs.Stamping.{new_seat}
use Rattle.tt_stamp.specs.Sequencing.{view_of}
use Rattle.tt_stamp.proofs.sequencers.Sequencer.open.Given as goal

-- so many seats are open, and the first token has the numbers that are left
abbrev pub invariant-loop-table : goal.invariant-loop-table
invariant-loop-table l = record {
  items : l.opened.items ≡ map (new_seat l.table.shared.table_id l.seats) (range_with_len 0 (vec_len l.opened));
  more : vec_len l.opened < l.seats;
  room : vec_capacity l.opened ≡ l.seats;
  table : l.token.table_id ≡ l.table.shared.table_id;
  left : l.token.me ≡ (view_of l.seats (range_with_len (vec_len l.opened) (l.seats - vec_len l.opened)) [], []);
}

abbrev pub decreases-loop-table : goal.decreases-loop-table
decreases-loop-table l = l.seats - vec_len l.opened
