use Rattle.std.proofs.Common.{◌≡◌}
use Rattle.tt_stamp.specs.Stamp.{least_above}
use Rattle.tt_stamp.specs.Stamping.{SeatLooks, stamps_of}
use Rattle.tt_stamp.proofs.sequencers.Sequencer.stamp.Given as goal

-- the seat has only looked, and the word is that of what it has seen
abbrev pub invariant-loop : goal.invariant-loop
invariant-loop g l = record {
  looked : SeatLooks l.fn.seat l.seat;
  last_word : l.word ≡ least_above (stamps_of l.seat.seen);
}
