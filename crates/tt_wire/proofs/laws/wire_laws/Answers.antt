use Rattle.tt_wire.proofs.Moving.{moved_back-moved, moved-moved_back, moved_request-in, moved-request, moved-request-below, moved_back-answer}
use Rattle.tt_wire.proofs.Sealing.{outgoing_of-open, incoming_of-open, outgoing_of-short, incoming_of-came_sealed, outgoing_of-opens, polled}
use Rattle.tt_wire.proofs.laws.wire_laws.Goals as goal

pub returns-clause-back : goal.returns-clause-back
returns-clause-back c = moved_back-moved

pub returns-clause-forth : goal.returns-clause-forth
returns-clause-forth c = moved-moved_back

pub returns-clause-counted : goal.returns-clause-counted
returns-clause-counted c = moved-request-below

pub returns-clause-asked : goal.returns-clause-asked
returns-clause-asked c = λ ahead r fits is. (moved_request-in ahead r fits is, moved-request ahead r is)

pub returns-clause-answered : goal.returns-clause-answered
returns-clause-answered c = moved_back-answer

pub returns-clause-open_sends : goal.returns-clause-open_sends
returns-clause-open_sends c = outgoing_of-open

pub returns-clause-open_hands_up : goal.returns-clause-open_hands_up
returns-clause-open_hands_up c = incoming_of-open

pub returns-clause-fits : goal.returns-clause-fits
returns-clause-fits c = outgoing_of-short

pub returns-clause-came_sealed : goal.returns-clause-came_sealed
returns-clause-came_sealed c = incoming_of-came_sealed

pub returns-clause-sent_opens : goal.returns-clause-sent_opens
returns-clause-sent_opens c = outgoing_of-opens

pub returns-clause-polled : goal.returns-clause-polled
returns-clause-polled c = polled
