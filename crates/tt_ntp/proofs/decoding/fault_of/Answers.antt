use Rattle.std.proofs.Common.{sym, ◌∙◌}
use Rattle.tt_ntp.proofs.Refusing.{refused_by_head, refused_by_kiss, refused_by_clock, left_to_times}
use Rattle.tt_ntp.proofs.decoding.fault_of.Goals as goal

pub returns-in-Some-clause-value : goal.returns-in-Some-clause-value
returns-in-Some-clause-value c = sym (refused_by_head c.args.query c.args.bytes.now c.in-Some.fault (sym c.in-Some.ensures.value))

pub returns-in-Some-kiss_fault-clause-value : goal.returns-in-Some-kiss_fault-clause-value
returns-in-Some-kiss_fault-clause-value c = sym (refused_by_kiss c.args.query c.args.bytes.now c.in-Some-kiss_fault.fault (sym c.in_default.ensures.value) (sym c.in-Some-kiss_fault.ensures))

pub returns-in-Some-clock_fault-clause-value : goal.returns-in-Some-clock_fault-clause-value
returns-in-Some-clock_fault-clause-value c = sym (refused_by_clock c.args.query c.args.bytes.now c.in-Some-clock_fault.fault (sym c.in_default.ensures.value) (sym c.in_default-kiss_fault.ensures) (sym c.in-Some-clock_fault.ensures))

pub returns-clause-value : goal.returns-clause-value
returns-clause-value c = c.time_fault.ensures.value ∙ sym (left_to_times c.args.query c.args.bytes.now (sym c.in_default.ensures.value) (sym c.in_default-kiss_fault.ensures) (sym c.in_default-clock_fault.ensures))
