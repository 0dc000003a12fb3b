-- The numbers of the refusals.
use Rattle.std.specs.Prelude.{◌≡◌, ℕ, List, length}
use Rattle.tt_daemon.specs.Publication.{Publication}
use Rattle.tt_publish.specs.Fault.{publish_number_of}
use Rattle.tt_publish.specs.declared.faults.PublishFault.TheVariants.{ClockBack, UsedUp, Places, Memory}
use Rattle.tt_stamp.specs.Fault.{number_of as stamp_number_of}
use Rattle.tt_rounds.specs.declared.faults.LinkFault.{LinkFault}
use Rattle.tt_rounds.specs.declared.faults.LinkFault.TheVariants as links
use Rattle.tt_rounds.specs.declared.faults.NodeFault.{NodeFault}
use Rattle.tt_rounds.specs.declared.faults.NodeFault.TheVariants as node

-- the number of each reason why a link did not send or receive
abbrev pub link_number_of : LinkFault → ℕ
link_number_of links.Failed = 1501

-- the number of each reason why the rounds, a master or the node ended
abbrev pub number_of : NodeFault → ℕ
number_of node.LinkFailed = 1501
number_of node.ClockFailed = 1502
number_of node.BadLimits = 1503
number_of node.GateClosed = 1504
number_of node.ReferenceFailed = 304
number_of (node.Publish fault) = publish_number_of fault
number_of (node.Stamp fault) = stamp_number_of fault
number_of node.Memory = 1

-- a device of the daemon failed
abbrev pub IsDeviceFault : NodeFault → Type 0
IsDeviceFault node.LinkFailed = Unit {0}
IsDeviceFault node.ClockFailed = Unit {0}
IsDeviceFault _ = ⊥

-- the faults with which the rounds of a daemon end by whom these are published: a device failed, or a fusion was not published, for want of numbers only where as many as may are
abbrev pub IsRoundsFault : List Publication → NodeFault → Type 0
IsRoundsFault published node.LinkFailed = Unit {0}
IsRoundsFault published node.ClockFailed = Unit {0}
IsRoundsFault published (node.Publish ClockBack) = Unit {0}
IsRoundsFault published (node.Publish UsedUp) = length published ≡ 18446744073709551615
IsRoundsFault published (node.Publish Memory) = Unit {0}
IsRoundsFault published _ = ⊥

-- the faults with which the first rounds of a daemon end, which are too few to use up the numbers
abbrev pub IsFirstFault : NodeFault → Type 0
IsFirstFault node.LinkFailed = Unit {0}
IsFirstFault node.ClockFailed = Unit {0}
IsFirstFault (node.Publish ClockBack) = Unit {0}
IsFirstFault (node.Publish Memory) = Unit {0}
IsFirstFault _ = ⊥

-- the faults that only a daemon ends a node with: a device of it failed, or its clock went back behind its last publication
abbrev pub IsDaemonFault : NodeFault → Type 0
IsDaemonFault node.LinkFailed = Unit {0}
IsDaemonFault node.ClockFailed = Unit {0}
IsDaemonFault (node.Publish ClockBack) = Unit {0}
IsDaemonFault _ = ⊥

-- the faults with which the turns of a master end: its link or its reference failed
abbrev pub IsTurnsFault : NodeFault → Type 0
IsTurnsFault node.LinkFailed = Unit {0}
IsTurnsFault node.ReferenceFailed = Unit {0}
IsTurnsFault _ = ⊥

-- the faults of a node: the limits, what was opened or published, its memory and its threads, and its daemon's devices
abbrev pub IsRunFault : NodeFault → Type 0
IsRunFault node.BadLimits = Unit {0}
IsRunFault (node.Publish Places) = Unit {0}
IsRunFault node.Memory = Unit {0}
IsRunFault fault = IsFirstFault fault
