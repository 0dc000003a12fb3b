-- The numbers of the refusals, and which faults of the node a run has.
use Rattle.std.specs.Prelude.{ℕ}
use Rattle.tt_publish.specs.declared.faults.PublishFault.TheVariants as publishes
use Rattle.tt_rounds.specs.Fault.{number_of as node_number_of}
use Rattle.tt_rounds.specs.declared.faults.NodeFault.{NodeFault}
use Rattle.tt_rounds.specs.declared.faults.NodeFault.TheVariants as node
use Rattle.tt_live.specs.declared.faults.LiveFault.{LiveFault}
use Rattle.tt_live.specs.declared.faults.LiveFault.TheVariants.{NoLive, Unfit, Node}

-- the number of each reason why a script is not run live, or its run ended
abbrev pub number_of : LiveFault → ℕ
number_of NoLive = 1302
number_of Unfit = 1303
number_of (Node fault) = node_number_of fault

-- the faults of sockets: memory ran out, or a socket failed
abbrev pub IsSocketFault : NodeFault → Type 0
IsSocketFault node.Memory = Unit {0}
IsSocketFault node.LinkFailed = Unit {0}
IsSocketFault _ = ⊥

-- the faults with which the thread of a master or of a client ends: those of sockets, and that of a master's clock
abbrev pub IsEndFault : NodeFault → Type 0
IsEndFault node.ReferenceFailed = Unit {0}
IsEndFault fault = IsSocketFault fault

-- the faults that end a run: those of its threads, that of the node's clocks, and that a fusion was not published or no place for a reader
-- was given
abbrev pub EndsRun : NodeFault → Type 0
EndsRun node.ClockFailed = Unit {0}
EndsRun (node.Publish publishes.ClockBack) = Unit {0}
EndsRun (node.Publish publishes.Places) = Unit {0}
EndsRun (node.Publish publishes.Memory) = Unit {0}
EndsRun fault = IsEndFault fault

-- what `live` refuses: a script that is not run, and what ends a run
abbrev pub IsLiveFault : LiveFault → Type 0
IsLiveFault NoLive = Unit {0}
IsLiveFault Unfit = Unit {0}
IsLiveFault (Node fault) = EndsRun fault
