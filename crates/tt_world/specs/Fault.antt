-- The numbers of the refusals.
use Rattle.std.specs.Prelude.{ℕ}
use Rattle.tt_world.specs.declared.events.Reply.{Reply}
use Rattle.tt_world.specs.declared.events.Reply.TheVariants.{Refused}
use Rattle.tt_world.specs.declared.faults.WorldFault.{WorldFault}
use Rattle.tt_world.specs.declared.faults.WorldFault.TheVariants as bad

-- the number of each reason why an event is bad, why there is no world, and of an allocation that failed
abbrev pub number_of : WorldFault → ℕ
number_of bad.TimeBack = 1201
number_of bad.ClockBack = 1202
number_of bad.NoPacket = 1203
number_of bad.NoPublication = 1204
number_of bad.NothingThere = 1205
number_of bad.UnknownNumber = 1206
number_of bad.Machines = 1207
number_of bad.LivesUsedUp = 1208
number_of bad.Memory = 1

-- the reply to an event that is bad for this reason
abbrev pub bad_reply : WorldFault → Reply
bad_reply fault = Refused (number_of fault)
