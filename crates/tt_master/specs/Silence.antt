-- The numbers of the reasons why a master over a reference of intervals does not answer.
use Rattle.std.specs.Prelude.{ℕ}
use Rattle.tt_master.specs.declared.faults.MasterFault.{MasterFault}
use Rattle.tt_master.specs.declared.faults.MasterFault.TheVariants as fault
use Rattle.tt_master.specs.declared.silences.Silence.{Silence}
use Rattle.tt_master.specs.declared.silences.Silence.TheVariants.{Clock, Unanswered, Old, Refused, Stopped, Leap, Disagreed, Stepped}
use Rattle.tt_master.specs.declared.silences.NoAnswer.{NoAnswer}
use Rattle.tt_master.specs.declared.silences.NoAnswer.TheVariants.{BadMessage, OtherSource, NotRequest, Silent}

-- the number of each reason why a reference states no interval
abbrev pub silence_number_of : Silence → ℕ
silence_number_of Clock = 2401
silence_number_of Unanswered = 2402
silence_number_of Old = 2403
silence_number_of Refused = 2404
silence_number_of Stopped = 2405
silence_number_of Leap = 2406
silence_number_of Disagreed = 2407
silence_number_of Stepped = 2408

-- the number of each reason why a packet is not answered
abbrev pub no_answer_number_of : NoAnswer → ℕ
no_answer_number_of BadMessage = 301
no_answer_number_of OtherSource = 302
no_answer_number_of NotRequest = 303
no_answer_number_of (Silent silence) = silence_number_of silence

-- why a packet is not answered in which no request to the source was read for this reason (the last of the three, since
-- bytes are refused for no other)
abbrev pub unheard_as : MasterFault → NoAnswer
unheard_as fault.BadMessage = BadMessage
unheard_as fault.OtherSource = OtherSource
unheard_as _ = NotRequest
