-- The numbers of the refusals.
use Rattle.std.specs.Prelude.{ℕ}
use Rattle.tt_poll.specs.declared.faults.PollFault.{PollFault}
use Rattle.tt_poll.specs.declared.faults.PollFault.TheVariants.{Length, Magic, Kind, Reserved, Number, Nonce, Epoch, Span}

-- the number of each refusal
abbrev pub number_of : PollFault → ℕ
number_of Length = 201
number_of Magic = 202
number_of Kind = 203
number_of Reserved = 204
number_of Number = 205
number_of Nonce = 206
number_of Epoch = 208
number_of Span = 207
