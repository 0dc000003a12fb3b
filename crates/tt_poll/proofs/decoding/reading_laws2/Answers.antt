use Rattle.tt_poll.proofs.Bytes.{IsBytes-spelling_of2}
use Rattle.tt_poll.proofs.Refusing.{read_of2-refused}
use Rattle.tt_poll.proofs.Finding.{spelling_of2-read}
use Rattle.tt_poll.proofs.Taking.{read_of2-spelling_of2, read_of2-spelling_of, read_of-spelling_of2, format_of-spelling_of2}
use Rattle.tt_poll.proofs.decoding.reading_laws2.Goals as goal

pub returns-clause-found : goal.returns-clause-found
returns-clause-found c = spelling_of2-read

pub returns-clause-taken : goal.returns-clause-taken
returns-clause-taken c = read_of2-spelling_of2

pub returns-clause-refused : goal.returns-clause-refused
returns-clause-refused c = read_of2-refused

pub returns-clause-bytes : goal.returns-clause-bytes
returns-clause-bytes c = IsBytes-spelling_of2

pub returns-clause-no_first_format : goal.returns-clause-no_first_format
returns-clause-no_first_format c = read_of2-spelling_of

pub returns-clause-no_second_format : goal.returns-clause-no_second_format
returns-clause-no_second_format c = read_of-spelling_of2

pub returns-clause-format : goal.returns-clause-format
returns-clause-format c = format_of-spelling_of2
