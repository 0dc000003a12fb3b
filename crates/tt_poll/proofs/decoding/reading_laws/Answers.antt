use Rattle.tt_poll.proofs.Bytes.{IsBytes-spelling_of}
use Rattle.tt_poll.proofs.Refusing.{read_of-refused}
use Rattle.tt_poll.proofs.Finding.{spelling_of-read}
use Rattle.tt_poll.proofs.Taking.{read_of-spelling_of, format_of-spelling_of}
use Rattle.tt_poll.proofs.decoding.reading_laws.Goals as goal

pub returns-clause-found : goal.returns-clause-found
returns-clause-found c = spelling_of-read

pub returns-clause-taken : goal.returns-clause-taken
returns-clause-taken c = read_of-spelling_of

pub returns-clause-refused : goal.returns-clause-refused
returns-clause-refused c = read_of-refused

pub returns-clause-bytes : goal.returns-clause-bytes
returns-clause-bytes c = IsBytes-spelling_of

pub returns-clause-format : goal.returns-clause-format
returns-clause-format c = format_of-spelling_of
