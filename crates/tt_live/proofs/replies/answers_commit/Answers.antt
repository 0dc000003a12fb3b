use Rattle.tt_live.proofs.Answering.{told_of_asked, asked_of_told}
use Rattle.tt_live.proofs.replies.answers_commit.Goals as goal

pub returns-in-Some : goal.returns-in-Some
returns-in-Some c = (
  λ is. told_of_asked c.args.line.now c.args.reply.now c.in-Some.number c.in-Some._floor c.in-Some.ensures (c.tells_of.ensures.0 is),
  λ told. c.tells_of.ensures.1 (asked_of_told c.args.line.now c.args.reply.now c.in-Some.number c.in-Some._floor c.in-Some.ensures told),
)
