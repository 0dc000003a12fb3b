use Rattle.std.proofs.Common.{refl}
use Rattle.std.proofs.lemmas.Bool.{iff_false}
use Rattle.tt_live.proofs.Answering.{gives_reading, gives_yes_or_no, gives_commit, only_commit}
use Rattle.tt_live.proofs.replies.gives_asked.Goals as goal

pub returns-then-answers_now : goal.returns-then-answers_now
returns-then-answers_now c =
    let both = c.if-answers_now.ensures.0 refl in
    (λ _. gives_reading c.args.line.now c.args.reply.now both.0 both.1, λ _. refl)

pub returns-then-answers_question : goal.returns-then-answers_question
returns-then-answers_question c =
    let both = c.if-answers_question.ensures.0 refl in
    (λ _. gives_yes_or_no c.args.line.now c.args.reply.now both.0 both.1, λ _. c.if-answers_question.true)

pub returns-else-answers_question : goal.returns-else-answers_question
returns-else-answers_question c =
    let no_now = iff_false c.answers_now.ensures c.if-answers_now.false in
    let no_question = iff_false c.answers_question.ensures c.if-answers_question.false in (
      λ is. gives_commit c.args.line.now c.args.reply.now (c.answers_commit.ensures.0 is),
      λ gives. c.answers_commit.ensures.1 (only_commit c.args.line.now c.args.reply.now no_now no_question gives),
    )
