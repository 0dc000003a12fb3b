use Rattle.tt_answers.proofs.Sealing.{seals-answer}
use Rattle.tt_answers.proofs.laws.answer_laws.Goals as goal

pub returns : goal.returns
returns g c = record { sealed = λ link_of desk_of before after master master' span turn. seals-answer g.R.SpanReference.gives g.L.Link.does link_of desk_of before after master master' span turn }
