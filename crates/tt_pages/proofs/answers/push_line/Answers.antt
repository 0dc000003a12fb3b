use Rattle.std.proofs.Common.{rules, append_assoc}
use Rattle.tt_pages.specs.Answer.{line_text}
use Rattle.tt_pages.proofs.answers.push_line.Goals as goal

pub returns : goal.returns
unfolding line_text
returns c = search (rules, append_assoc)
