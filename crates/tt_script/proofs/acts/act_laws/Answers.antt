use Rattle.tt_script.proofs.ActTexts.{act_in-act_text, act_in-some}
use Rattle.tt_script.proofs.acts.act_laws.Goals as goal

pub returns-clause-reads_back : goal.returns-clause-reads_back
returns-clause-reads_back c = act_in-act_text

pub returns-clause-only : goal.returns-clause-only
returns-clause-only c = act_in-some
