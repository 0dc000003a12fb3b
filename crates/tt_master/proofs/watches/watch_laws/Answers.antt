use Rattle.tt_master.proofs.Watching.{exact, no_alarm, never_silenced, seen}
use Rattle.tt_master.proofs.watches.watch_laws.Goals as goal

pub returns-clause-exact : goal.returns-clause-exact
returns-clause-exact c = exact

pub returns-clause-no_false_alarm : goal.returns-clause-no_false_alarm
returns-clause-no_false_alarm c = no_alarm

pub returns-clause-true_statement : goal.returns-clause-true_statement
returns-clause-true_statement c = never_silenced

pub returns-clause-seen : goal.returns-clause-seen
returns-clause-seen c = seen
