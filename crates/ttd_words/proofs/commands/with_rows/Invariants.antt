-- The command so far, with the rows that are left, is that with all of them, and no argument is one of all commands.
use Rattle.std.proofs.Common.{◌≡◌, drop, false}
use Rattle.clap.specs.Words.{app_of}
use Rattle.clap.specs.declared.builder.command.Command.TheViews.{out-Command}
use Rattle.ttd_words.specs.CommandLine.{with_rows}
use Rattle.ttd_words.proofs.commands.with_rows.Given as goal

abbrev pub invariant-loop-row : goal.invariant-loop-row
invariant-loop-row l =
    (with_rows (drop l.row-index l.rows) (app_of l.command) ≡ with_rows l.rows (app_of l.fn.bare))
    × ((out-Command l.command).has_globals ≡ false)
