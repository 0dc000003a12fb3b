use Rattle.std.proofs.Common.{arith, take, drop, ◌+◌, lt-ltb, option_copied}
use Rattle.std.proofs.lemmas.Grind.{common_steps}
use Rattle.std.specs.Net.Text.{hex_groups_text, groups_text}
use Rattle.tt_settings.proofs.Behind.{colons_parts}
use Rattle.tt_settings.proofs.prints.behind_compressed.Goals as goal

pub returns-then-run-gt1 : goal.returns-then-run-gt1
unfolding hex_groups_text
returns-then-run-gt1 c =
    let start = c.longest_zero_run-start.result.0 in
    let run = c.longest_zero_run-start.result.1 in
    let segments = c.args.segments.now in
    let parts = colons_parts (groups_text (take start segments)) (groups_text (drop (start + run) segments)) (option_copied c.args.text) in
    rw (← c.longest_zero_run-start.ensures.value, lt-ltb 1 run c.if-run-gt1.true)
    (grind (arith, common_steps, parts, c.behind_groups.ensures, c.behind-rest.ensures, c.behind_groups-rest.ensures))
