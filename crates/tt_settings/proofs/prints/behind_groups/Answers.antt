use Rattle.std.proofs.Common.{arith, option_copied}
use Rattle.std.proofs.lemmas.Grind.{common_steps}
use Rattle.tt_settings.proofs.Behind.{groups_parts}
use Rattle.tt_settings.proofs.prints.behind_groups.Goals as goal

pub returns-in-len1-up : goal.returns-in-len1-up
returns-in-len1-up c =
    let parts = groups_parts c.args.segments.now (option_copied c.args.text) c.in-len1-up.len_at_least in
    grind (arith, common_steps, parts, c.behind_later.ensures, c.behind_hex.ensures)
