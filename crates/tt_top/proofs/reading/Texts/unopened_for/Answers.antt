use Rattle.std.proofs.Common.{rules, append_assoc, ◌≡◌}
use Rattle.tt_top.specs.View.{number_label, unopened_for}
use Rattle.tt_top.proofs.reading.Texts.unopened_for.Goals as goal

pub returns : goal.returns
unfolding unopened_for
returns c =
    let labels : c.as_str.result.now ≡ number_label c.args.source c.args.number.now = search (rules, append_assoc) in
    rw labels at c.count.ensures
