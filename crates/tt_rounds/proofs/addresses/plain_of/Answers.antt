use Rattle.std.proofs.Common.{◌∙◌, refl}
use Rattle.tt_rounds.proofs.Addressing.{end_of-mapped}
use Rattle.tt_rounds.proofs.addresses.plain_of.Goals as goal

pub returns-in-Some-clause-same : goal.returns-in-Some-clause-same
returns-in-Some-clause-same c =
    let found = c.in-Some.ensures in
    rw c.in-V6.is (end_of-mapped c.new.result c.in-V6.six c.in-Some.four c.ip.result.now c.new.ensures.ip (c.new.ensures.port ∙ c.port.ensures) c.ip.ensures (found.found.0 refl) found.value)
