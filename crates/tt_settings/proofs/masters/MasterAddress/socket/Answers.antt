use Rattle.std.specs.Prelude.{string_bytes}
use Rattle.tt_settings.proofs.Asking.{asked_usable, asked_named}
use Rattle.tt_settings.proofs.masters.MasterAddress.socket.Goals as goal

pub returns-clause-usable : goal.returns-clause-usable
returns-clause-usable c = asked_usable (string_bytes c.self.inside.text) c.address_of.result c.self.invariant (rw c.as_str.ensures.value at c.address_of.ensures.value)

pub returns-clause-named : goal.returns-clause-named
returns-clause-named c =
    rw (← c.self.view_is) (asked_named (string_bytes c.self.inside.text) c.address_of.result c.self.invariant (rw c.as_str.ensures.value at c.address_of.ensures.value))
